-- Table files.
--     table_of columns bytes      the rows of a table file, or its first refused record
use Rattle.std.{specs.Prelude.{ℕ, ◌+◌, ◌==◌, Bool, not, List, [], ◌∷◌, Option, Some, None, Result, Ok, Err, map, length, nat_lt, if◌then◌else◌}, specs.Cmp.Lexicographic.pointwise}
use Rattle.tick_model.{specs.declared.plan.ColumnSpec.ColumnSpec, specs.Names.same_name}
use Rattle.feed_reader.{specs.declared.fault.TextKind.TextKind, specs.declared.fault.TextKind.TheVariants.{Header, FieldCount, BadNumber, NotUtf8, TooLong}, specs.declared.raw.RawCell.RawCell, specs.declared.raw.RawRow.RawRow, specs.declared.raw.RawTable.RawTable, specs.Answers.{Reading, read_on}, specs.Cells.cells_of, specs.Records.{records_of, are_texts}}

-- the first record has the names of the columns
abbrev pub names_of : List ColumnSpec → List (List ℕ)
names_of = map (λ column. column.name)

abbrev pub same_names : List (List ℕ) → List (List ℕ) → Bool
same_names = pointwise same_name

abbrev pub header_fault : List ColumnSpec → List (List ℕ) → Option TextKind
header_fault columns fields =
    if not (are_texts fields) then Some NotUtf8
    else (if not (same_names fields (names_of columns)) then Some Header else None)

-- each later record has a cell for each column, and is the row of the next key; there are at most 4,194,304 rows
abbrev pub row_under : ℕ → Option (List RawCell) → Result RawRow TextKind
row_under key None = Err BadNumber
row_under key (Some cells) = if nat_lt key 4194304 then Ok (record { key = key; cells = cells }) else Err TooLong

abbrev pub whole_row : List ColumnSpec → ℕ → List (List ℕ) → Result RawRow TextKind
whole_row columns key fields = if length fields == length columns then row_under key (cells_of columns fields) else Err FieldCount

abbrev pub row_of : List ColumnSpec → ℕ → List (List ℕ) → Result RawRow TextKind
row_of columns key fields = if are_texts fields then whole_row columns key fields else Err NotUtf8

-- the row of key 0 is the second record, and so on
abbrev pub rows_from : List ColumnSpec → ℕ → List (List (List ℕ)) → Reading (List RawRow)
rows_from columns key [] = Ok []
rows_from columns key (fields ∷ others) = read_on (key + 2) (row_of columns key fields) (λ row. rows_from columns (key + 1) others)

abbrev pub table_with : Reading (List RawRow) → Reading RawTable
table_with (Ok rows) = Ok (record { rows = rows })
table_with (Err refused) = Err refused

abbrev pub after_header : Option TextKind → Reading (List RawRow) → Reading RawTable
after_header (Some kind) rows = Err (1, kind)
after_header None rows = table_with rows

abbrev pub table_in : List ColumnSpec → List (List (List ℕ)) → Reading RawTable
table_in columns [] = Err (1, Header)
table_in columns (header ∷ others) = after_header (header_fault columns header) (rows_from columns 0 others)

-- a file has at most 67,108,864 bytes
abbrev pub table_of : List ColumnSpec → List ℕ → Reading RawTable
table_of columns bytes = if nat_lt 67108864 (length bytes) then Err (0, TooLong) else table_in columns (records_of bytes)
