-- Cells, rows and tables.
--     null      the cell that holds nothing: the least of the 64-bit numbers
--     cell cells column      the cell of a row in a column
--     same_cells xs ys      the rows hold the same
--     keys rows      the keys of the rows
--     cells_at key rows      the cells of the row under a key
--     IsTable table      whole rows under rising keys
--     HasCells table      its cells are numbers of 64 bits
use Rattle.std.{specs.Prelude.{◌≡◌, ℕ, ◌-◌, ◌^◌, ◌<◌, ◌==◌, Bool, List, [], length, map, find, Option, ℤ, negsuc, FitsSigned, option_map, unwrap_or, slice_index_or}, specs.List.AllByRecursion, specs.Int.w64, specs.Ordering.int_eq, specs.Cmp.Lexicographic.pointwise}
use Rattle.key_lists.specs.Keys.{IsRising}
use Rattle.tick_model.{specs.declared.table.PlainRow.PlainRow, specs.declared.table.PlainTable.PlainTable}

-- the cell that holds nothing
abbrev pub null : ℤ
null = negsuc (2 ^ 63 - 1)

abbrev pub is_null : ℤ → Bool
is_null value = int_eq value null

-- a row's cell in a column
abbrev pub cell : List ℤ → ℕ → ℤ
cell cells column = slice_index_or cells column null

abbrev pub same_cells : List ℤ → List ℤ → Bool
same_cells = pointwise int_eq

abbrev pub keys : List PlainRow → List ℕ
keys = map (λ row. row.key)

-- the row under a key, and its cells
abbrev pub row_at : ℕ → List PlainRow → Option PlainRow
row_at key = find (λ row. row.key == key)

abbrev pub cells_at : ℕ → List PlainRow → List ℤ
cells_at key rows = unwrap_or (option_map (λ row. row.cells) (row_at key rows)) []

-- the row has this width and a key below 2 ^ 62
pub record IsRow (width : ℕ) (row : PlainRow) : Type 0 where
  pub key : row.key < 2 ^ 62
  pub whole : length row.cells ≡ width

pub record IsTable (table : PlainTable) : Type 0 where
  pub rows : AllByRecursion (IsRow table.width) table.rows
  pub rising : IsRising (keys table.rows)

-- each cell is a number of 64 bits
abbrev pub HasCells : PlainTable → Type 0
HasCells table = AllByRecursion (λ row. AllByRecursion (FitsSigned w64) row.cells) table.rows

-- a table without rows or columns, where there is none
abbrev pub no_table : PlainTable
no_table = record { width = 0; rows = [] }
