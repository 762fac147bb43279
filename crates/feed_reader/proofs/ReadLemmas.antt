-- What is read of a feed and of a table file.
use Rattle.std.proofs.Common.{◌≡◌, ℕ, ◌+◌, ◌^◌, ◌<◌, ◌≤◌, Bool, true, false, cond, eqb, ltb, List, [], ◌∷◌, length, Option, Some, None, Ok, Err, refl, sym, ap, ◌∙◌, subst, arith}
use Rattle.std.{proofs.lemmas.List.length-map, specs.Prelude.{IfOk, IfSome}, specs.List.{AllByRecursion, range_with_len}, proofs.lemmas.Bool.{cond_both, ltb-true, ltb-false, eqb-true}, proofs.lemmas.Result.IfOk-at_ok}
use Rattle.tick_model.{specs.declared.plan.ColumnSpec.ColumnSpec, specs.declared.plan.Plan.Plan, specs.LawfulRuns.IsOpening, specs.Tables.keys}
use Rattle.feed_reader.{specs.declared.fault.TextKind.TextKind, specs.declared.place.BlockState.TheVariants.Outside, specs.declared.raw.RawBatch.RawBatch, specs.declared.raw.RawCell.RawCell, specs.declared.raw.RawFeed.RawFeed, specs.declared.raw.RawRow.RawRow, specs.declared.raw.RawTable.RawTable, specs.Answers.Reading, specs.Cells.cells_of, specs.Coding.{table_texts, coded_table, coded_row, coded_rows}, specs.Feeds.{entries_in, batches_of, feed_with, feed_in, feed_of}, specs.Records.{records_of, are_texts}, specs.Runs.IsAmong, specs.Tables.{header_fault, row_under, whole_row, row_of, rows_from, after_header, table_in, table_of}, specs.Said.Entry, proofs.RecordLemmas.few_records, proofs.Orderly.{read_ok, CellsFit, cells_fit, IsRawRow, Orderly, orderly}, proofs.CodedLemmas.rows_of_source}
use Rattle.feed_reader.specs.declared.fault.TextKind.TheVariants as kinds

-- bytes that are not too long
not_long : {X : Type 0} (long : Bool) (refusal : ℕ × TextKind) (told : Reading X) (value : X) → cond long (Err refusal) told ≡ Ok value → (long ≡ false) × (told ≡ Ok value)
not_long true refusal told value e = cc e
not_long false refusal told value e = (refl, e)

-- a feed
abbrev batches_in : Reading RawFeed → List RawBatch
batches_in (Ok feed) = feed.batches
batches_in (Err refusal) = []

entries_read : (told : Reading (List Entry)) (feed : RawFeed) → feed_with told ≡ Ok feed → (entries : List Entry) × (told ≡ Ok entries) × (feed.batches ≡ batches_of entries)
entries_read (Ok entries) feed e = (entries, refl, ap batches_in (sym e))
entries_read (Err refusal) feed e = cc e

pub feed_read : (plan : Plan) (bytes : List ℕ) (feed : RawFeed) → feed_of plan bytes ≡ Ok feed → (entries : List Entry) × Orderly plan Outside 0 entries × (length entries ≤ 67108865) × (feed.batches ≡ batches_of entries)
feed_read plan bytes feed read =
    let short = not_long (ltb 67108864 (length bytes)) (0, kinds.TooLong) (feed_in plan (records_of bytes)) feed read in
    let entries = entries_read (entries_in plan Outside 0 0 (records_of bytes)) feed short.1 in
    let all = orderly plan Outside 0 0 (records_of bytes) entries.0 entries.1 in
    let few : length bytes ≤ 67108864 = ltb-false 67108864 (length bytes) short.0 in
    (entries.0, all.0, omega (arith, few_records bytes, all.1), entries.2)

-- the rows of a table file, under one key after the other
abbrev AreRows : List ColumnSpec → ℕ → List RawRow → Type 0
AreRows columns key [] = Unit {0}
AreRows columns key (row ∷ rows) = (row.key ≡ key) × (key < 4194304) × CellsFit columns row.cells × AreRows columns (key + 1) rows

abbrev IsRowUnder : List ColumnSpec → ℕ → RawRow → Type 0
IsRowUnder columns key row = (row.key ≡ key) × (key < 4194304) × CellsFit columns row.cells

under_fits : (columns : List ColumnSpec) (key : ℕ) (cells : Option (List RawCell)) → IfSome cells (CellsFit columns) → IfOk (row_under key cells) (IsRowUnder columns key)
under_fits columns key None fits = tt
under_fits columns key (Some cells) fits =
    cond_both (ltb key 4194304) (Ok (record { key = key; cells = cells })) (Err kinds.TooLong) (λ r. IfOk r (IsRowUnder columns key)) (λ e. (refl, ltb-true key 4194304 e, fits)) (λ _. tt)

row_fits : (columns : List ColumnSpec) (key : ℕ) (fields : List (List ℕ)) → IfOk (row_of columns key fields) (IsRowUnder columns key)
row_fits columns key fields =
    cond_both (are_texts fields) (whole_row columns key fields) (Err kinds.NotUtf8) (λ r. IfOk r (IsRowUnder columns key))
    (λ _. cond_both (eqb (length fields) (length columns)) (row_under key (cells_of columns fields)) (Err kinds.FieldCount) (λ r. IfOk r (IsRowUnder columns key))
    (λ e. under_fits columns key (cells_of columns fields) (cells_fit columns fields (eqb-true (length fields) (length columns) e))) (λ _. tt)) (λ _. tt)

abbrev rows_in : Reading (List RawRow) → List RawRow
rows_in (Ok rows) = rows
rows_in (Err refusal) = []

rows_fit : (columns : List ColumnSpec) (key : ℕ) (records : List (List (List ℕ))) (rows : List RawRow) → rows_from columns key records ≡ Ok rows → AreRows columns key rows
rows_fit columns key [] rows e = subst (AreRows columns key) (ap rows_in e) tt
rows_fit columns key (fields ∷ others) rows e =
    let found = read_ok (key + 2) (row_of columns key fields) (λ row. rows_from columns (key + 1) others) rows e in
    let here : IsRowUnder columns key found.0 = IfOk-at_ok (IsRowUnder columns key) found.2 (row_fits columns key fields) in
    subst (AreRows columns key) found.4 (here.0, here.1, here.2, rows_fit columns (key + 1) others found.1 found.3)

rows_raw : (columns : List ColumnSpec) (key : ℕ) (rows : List RawRow) → AreRows columns key rows → AllByRecursion (IsRawRow columns) rows
rows_raw columns key [] are = tt
rows_raw columns key (row ∷ rows) are = (record { key = omega (arith, are.0, are.1); cells = are.2 }, rows_raw columns (key + 1) rows are.3)

rows_keys : (columns : List ColumnSpec) (texts : List (List ℕ)) (key : ℕ) (rows : List RawRow) → AreRows columns key rows → keys (coded_rows texts rows) ≡ range_with_len key (length (coded_rows texts rows))
rows_keys columns texts key [] are = refl
rows_keys columns texts key (row ∷ rows) are =
    ap (λ k. k ∷ keys (coded_rows texts rows)) are.0 ∙ ap (λ others. key ∷ others) (rows_keys columns texts (key + 1) rows are.3)

rows_few : (columns : List ColumnSpec) (key : ℕ) (rows : List RawRow) → AreRows columns key rows → key ≤ 4194304 → key + length rows ≤ 4194304
rows_few columns key [] are low = omega arith
rows_few columns key (row ∷ rows) are low = omega (arith, rows_few columns (key + 1) rows are.3 (omega (arith, are.1)))

opening_of_rows : (columns : List ColumnSpec) (texts : List (List ℕ)) (table : RawTable) → AreRows columns 0 table.rows → length texts < 2 ^ 63 → AllByRecursion (IsAmong texts) (table_texts table) → IsOpening columns (length texts) (coded_table texts (length columns) table)
opening_of_rows columns texts table are small among = record {
  width = refl;
  count = omega (arith, rows_few columns 0 table.rows are (omega arith), length-map table.rows (coded_row texts));
  keys_are = rows_keys columns texts 0 table.rows are;
  rows = rows_of_source texts small columns table.rows (rows_raw columns 0 table.rows are) among;
}

-- a table file
abbrev table_rows : Reading RawTable → List RawRow
table_rows (Ok table) = table.rows
table_rows (Err refusal) = []

rows_read : (columns : List ColumnSpec) (header : Option TextKind) (told : Reading (List RawRow)) (table : RawTable) → ((rows : List RawRow) → told ≡ Ok rows → AreRows columns 0 rows) → after_header header (told) ≡ Ok table → AreRows columns 0 table.rows
rows_read columns (Some kind) told table rows e = cc e
rows_read columns None (Ok found) table rows e = subst (AreRows columns 0) (ap table_rows e) (rows found refl)
rows_read columns None (Err refusal) table rows e = cc e

table_read : (columns : List ColumnSpec) (records : List (List (List ℕ))) (table : RawTable) → table_in columns records ≡ Ok table → AreRows columns 0 table.rows
table_read columns [] table e = cc e
table_read columns (header ∷ others) table e = rows_read columns (header_fault columns header) (rows_from columns 0 others) table (λ rows found. rows_fit columns 0 others rows found) e

pub table_is_opening : (columns : List ColumnSpec) (bytes : List ℕ) (table : RawTable) (texts : List (List ℕ)) → table_of columns bytes ≡ Ok table → length texts < 2 ^ 63 → AllByRecursion (IsAmong texts) (table_texts table) → IsOpening columns (length texts) (coded_table texts (length columns) table)
table_is_opening columns bytes table texts read small among =
    let short = not_long (ltb 67108864 (length bytes)) (0, kinds.TooLong) (table_in columns (records_of bytes)) table read in
    opening_of_rows columns texts table (table_read columns (records_of bytes) table short.1) small among

pub no_rows_are_opening : (columns : List ColumnSpec) (texts : List (List ℕ)) → IsOpening columns (length texts) (coded_table texts (length columns) (record { rows = [] }))
no_rows_are_opening columns texts = record { width = refl; count = omega arith; keys_are = refl; rows = tt }
