-- The rows of a table are whole.
use Rattle.std.proofs.Common.{◌≡◌, ℕ, true, length}
use Rattle.key_lists.{specs.Keys.is_among, proofs.Every.every_weaker}
use Rattle.tick_model.{specs.declared.table.PlainTable.PlainTable, specs.Tables.{cells_at, keys, IsRow, IsTable}}
use Rattle.tick_laws.proofs.ToldRows.{cells_of_row}

-- the row under a key has the table's width
pub row_whole : (key : ℕ) (table : PlainTable) → IsTable table → is_among key (keys table.rows) ≡ true → length (cells_at key table.rows) ≡ table.width
row_whole key table t h =
    cells_of_row (λ cells. length cells ≡ table.width) key table.rows (every_weaker (IsRow table.width) (λ row. length row.cells ≡ table.width) table.rows (λ row r. r.whole) t.rows) h
