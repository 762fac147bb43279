-- The rows that are noted of the groups.
--     IsNoted notes table      they are those of a table under these keys, one after the other
use Rattle.std.{specs.Prelude.{◌≡◌, length}, specs.List.AllByRecursion}
use Rattle.agg_by.specs.declared.notes.PriorRows.{PriorRows}
use Rattle.row_changes.specs.Parts.{cells_under}
use Rattle.tick_model.{specs.Tables.cells_at, specs.declared.table.PlainTable.PlainTable}

pub record IsNoted (notes : PriorRows) (table : PlainTable) : Type 0 where
  pub cells : notes.cells.items ≡ cells_under table notes.keys
  pub whole : AllByRecursion (λ key. length (cells_at key table.rows) ≡ notes.width) notes.keys
