use Rattle.std.proofs.Common.{◌≡◌, ℕ, ◌+◌, ◌*◌, ◌≤◌, ◌++◌, ◌&&◌, ◌||◌, length, take}
use Rattle.std.{specs.List.list_any, specs.Prelude.nat_lt}
use Rattle.key_lists.specs.Keys.{IsRising, is_among}
use Rattle.row_changes.specs.Parts.{cells_under}
use Rattle.shift_data.specs.Moves.{pairs_of}
use Rattle.table_update.specs.Kept.{old_modified}
use Rattle.tick_model.{specs.Tables.keys, specs.View.view_table}
use Rattle.row_ops.proofs.Viewed.{value_differs}
use Rattle.row_ops.proofs.view_op.put_modified.Given as goal

abbrev pub invariant-loop-place : goal.invariant-loop-place
invariant-loop-place g l = record {
  cells : l.cells.items ≡ l.fn.cells.items ++ cells_under (view_table l.exprs l.input.new) (take l.place l.input.update.modified);
  rising : IsRising l.columns;
  columns : (column : ℕ) → is_among column l.columns ≡ (is_among column l.input.update.columns || (nat_lt column (l.input.new.width + length l.exprs) && list_any (value_differs l.exprs l.input column) (take l.place (pairs_of (old_modified (keys l.input.old.rows) l.input.update) l.input.update.modified))));
  reads : l.reads ≤ l.fn.reads + l.input.new.width * (2 * l.place);
}
