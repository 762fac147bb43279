use Rattle.std.proofs.Common.{◌≡◌, ◌+◌, ◌*◌, ◌≤◌, ◌++◌, take}
use Rattle.row_changes.specs.Parts.{cells_under}
use Rattle.tick_model.specs.View.{view_table}
use Rattle.row_ops.proofs.view_op.put_added.Given as goal

abbrev pub invariant-loop-place : goal.invariant-loop-place
invariant-loop-place g l = record {
  cells : l.cells.items ≡ l.fn.cells.items ++ cells_under (view_table l.exprs l.input.new) (take l.place l.input.update.added);
  reads : l.reads ≤ l.fn.reads + l.input.new.width * l.place;
}
