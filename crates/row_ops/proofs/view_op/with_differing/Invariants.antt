use Rattle.std.proofs.Common.{◌+◌, length}
use Rattle.key_lists.specs.Keys.{IsRising}
use Rattle.row_changes.proofs.Differing.{AreThose}
use Rattle.row_ops.{proofs.Viewed.differs_behind, specs.Viewer.with_values}
use Rattle.row_ops.proofs.view_op.with_differing.Given as goal

abbrev pub invariant-loop-place : goal.invariant-loop-place
invariant-loop-place l = record {
  rising : IsRising l.columns;
  columns : AreThose l.fn.columns (differs_behind (length l.before) (with_values l.exprs l.before) l.now) (length l.before + l.place) l.columns;
}
