use Rattle.std.proofs.Common.{◌≡◌, drop}
use Rattle.sort_op.specs.Cells.{cells_cmp}
use Rattle.sort_op.proofs.entry.compare_cells.Given as goal

abbrev pub invariant-loop-place : goal.invariant-loop-place
invariant-loop-place l = cells_cmp (drop l.place l.by) (drop l.place l.cells) (drop l.place l.others) ≡ cells_cmp l.by l.cells l.others
