use Rattle.std.proofs.Common.{◌≡◌}
use Rattle.sort_op.proofs.KeptCells.{same_from}
use Rattle.sort_op.proofs.sort_cells.SortCells.are_of.Given as goal

abbrev pub invariant-loop-place : goal.invariant-loop-place
invariant-loop-place l = same_from l.place l.by l.self l.handle l.row ≡ same_from 0 l.by l.self l.handle l.row
