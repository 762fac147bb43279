use Rattle.std.proofs.Common.{◌≡◌}
use Rattle.sort_op.proofs.KeptCells.{cmp_from}
use Rattle.sort_op.proofs.sort_cells.SortCells.compare.Given as goal

abbrev pub invariant-loop-place : goal.invariant-loop-place
invariant-loop-place l = cmp_from l.place l.by l.self l.handle l.other ≡ cmp_from 0 l.by l.self l.handle l.other
