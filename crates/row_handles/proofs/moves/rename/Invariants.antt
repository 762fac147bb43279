use Rattle.std.proofs.Common.{take}
use Rattle.row_handles.specs.Moves.{AreRenamed}
use Rattle.row_handles.proofs.moves.rename.Given as goal

abbrev pub invariant-loop-row : goal.invariant-loop-row
invariant-loop-row l = AreRenamed l.number (take l.row-index l.rows) l.initial.places l.places
