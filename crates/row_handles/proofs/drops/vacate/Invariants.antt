use Rattle.std.proofs.Common.{◌≡◌, ℕ, false, take}
use Rattle.slab.specs.Slab.{get}
use Rattle.row_handles.specs.Moves.{has_handle}
use Rattle.row_handles.proofs.drops.vacate.Given as goal

abbrev pub invariant-loop-row : goal.invariant-loop-row
invariant-loop-row l = (handle : ℕ) → has_handle handle (take l.row-index l.rows) ≡ false → get l.places handle ≡ get l.initial.places handle
