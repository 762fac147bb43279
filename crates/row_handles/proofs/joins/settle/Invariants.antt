use Rattle.std.proofs.Common.{◌≡◌, ℕ, Some, false, take}
use Rattle.std.specs.List.{AllByRecursion}
use Rattle.slab.specs.Slab.{get}
use Rattle.row_handles.{specs.Blocks.place_in, specs.Moves.has_handle}
use Rattle.row_handles.proofs.joins.settle.Given as goal

abbrev pub invariant-loop-row : goal.invariant-loop-row
invariant-loop-row l = record {
  settled : AllByRecursion (λ row. get l.places row.handle ≡ Some (place_in l.number row.depth)) (take l.row-index l.rows);
  others : (handle : ℕ) → has_handle handle (take l.row-index l.rows) ≡ false → get l.places handle ≡ get l.initial.places handle;
}
