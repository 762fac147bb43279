use Rattle.std.proofs.Common.{◌≡◌, ◌++◌, map, take, drop, Some}
use Rattle.std.specs.List.{AllByRecursion}
use Rattle.slab.specs.Slab.{get}
use Rattle.row_handles.specs.Moves.{moved_block}
use Rattle.row_handles.proofs.index.HandleIndex.move_blocks.Given as goal

abbrev pub invariant-loop-index : goal.invariant-loop-index
invariant-loop-index l = record {
  blocks : l.self.blocks.items ≡ map (moved_block l.shifts) (take l.index l.initial.self.blocks.items) ++ drop l.index l.initial.self.blocks.items;
  held : AllByRecursion (λ block. get l.self.ceilings block.number ≡ Some block.ceiling) l.self.blocks.items;
  places : l.self.places ≡ l.initial.self.places;
}
