use Rattle.std.proofs.Common.{◌≡◌, take}
use Rattle.std.specs.List.{AllByRecursion}
use Rattle.row_handles.{specs.Blocks.{IsIndex, rows}, specs.Moves.IsBesideRange}
use Rattle.row_handles.proofs.index.HandleIndex.cut_ranges.Given as goal

abbrev pub invariant-loop-range : goal.invariant-loop-range
invariant-loop-range l = record {
  same : rows l.self.blocks.items ≡ rows l.initial.self.blocks.items;
  sound : IsIndex l.self;
  beside : AllByRecursion (λ range. AllByRecursion (IsBesideRange range) l.self.blocks.items) (take l.range-index l.ranges);
}
