use Rattle.std.proofs.Common.{◌≡◌, take}
use Rattle.row_handles.{specs.Blocks.{IsIndex, rows}, specs.Drops.left_by}
use Rattle.row_handles.proofs.index.HandleIndex.leave_ranges.Given as goal

abbrev pub invariant-loop-range : goal.invariant-loop-range
invariant-loop-range l = record {
  sound : IsIndex l.self;
  rows : rows l.self.blocks.items ≡ left_by (take l.range-index l.ranges) (rows l.initial.self.blocks.items);
}
