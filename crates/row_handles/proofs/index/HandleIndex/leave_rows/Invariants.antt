use Rattle.std.proofs.Common.{◌≡◌, ◌-◌, ◌≤◌, length, take}
use Rattle.row_handles.{specs.Blocks.{IsIndex, rows}, specs.Drops.{outside, AreOutside}}
use Rattle.row_handles.proofs.index.HandleIndex.leave_rows.Given as goal

abbrev pub invariant-loop-index : goal.invariant-loop-index
invariant-loop-index l = record {
  sound : IsIndex l.self;
  rest : outside l.first l.last (rows l.self.blocks.items) ≡ outside l.first l.last (rows l.initial.self.blocks.items);
  within : l.index ≤ length l.self.blocks.items;
  done : AreOutside l.first l.last (rows (take l.index l.self.blocks.items));
}

abbrev pub decreases-loop-index : goal.decreases-loop-index
decreases-loop-index l = length l.self.blocks.items - l.index
