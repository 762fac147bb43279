use Rattle.std.proofs.Common.{◌≡◌}
use Rattle.row_handles.specs.Blocks.{IsIndex, rows}
use Rattle.row_handles.proofs.index.HandleIndex.join_between.Given as goal

abbrev pub invariant-loop-index : goal.invariant-loop-index
invariant-loop-index l = record {
  sound : IsIndex l.self;
  same : rows l.self.blocks.items ≡ rows l.initial.self.blocks.items;
}

abbrev pub decreases-loop-index : goal.decreases-loop-index
decreases-loop-index l = l.index
