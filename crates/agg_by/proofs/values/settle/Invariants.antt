use Rattle.std.proofs.Common.{◌≡◌}
use Rattle.agg_by.specs.Values.{IsKept, left}
use Rattle.agg_by.proofs.values.settle.Given as goal

abbrev pub invariant-loop-live : goal.invariant-loop-live
invariant-loop-live l = record {
  kept : IsKept l.live.data.items l.gone.data.items;
  left : left l.live.data.items l.gone.data.items ≡ left l.fn.live.data.items l.fn.gone.data.items;
}

abbrev pub decreases-loop-live : goal.decreases-loop-live
decreases-loop-live l = l.gone.data.len
