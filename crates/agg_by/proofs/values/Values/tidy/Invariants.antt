use Rattle.std.proofs.Common.{◌≡◌, ◌+◌, ◌≤◌, []}
use Rattle.std.{specs.BinaryHeap.IsHeap, specs.Ordering.int_cmp}
use Rattle.agg_by.proofs.Counted.{AreParted}
use Rattle.agg_by.proofs.values.Values.tidy.Given as goal

abbrev pub invariant-loop-cell : goal.invariant-loop-cell
invariant-loop-cell l = record {
  parted : AreParted l.live.items l.gone.items l.self-inside.live.data.items l.fn.self;
  heap : IsHeap int_cmp l.self-inside.live.data.items;
  room : l.self-inside.live.data.len + l.live.len ≤ l.self-inside.live.data.cap;
  none : l.self-inside.gone.data.items ≡ [];
}

abbrev pub decreases-loop-cell : goal.decreases-loop-cell
decreases-loop-cell l = l.live.len
