use Rattle.std.proofs.Common.{length}
use Rattle.graph_words.specs.Seats.{IsSeatOf}
use Rattle.steal_workers.{specs.Lists.IsListed, specs.Holdings.{IsGoneOn, IsHeld}}
use Rattle.steal_workers.proofs.hand.offer_all.Given as goal

abbrev pub invariant-loop-node : goal.invariant-loop-node
invariant-loop-node g l = record {
  of : IsSeatOf l.claims l.seat;
  held : IsHeld l.claims.plan l.seat.view (IsListed l.found.nodes.items);
  on : IsGoneOn l.initial.seat.view l.seat.view;
}

abbrev pub decreases-loop-node : goal.decreases-loop-node
decreases-loop-node g l = length l.found.nodes.items
