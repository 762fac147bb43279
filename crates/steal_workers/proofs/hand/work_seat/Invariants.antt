use Rattle.std.proofs.Common.{◌≡◌}
use Rattle.graph_words.specs.Seats.{IsSeatOf}
use Rattle.steal_workers.{specs.Lists.IsListed, specs.Holdings.{IsGoneOn, IsHeld}, specs.Hands.hand_mark}
use Rattle.steal_workers.proofs.hand.work_seat.Given as goal

abbrev pub invariant-loop : goal.invariant-loop
invariant-loop g l = record {
  of : IsSeatOf l.claims l.seat;
  held : IsHeld l.claims.plan l.seat.view (IsListed l.kept.nodes.items);
  on : IsGoneOn l.initial.seat.view l.seat.view;
  hand : hand_mark l.hand ≡ hand_mark l.initial.hand;
}
