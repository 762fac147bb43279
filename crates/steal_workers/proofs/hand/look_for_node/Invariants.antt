use Rattle.std.proofs.Common.{◌≡◌}
use Rattle.graph_words.specs.Seats.{IsSeatOf}
use Rattle.steal_workers.{specs.Holdings.{IsGoneOn, IsHeld, NoNode}, specs.Hands.hand_mark}
use Rattle.steal_workers.proofs.hand.look_for_node.Given as goal

abbrev pub invariant-loop : goal.invariant-loop
invariant-loop g l = record {
  of : IsSeatOf l.claims l.seat;
  held : IsHeld l.claims.plan l.seat.view NoNode;
  on : IsGoneOn l.initial.seat.view l.seat.view;
  hand : hand_mark l.hand ≡ hand_mark l.initial.hand;
}
