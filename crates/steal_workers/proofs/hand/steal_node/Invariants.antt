use Rattle.std.proofs.Common.{◌≡◌, map, vec_len}
use Rattle.graph_words.specs.Seats.{IsSeatOf}
use Rattle.steal_workers.{specs.Holdings.{IsGoneOn, IsHeld, NoNode}, specs.Hands.raid_mark}
use Rattle.steal_workers.proofs.hand.steal_node.Given as goal

abbrev pub invariant-loop-number : goal.invariant-loop-number
invariant-loop-number g l = record {
  of : IsSeatOf l.claims l.seat;
  held : IsHeld l.claims.plan l.seat.view NoNode;
  on : IsGoneOn l.initial.seat.view l.seat.view;
  len : vec_len l.raids ≡ vec_len l.initial.raids;
  raids : map raid_mark l.raids.items ≡ map raid_mark l.initial.raids.items;
}
