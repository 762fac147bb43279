use Rattle.std.proofs.Common.{◌≡◌, ◌≤◌, map, take, vec_len, vec_capacity}
use Rattle.steal_workers.{specs.Hands.{hand_marks, raid_mark}, specs.Musters.idle_on}
use Rattle.steal_workers.proofs.raising.raids_on.Given as goal

abbrev pub invariant-loop-hand : goal.invariant-loop-hand
invariant-loop-hand l = record {
  len : vec_len l.raids ≡ l.hand-index;
  room : vec_len l.hands ≤ vec_capacity l.raids;
  idle : map raid_mark l.raids.items ≡ map idle_on (hand_marks (take l.hand-index l.hand-items));
}
