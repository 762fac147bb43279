use Rattle.std.proofs.Common.{◌≡◌, ◌≤◌, vec_len, vec_capacity}
use Rattle.steal_workers.{specs.Hands.AllRested, proofs.Marking.AllBare}
use Rattle.steal_workers.proofs.raising.bare_hands.Given as goal

abbrev pub invariant-loop-place : goal.invariant-loop-place
invariant-loop-place l = record {
  len : vec_len l.hands ≡ l.place;
  room : l.count ≤ vec_capacity l.hands;
  bare : AllBare l.hands.items;
  rested : AllRested l.hands.items;
}
