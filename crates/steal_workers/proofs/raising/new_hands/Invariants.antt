use Rattle.std.proofs.Common.{◌≡◌, vec_len}
use Rattle.steal_workers.{specs.Hands.{AllRested, hand_marks}, specs.Musters.{IsCrewed, nothing}}
use Rattle.steal_workers.proofs.raising.new_hands.Given as goal

abbrev pub invariant-loop-place : goal.invariant-loop-place
invariant-loop-place l = record {
  len : vec_len l.hands ≡ l.count;
  crew : IsCrewed nothing (hand_marks l.hands.items);
  rested : AllRested l.hands.items;
}
