use Rattle.std.proofs.Common.{◌≡◌, vec_len, vec_capacity}
use Rattle.steal_workers.{specs.Hands.hand_marks, specs.Musters.{IsCrewed, nothing}}
use Rattle.steal_workers.proofs.muster.arm.Given as goal

abbrev pub invariant-places : goal.invariant-places
invariant-places l = record {
  count : l.count ≡ vec_len l.fn.hands;
  len : vec_len l.hands ≡ vec_len l.fn.hands;
  room : vec_capacity l.hands ≡ vec_capacity l.fn.hands;
  crew : IsCrewed nothing (hand_marks l.hands.items);
}

abbrev pub invariant-others : goal.invariant-others
invariant-others l = record {
  count : l.count ≡ vec_len l.fn.hands;
  len : vec_len l.hands ≡ vec_len l.fn.hands;
  room : vec_capacity l.hands ≡ vec_capacity l.fn.hands;
  crew : IsCrewed nothing (hand_marks l.hands.items);
}
