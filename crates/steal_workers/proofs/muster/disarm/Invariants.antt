use Rattle.std.proofs.Common.{◌≡◌, ◌<◌, ℕ, vec_len, vec_capacity}
use Rattle.steal_workers.{specs.Hands.hand_marks, specs.Musters.{IsCrewed, nothing, passes_of}}
use Rattle.steal_workers.proofs.muster.disarm.Given as goal

abbrev pub invariant-places : goal.invariant-places
invariant-places l = record {
  count : l.count ≡ vec_len l.fn.hands;
  len : vec_len l.hands ≡ vec_len l.fn.hands;
  room : vec_capacity l.hands ≡ vec_capacity l.fn.hands;
  crew : IsCrewed nothing (hand_marks l.hands.items);
  gone : (i k : ℕ) → i < l.place → k < l.count → passes_of (hand_marks l.hands.items) i k ≡ 0;
}

abbrev pub invariant-others : goal.invariant-others
invariant-others l = record {
  count : l.count ≡ vec_len l.fn.hands;
  len : vec_len l.hands ≡ vec_len l.fn.hands;
  room : vec_capacity l.hands ≡ vec_capacity l.fn.hands;
  crew : IsCrewed nothing (hand_marks l.hands.items);
  gone : (i k : ℕ) → i < l.place → k < l.count → passes_of (hand_marks l.hands.items) i k ≡ 0;
  here : (k : ℕ) → k < l.other → passes_of (hand_marks l.hands.items) l.place k ≡ 0;
}
