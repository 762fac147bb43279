use Rattle.std.proofs.Common.{◌≡◌, ◌<◌, ℕ, vec_len, vec_capacity}
use mathlib.Core.Option.{some}
use lib.ListN.{get_elem?}
use Rattle.steal_workers.{specs.declared.hand.Hand.Hand, specs.Deques.IsRested, specs.Hands.hand_marks, specs.Musters.{IsCrewed, nothing, passes_of}}
use Rattle.steal_workers.proofs.muster.rest.Given as goal

abbrev pub invariant-loop-place : goal.invariant-loop-place
invariant-loop-place l = record {
  len : vec_len l.hands ≡ vec_len l.fn.hands;
  room : vec_capacity l.hands ≡ vec_capacity l.fn.hands;
  crew : IsCrewed nothing (hand_marks l.hands.items);
  gone : (i k : ℕ) → i < vec_len l.hands → k < vec_len l.hands → passes_of (hand_marks l.hands.items) i k ≡ 0;
  rested : (k : ℕ) (hand : Hand) → k < l.place → get_elem? l.hands.items k ≡ some hand → IsRested hand.own.deque;
}
