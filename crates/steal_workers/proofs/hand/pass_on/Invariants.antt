use Rattle.std.proofs.Common.{ℕ, length}
use Rattle.std.specs.Prelude.{◌⊎◌}
use Rattle.graph_words.specs.Seats.{IsSeatOf}
use Rattle.steal_workers.{specs.Lists.IsListed, specs.Holdings.{IsGoneOn, IsHeld}, specs.Deques.IsSameDeque}
use Rattle.steal_workers.proofs.hand.pass_on.Given as goal

abbrev pub invariant-loop-node : goal.invariant-loop-node
invariant-loop-node g l = record {
  of : IsSeatOf l.claims l.seat;
  held : IsHeld l.claims.plan l.seat.view (λ m. IsListed l.kept.nodes.items m ⊎ IsListed l.found.nodes.items m);
  apart : (m : ℕ) → IsListed l.kept.nodes.items m → IsListed l.found.nodes.items m → ⊥;
  on : IsGoneOn l.initial.seat.view l.seat.view;
  own : IsSameDeque l.initial.own.deque l.own.deque;
}

abbrev pub decreases-loop-node : goal.decreases-loop-node
decreases-loop-node g l = length l.found.nodes.items
