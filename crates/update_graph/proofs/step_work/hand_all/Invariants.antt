use Rattle.std.proofs.Common.{drop}
use Rattle.graph_words.specs.Seats.{IsSeatOf}
use Rattle.update_graph.{specs.Edges.comes_from, specs.Steps.IsHanding, proofs.Walking.IsAlong}
use Rattle.update_graph.proofs.step_work.hand_all.Given as goal

abbrev pub invariant-loop-number : goal.invariant-loop-number
invariant-loop-number l = record {
  of : IsSeatOf l.claims l.seat;
  along : IsAlong (comes_from l.node) l.claims.plan.edges.items (drop l.number-index l.numbers) (λ place. IsHanding l.claims.plan l.initial.seat.view l.seat.view l.node place l.initial.ready.nodes.items l.ready.nodes.items);
}
