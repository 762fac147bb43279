use Rattle.std.proofs.Common.{◌+◌, drop}
use Rattle.graph_words.specs.Seats.{IsSeatOf}
use Rattle.update_graph.{specs.Edges.goes_to, specs.Tags.tag, proofs.Handing.HasTaken, proofs.Walking.IsAlong}
use Rattle.update_graph.proofs.worker.take_shares.Given as goal

abbrev pub invariant-loop-number : goal.invariant-loop-number
invariant-loop-number l = record {
  of : IsSeatOf l.claims l.seat;
  along : IsAlong (goes_to l.node) l.edges (drop l.number-index l.numbers) (HasTaken l.edges l.initial.seat.view l.node (tag l.claims.plan.first.value.run (l.claims.plan.first.value.step + 1)) l.seat.view l.shares);
}
