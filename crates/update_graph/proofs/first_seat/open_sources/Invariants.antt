use Rattle.std.proofs.Common.{◌≡◌}
use Rattle.graph_words.specs.Seats.{IsSeatOf}
use Rattle.tick_model.specs.Evaluation.{source_number}
use Rattle.update_graph.specs.Holdings.{IsOpened}
use Rattle.update_graph.proofs.first_seat.open_sources.Given as goal

abbrev pub invariant-loop-node : goal.invariant-loop-node
invariant-loop-node l = record {
  of : IsSeatOf l.claims l.seat;
  opened : IsOpened l.context.run.now l.claims.plan l.seat.view l.node l.ready.nodes.items;
  place : l.place ≡ source_number l.context.run.now.plan.nodes l.node;
}
