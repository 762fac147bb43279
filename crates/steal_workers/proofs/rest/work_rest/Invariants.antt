use Rattle.std.proofs.Common.{◌≡◌, ◌<◌, ℕ}
use Rattle.graph_words.{specs.declared.table.Mark.TheVariants.PutBack, specs.Marks.at, specs.Seats.IsSeatOf}
use Rattle.steal_workers.specs.Holdings.{IsHeld, NoNode, SourcesBack}
use Rattle.steal_workers.proofs.rest.work_rest.Given as goal

abbrev pub invariant-loop-node : goal.invariant-loop-node
invariant-loop-node g l = record {
  of : IsSeatOf l.claims l.seat;
  held : IsHeld l.claims.plan l.seat.view NoNode;
  alone : l.seat.view.parts ≡ 1024;
  sources : SourcesBack l.claims.plan l.seat.view;
  done : (node : ℕ) → node < l.node → at l.seat.view.nodes node ≡ PutBack;
}
