use Rattle.std.proofs.Common.{length}
use Rattle.update_graph.{specs.Stands.{Follows, ForEach}, specs.Sweeps.IsSwept}
use Rattle.update_graph.proofs.in_order.advance_all.Given as goal

abbrev pub invariant-loop-work : goal.invariant-loop-work
invariant-loop-work g l = record { swept : IsSwept l.context.at.run.now l.context.at.step (length l.yielded) l.sweep; follows : ForEach Follows l.yielded l.sweep.works.items }
