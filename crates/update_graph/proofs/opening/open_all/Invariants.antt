use Rattle.update_graph.specs.Sweeps.{IsSwept}
use Rattle.update_graph.proofs.opening.open_all.Given as goal

abbrev pub invariant-loop : goal.invariant-loop
invariant-loop g l = IsSwept l.run 0 l.counter l.sweep
