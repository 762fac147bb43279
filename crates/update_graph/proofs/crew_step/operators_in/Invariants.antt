use Rattle.std.proofs.Common.{◌≡◌, take}
use Rattle.std.specs.Prelude.{filter}
use Rattle.update_graph.specs.Tags.{is_operator}
use Rattle.update_graph.proofs.crew_step.operators_in.Given as goal

abbrev pub invariant-loop-node : goal.invariant-loop-node
invariant-loop-node l = l.ran.items ≡ filter (is_operator l.run) (take l.node-index l.nodes)
