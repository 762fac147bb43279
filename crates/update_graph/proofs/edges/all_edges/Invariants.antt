use Rattle.std.proofs.Common.{◌≡◌, take}
use Rattle.update_graph.specs.Edges.{edges_from}
use Rattle.update_graph.proofs.edges.all_edges.Given as goal

abbrev pub invariant-loop-node : goal.invariant-loop-node
invariant-loop-node l = l.edges.items ≡ edges_from 0 (take l.node l.run.plan.nodes)
