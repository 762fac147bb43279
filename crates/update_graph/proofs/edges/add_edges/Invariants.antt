use Rattle.std.proofs.Common.{◌≡◌, ◌++◌, take}
use Rattle.update_graph.specs.Edges.{input_edges}
use Rattle.update_graph.proofs.edges.add_edges.Given as goal

abbrev pub invariant-loop-port : goal.invariant-loop-port
invariant-loop-port l = l.edges.items ≡ l.initial.edges.items ++ input_edges l.node 0 (take l.port l.inputs)
