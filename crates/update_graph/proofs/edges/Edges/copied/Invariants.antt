use Rattle.std.proofs.Common.{◌≡◌, take}
use Rattle.update_graph.proofs.edges.Edges.copied.Given as goal

abbrev pub invariant-loop-edge : goal.invariant-loop-edge
invariant-loop-edge l = l.copied.items ≡ take l.edge-index l.edges
