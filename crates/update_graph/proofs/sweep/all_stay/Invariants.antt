use Rattle.std.proofs.Common.{take}
use Rattle.std.specs.List.{AllByRecursion}
use Rattle.update_graph.specs.Stands.{Stays}
use Rattle.update_graph.proofs.sweep.all_stay.Given as goal

abbrev pub invariant-loop-node : goal.invariant-loop-node
invariant-loop-node l = AllByRecursion (Stays l.run l.fn.step) (take l.node-index l.nodes)
