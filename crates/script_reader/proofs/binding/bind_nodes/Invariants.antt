use Rattle.script_reader.{specs.Binding.bound_node, specs.Plain.plain_node, proofs.Rewritten.IsRewritten}
use Rattle.script_reader.proofs.binding.bind_nodes.Given as goal

abbrev pub invariant-loop-node : goal.invariant-loop-node
invariant-loop-node l = IsRewritten plain_node (bound_node l.ranks) l.node-index l.initial.node-items l.node-items
