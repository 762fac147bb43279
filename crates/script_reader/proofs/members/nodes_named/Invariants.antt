use Rattle.std.proofs.Common.{◌≡◌, take, Ok}
use Rattle.script_reader.specs.Checks.{each, node_named, names_of}
use Rattle.script_reader.proofs.members.nodes_named.Given as goal

abbrev pub invariant-loop-name : goal.invariant-loop-name
invariant-loop-name l = each (node_named (names_of l.nodes.nodes.items)) (take l.name-index l.names) ≡ Ok l.inputs
