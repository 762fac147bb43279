use Rattle.std.proofs.Common.{◌≡◌, length, take}
use Rattle.update_graph.specs.Edges.{AreNumbers, comes_from, goes_to}
use Rattle.update_graph.proofs.edges.Edges.of.Given as goal

abbrev pub invariant-loop-number : goal.invariant-loop-number
invariant-loop-number l = record {
  inputs_length : length l.inputs.items ≡ l.nodes;
  outputs_length : length l.outputs.items ≡ l.nodes;
  inputs : AreNumbers goes_to (take l.number l.edges) l.inputs.items;
  outputs : AreNumbers comes_from (take l.number l.edges) l.outputs.items;
}
