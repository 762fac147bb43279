use Rattle.std.proofs.Common.{◌≡◌, map, take}
use Rattle.update_graph.specs.Tags.{tag}
use Rattle.update_graph.proofs.sweep.shares_for.Given as goal

abbrev pub invariant-loop-input : goal.invariant-loop-input
invariant-loop-input l = l.handed ≡ map (tag l.run l.fn.step) (take l.input-index l.inputs)
