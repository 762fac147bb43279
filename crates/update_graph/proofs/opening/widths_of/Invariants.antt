use Rattle.std.proofs.Common.{◌≡◌, length, map, take}
use Rattle.tick_model.specs.Plans.{columns_at}
use Rattle.update_graph.proofs.opening.widths_of.Given as goal

abbrev pub invariant-loop-input : goal.invariant-loop-input
invariant-loop-input l = l.widths.items ≡ map (λ input. length (columns_at l.run.plan.nodes input)) (take l.input-index l.inputs)
