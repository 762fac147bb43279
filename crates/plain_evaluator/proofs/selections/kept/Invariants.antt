use Rattle.std.proofs.Common.{◌≡◌, filter, take}
use Rattle.tick_model.specs.Formulas.{truth}
use Rattle.plain_evaluator.proofs.selections.kept.Given as goal

abbrev pub invariant-loop-row : goal.invariant-loop-row
invariant-loop-row l = l.rows ≡ filter (λ row. truth l.test row.cells) (take l.row-index l.input.rows)
