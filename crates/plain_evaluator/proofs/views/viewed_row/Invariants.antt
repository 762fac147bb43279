use Rattle.std.proofs.Common.{◌≡◌, ◌++◌, map, take}
use Rattle.tick_model.specs.Formulas.{value}
use Rattle.plain_evaluator.proofs.views.viewed_row.Given as goal

abbrev pub invariant-loop-expr : goal.invariant-loop-expr
invariant-loop-expr l = l.cells.items ≡ l.row.cells ++ map (λ expr. value expr l.row.cells) (take l.expr-index l.exprs)
