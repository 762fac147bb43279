use Rattle.std.proofs.Common.{◌≡◌, ◌++◌, map, take}
use Rattle.tick_model.specs.Formulas.{value}
use Rattle.row_ops.proofs.view_op.put_row.Given as goal

abbrev pub invariant-loop-expr : goal.invariant-loop-expr
invariant-loop-expr l = l.cells.items ≡ (l.fn.cells.items ++ l.row) ++ map (λ expr. value expr l.row) (take l.expr-index l.exprs)
