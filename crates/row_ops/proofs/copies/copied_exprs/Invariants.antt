use Rattle.std.proofs.Common.{take}
use Rattle.row_ops.specs.Copies.{AreCopies}
use Rattle.row_ops.proofs.copies.copied_exprs.Given as goal

abbrev pub invariant-loop-expr : goal.invariant-loop-expr
invariant-loop-expr l = AreCopies l.copies (take l.expr-index l.expr-items)
