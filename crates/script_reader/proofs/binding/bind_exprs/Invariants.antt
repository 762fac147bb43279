use Rattle.script_reader.{specs.Binding.bound_expr, specs.Plain.plain, proofs.Rewritten.IsRewritten}
use Rattle.script_reader.proofs.binding.bind_exprs.Given as goal

abbrev pub invariant-loop-expr : goal.invariant-loop-expr
invariant-loop-expr l = IsRewritten plain (bound_expr l.ranks) l.expr-index l.initial.expr-items l.expr-items
