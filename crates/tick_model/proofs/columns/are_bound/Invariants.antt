use Rattle.std.proofs.Common.{◌≡◌, drop}
use Rattle.std.specs.List.{list_all}
use Rattle.tick_model.specs.Columns.{is_bound}
use Rattle.tick_model.proofs.columns.are_bound.Given as goal

abbrev pub invariant-loop-expr : goal.invariant-loop-expr
invariant-loop-expr l = list_all is_bound (drop l.expr-index l.exprs) ≡ list_all is_bound l.exprs
