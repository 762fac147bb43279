-- The numbers of formulas.
--     HasNumbers expr, HasOpNumbers op, HasPlanNumbers plan      each number and each rank is one of 64 bits
use Rattle.std.{specs.Prelude.FitsSigned, specs.List.AllByRecursion, specs.Int.w64}
use Rattle.tick_model.{specs.declared.plan.Expr.{Expr, Cell, Number, Null, Literal, Rank, Neg', Add', Sub', Mul'}, specs.declared.plan.Op.Op, specs.declared.plan.Op.TheVariants.View, specs.declared.plan.Plan.Plan}

abbrev pub HasNumbers : Expr → Type 0
HasNumbers (Cell column) = Unit {0}
HasNumbers (Number n) = FitsSigned w64 n
HasNumbers Null = Unit {0}
HasNumbers (Literal text) = Unit {0}
HasNumbers (Rank rank) = FitsSigned w64 rank
HasNumbers (Neg' p a) = HasNumbers a
HasNumbers (Add' p a q b) = HasNumbers a × HasNumbers b
HasNumbers (Sub' p a q b) = HasNumbers a × HasNumbers b
HasNumbers (Mul' p a q b) = HasNumbers a × HasNumbers b

abbrev pub HasOpNumbers : Op → Type 0
HasOpNumbers (View input exprs) = AllByRecursion HasNumbers exprs
HasOpNumbers op = Unit {0}

abbrev pub HasPlanNumbers : Plan → Type 0
HasPlanNumbers plan = AllByRecursion (λ node. HasOpNumbers node.op) plan.nodes
