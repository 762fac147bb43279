use Rattle.std.proofs.Common.{arith, get_or, subst, sym, List}
use Rattle.tick_model.{specs.declared.plan.Expr.Expr, specs.declared.plan.Op.Op}
use Rattle.table_operator.specs.Made.{IsMadeOf}
use Rattle.row_ops.{specs.Copies.AreCopies, specs.Made.{CanView, view_made}, proofs.Planned.{copies_within, length_copies, view_is}}
use Rattle.row_ops.proofs.in_plan.ViewOpTableOperator.of.Goals as goal

pub new-requires-clause-few : goal.new-requires-clause-few
new-requires-clause-few c =
    let can = subst (λ (op : Op). CanView op c.args.widths.now) c.in-View.is c.requires.can in
    omega (arith, length_copies c.in_ok-exprs-in-View.exprs c.in-View.exprs c.in_ok-exprs-in-View.ensures, can.0)

pub new-requires-clause-within : goal.new-requires-clause-within
new-requires-clause-within c =
    let can = subst (λ (op : Op). CanView op c.args.widths.now) c.in-View.is c.requires.can in
    copies_within (get_or c.args.widths.now 0 0) c.in_ok-exprs-in-View.exprs c.in-View.exprs c.in_ok-exprs-in-View.ensures can.1

pub returns-clause-made : goal.returns-clause-made
returns-clause-made c =
    let view = c.new.result in
    subst (λ (op : Op). IsMadeOf op (view_made view)) (sym c.in-View.is)
    (view_is c.in-View.input c.in-View.exprs view (subst (λ (copies : List Expr). AreCopies copies c.in-View.exprs) (sym c.new.ensures.exprs) c.in_ok-exprs-in-View.ensures))
