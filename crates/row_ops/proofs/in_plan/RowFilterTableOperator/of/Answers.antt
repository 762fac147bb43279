use Rattle.std.proofs.Common.{get_or, subst, sym}
use Rattle.tick_model.{specs.declared.plan.Op.Op, specs.declared.plan.Pred.Pred}
use Rattle.table_operator.specs.Made.{IsMadeOf}
use Rattle.row_ops.{specs.Copies.IsTestCopy, specs.Made.{CanFilter, filter_made}, proofs.Planned.filter_is}
use Rattle.row_ops.proofs.in_plan.RowFilterTableOperator.of.Goals as goal

pub new-requires : goal.new-requires
new-requires c = c.in_ok-test-in-Keep.ensures.within (get_or c.args.widths.now 0 0) (subst (λ (op : Op). CanFilter op c.args.widths.now) c.in-Keep.is c.requires.can)

pub returns-clause-made : goal.returns-clause-made
returns-clause-made c =
    let filter = c.new.result in
    subst (λ (op : Op). IsMadeOf op (filter_made filter)) (sym c.in-Keep.is)
    (filter_is c.in-Keep.input c.in-Keep.test filter (subst (λ (copy : Pred). IsTestCopy copy c.in-Keep.test) (sym c.new.ensures.test) c.in_ok-test-in-Keep.ensures))
