use Rattle.std.proofs.Common.{◌≡◌, ◌∙◌, ap₂, sym, subst, arith, length}
use Rattle.std.specs.Prelude.{replicate, slice_index}
use Rattle.tick_model.{specs.declared.plan.Op.Op, specs.Operators.inputs_of}
use Rattle.table_operator.specs.Made.{IsMadeOf}
use Rattle.merge_op.{specs.Made.{CanMerge, merge_made}, proofs.Planned.{alike, merge_is}}
use Rattle.merge_op.proofs.in_plan.MergeTableOperator.of.Goals as goal

pub new-requires-clause-some : goal.new-requires-clause-some
new-requires-clause-some c = let can = subst (λ (op : Op). CanMerge op c.args.widths.now) c.in-Merge.is c.requires.can in omega (arith, can.0, c.len.ensures)

pub new-requires-clause-few : goal.new-requires-clause-few
new-requires-clause-few c = let can = subst (λ (op : Op). CanMerge op c.args.widths.now) c.in-Merge.is c.requires.can in omega (arith, can.1, c.len.ensures)

pub new-requires-clause-wide : goal.new-requires-clause-wide
new-requires-clause-wide c = (subst (λ (op : Op). CanMerge op c.args.widths.now) c.in-Merge.is c.requires.can).2

pub returns-clause-made : goal.returns-clause-made
returns-clause-made c =
    let merge = c.new.result in
    subst (λ (op : Op). IsMadeOf op (merge_made merge)) (sym c.in-Merge.is) (merge_is c.in-Merge.inputs merge (c.new.ensures.count ∙ c.len.ensures))

pub returns-clause-widths : goal.returns-clause-widths
returns-clause-widths c =
    let widths = c.args.widths.now in
    let made = c.new.ensures in
    let can = subst (λ (op : Op). CanMerge op widths) c.in-Merge.is c.requires.can in
    let long = subst (λ (op : Op). length widths ≡ length (inputs_of op)) c.in-Merge.is c.requires.count in
    ap₂ replicate (made.count ∙ c.len.ensures ∙ sym long) made.width ∙ alike (slice_index widths 0) widths can.3
