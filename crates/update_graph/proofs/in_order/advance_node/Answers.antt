use Rattle.std.proofs.Common.{ap, sym, ◌∙◌, subst, ◌<◌, length, get_or}
use Rattle.std.{specs.List.AllByRecursion, proofs.lemmas.List.get_or_default}
use Rattle.tick_laws.specs.Reached.{table_before}
use Rattle.tick_model.{specs.declared.plan.Node.Node, specs.Operators.inputs_of}
use Rattle.update_graph.{specs.declared.work.LiveNode.LiveNode, specs.Stands.IsReady, specs.Tags.no_node, proofs.ClaimedWorks.next_step, proofs.EnteredTicks.lesser, proofs.Sweeping.length-tags}
use Rattle.update_graph.proofs.in_order.advance_node.Goals as goal

pub into_ready-ready-requires-clause-next : goal.into_ready-ready-requires-clause-next
into_ready-ready-requires-clause-next g c = next_step c.args.context.now.at.run.now c.args.context.now.at.step (length c.args.sweep.now.works.items) c.requires.later c.args.work c.requires.work

pub inputs_stay-requires-clause-inputs : goal.inputs_stay-requires-clause-inputs
inputs_stay-requires-clause-inputs g c =
    let run = c.args.context.now.at.run.now in
    let n = length c.args.sweep.now.works.items in
    let count = c.len.ensures ∙ c.args.sweep.now.works.ok.0 in
    let handed = ap length (c.deref.ensures.value ∙ c.requires.swept.shares) ∙ length-tags run c.args.context.now.at.step n in
    let node = c.index-as_slice-len.is ∙ ap (λ all. get_or all c.len.result c.index-as_slice-len.result) c.as_slice.ensures ∙ ap (λ k. get_or run.plan.nodes k c.index-as_slice-len.result) count ∙ get_or_default run.plan.nodes n c.index-as_slice-len.result no_node c.requires.node in
    subst (λ (own : Node). AllByRecursion (λ input. input < length c.deref.result.now) (inputs_of own.op)) (sym node)
    (subst (λ m. AllByRecursion (λ input. input < m) (inputs_of (get_or run.plan.nodes n no_node).op)) (sym handed) (lesser run c.requires.entered.lawful n c.requires.node))

pub shares_for-requires-clause-inputs : goal.shares_for-requires-clause-inputs
shares_for-requires-clause-inputs g c =
    let run = c.args.context.now.at.run.now in
    let n = length c.args.sweep.now.works.items in
    let count = c.len.ensures ∙ c.args.sweep.now.works.ok.0 in
    let handed = ap length (c.deref-2.ensures.value ∙ c.requires.swept.shares) ∙ length-tags run c.args.context.now.at.step n in
    let node = c.index-as_slice-len.is ∙ ap (λ all. get_or all c.len.result c.index-as_slice-len.result) c.as_slice.ensures ∙ ap (λ k. get_or run.plan.nodes k c.index-as_slice-len.result) count ∙ get_or_default run.plan.nodes n c.index-as_slice-len.result no_node c.requires.node in
    subst (λ (own : Node). AllByRecursion (λ input. input < length c.deref-2.result.now) (inputs_of own.op)) (sym node)
    (subst (λ m. AllByRecursion (λ input. input < m) (inputs_of (get_or run.plan.nodes n no_node).op)) (sym handed) (lesser run c.requires.entered.lawful n c.requires.node))

pub advance_inside-advanced-requires-clause-ready : goal.advance_inside-advanced-requires-clause-ready
advance_inside-advanced-requires-clause-ready g c =
    let run = c.args.context.now.at.run.now in
    let step = c.args.context.now.at.step in
    subst (λ (ready : LiveNode). IsReady run (table_before run step) step c.len-number.result ready.operator ready.table) (sym c.into_inner-ready.ensures) c.into_ready-ready.ensures.ready
