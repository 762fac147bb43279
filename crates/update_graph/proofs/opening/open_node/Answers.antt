use Rattle.std.proofs.Common.{ap, sym, ◌∙◌, subst, ◌<◌, length, get_or}
use Rattle.std.{specs.List.AllByRecursion, proofs.lemmas.List.get_or_default}
use Rattle.tick_model.{specs.declared.plan.Node.Node, specs.Operators.inputs_of}
use Rattle.update_graph.{specs.Tags.{no_node, op_at}, proofs.EnteredTicks.lesser, proofs.Sweeping.length-tags}
use Rattle.update_graph.proofs.opening.open_node.Goals as goal

pub shares_for-requires-clause-inputs : goal.shares_for-requires-clause-inputs
shares_for-requires-clause-inputs g c =
    let run = c.args.run.now in
    let n = length c.args.sweep.now.works.items in
    let count = c.len.ensures ∙ c.args.sweep.now.works.ok.0 in
    let handed = ap length (c.deref.ensures.value ∙ c.requires.swept.shares) ∙ length-tags run 0 n in
    let node = c.index-as_slice-len.is ∙ ap (λ all. get_or all c.len.result c.index-as_slice-len.result) c.as_slice.ensures ∙ ap (λ k. get_or run.plan.nodes k c.index-as_slice-len.result) count ∙ get_or_default run.plan.nodes n c.index-as_slice-len.result no_node c.requires.node in
    subst (λ (own : Node). AllByRecursion (λ input. input < length c.deref.result.now) (inputs_of own.op)) (sym node)
    (subst (λ m. AllByRecursion (λ input. input < m) (inputs_of (get_or run.plan.nodes n no_node).op)) (sym handed) (lesser run c.requires.entered.lawful n c.requires.node))

pub fresh-requires-clause-op : goal.fresh-requires-clause-op
fresh-requires-clause-op g c =
    let run = c.args.run.now in
    let n = length c.args.sweep.now.works.items in
    let count = c.len.ensures ∙ c.args.sweep.now.works.ok.0 in
    let number = c.len-number.ensures ∙ c.args.sweep.now.works.ok.0 in
    let node = c.index-as_slice-len.is ∙ ap (λ all. get_or all c.len.result c.index-as_slice-len.result) c.as_slice.ensures ∙ ap (λ k. get_or run.plan.nodes k c.index-as_slice-len.result) count ∙ get_or_default run.plan.nodes n c.index-as_slice-len.result no_node c.requires.node in
    ap (λ (own : Node). own.op) node ∙ ap (op_at run) (sym number)
