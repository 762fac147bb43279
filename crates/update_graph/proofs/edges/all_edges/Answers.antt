use Rattle.std.proofs.Common.{◌<◌, ◌++◌, ap, ap₂, sym, ◌∙◌, subst, arith, get_or, length}
use Rattle.std.proofs.lemmas.List.{get_or_default}
use Rattle.tick_model.{specs.declared.plan.Node.Node, specs.Operators.inputs_of}
use Rattle.update_graph.{specs.Edges.input_edges, specs.Tags.no_node, proofs.PlanEdges.{more_from, node_few}}
use Rattle.update_graph.proofs.edges.all_edges.Goals as goal

pub add_edges-requires : goal.add_edges-requires
add_edges-requires c =
    let run = c.args.run.now in
    let k = c.loop-node.node in
    let less = subst (λ l. k < length l) c.as_slice-own-items.ensures c.loop-node-test.true in
    let own = c.own-item.is ∙ ap (λ l. get_or l k c.own-item.result) c.as_slice-own-items.ensures ∙ get_or_default run.plan.nodes k c.own-item.result no_node less in
    let handed = ap length (c.as_slice.ensures ∙ c.inputs-inputs.ensures) ∙ ap (λ (x : Node). length (inputs_of x.op)) own in
    let few = node_few run c.requires k less in
    omega arith

pub loop-node-preserved : goal.loop-node-preserved
loop-node-preserved c =
    let nodes = c.args.run.now.plan.nodes in
    let k = c.loop-node.node in
    let less = subst (λ l. k < length l) c.as_slice-own-items.ensures c.loop-node-test.true in
    let own = c.own-item.is ∙ ap (λ l. get_or l k c.own-item.result) c.as_slice-own-items.ensures in
    c.in_ok-add_edges.ensures
    ∙ ap₂ (λ a b. a ++ input_edges k 0 b) c.loop-node.invariant (c.as_slice.ensures ∙ c.inputs-inputs.ensures ∙ ap (λ (x : Node). inputs_of x.op) own)
    ∙ sym (more_from k c.own-item.result nodes less)
