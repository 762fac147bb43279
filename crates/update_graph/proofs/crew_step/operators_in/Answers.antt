use Rattle.std.proofs.Common.{ap, sym, ◌∙◌, ◌++◌, ◌∷◌, [], cond, get_or}
use Rattle.std.proofs.lemmas.List.Elements.{filter_more}
use Rattle.update_graph.{specs.Tags.is_operator, proofs.PlanEdges.item_there}
use Rattle.update_graph.proofs.crew_step.operators_in.Goals as goal

pub put_operator-requires : goal.put_operator-requires
put_operator-requires c =
    let nodes = c.args.nodes.now in
    let k = c.loop-node.node-index in
    c.requires k (get_or nodes k 0) (item_there nodes k 0 c.loop-node-test.true)

pub loop-node-preserved : goal.loop-node-preserved
loop-node-preserved c =
    let nodes = c.args.nodes.now in
    let k = c.loop-node.node-index in
    let p = is_operator c.args.run.now in
    c.in_ok-put_operator.ensures ∙ ap (λ l. l ++ cond (p (get_or nodes k 0)) (get_or nodes k 0 ∷ []) []) c.loop-node.invariant ∙ sym (filter_more p nodes k 0 c.loop-node-test.true)
