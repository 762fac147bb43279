use Rattle.std.proofs.Common.{ap, sym, ◌∙◌, ◌++◌, ◌∷◌, [], append_assoc, get_or, take}
use Rattle.graph_words.specs.declared.graph.Edge.{Edge}
use Rattle.update_graph.{specs.Edges.input_edges, proofs.PlanEdges.more_into}
use Rattle.update_graph.proofs.edges.add_edges.Goals as goal

pub loop-port-preserved : goal.loop-port-preserved
loop-port-preserved c =
    let k = c.loop-port.port in
    let edge : Edge = record { from = get_or c.args.inputs.now k 0; to = c.args.node; port = k } in
    c.in_ok-push.ensures.items
    ∙ ap (λ l. l ++ edge ∷ []) c.loop-port.invariant
    ∙ append_assoc c.args.edges.now.items (input_edges c.args.node 0 (take k c.args.inputs.now)) (edge ∷ [])
    ∙ ap (λ l. c.args.edges.now.items ++ l) (sym (more_into c.args.node k 0 c.args.inputs.now c.loop-port-test.true))
