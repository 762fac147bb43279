use Rattle.std.proofs.Common.{ap, sym, subst, ◌∙◌, ◌<◌, ◌==◌, ltb, arith}
use Rattle.std.{specs.List.list_any, proofs.lemmas.List.get_or_read}
use Rattle.graph_words.proofs.Opens.{any_input, inputs_count}
use Rattle.graph_words.proofs.claims.Claims.has_inputs.Goals as goal

pub returns : goal.returns
returns g c =
    let node = c.args.node in
    let claims = c.self.inside in
    let sound = c.self.invariant in
    let nodes = sound.keyed.0 ∙ ap (λ k. k.plan.nodes) c.self.view_is in
    let edges = sound.keyed.1 ∙ ap (λ k. k.plan.edges.items) c.self.view_is in
    let less : node < claims.nodes = subst (λ n. node < n) (sym nodes) c.requires in
    let known = sound.counts_inputs.0 in
    let read = get_or_read claims.inputs.items node c.index.result.now (omega arith) c.index.ensures 0 in
    ap (ltb 0) (read ∙ sound.counts_inputs.1 node less ∙ sym (inputs_count node claims.edges.items)) ∙ sym (any_input node claims.edges.items) ∙ ap (λ es. list_any (λ x. x.to == node) es) edges
