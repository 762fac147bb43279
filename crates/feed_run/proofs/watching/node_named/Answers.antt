use Rattle.std.proofs.Common.{◌≡◌, ◌∙◌, sym, rules, tests}
use Rattle.std.{specs.Prelude.position, specs.Str.bytes_eq, proofs.lemmas.Iterator.YieldsList-from_slice, proofs.lemmas.Iterator.Search.position_from_yields_List}
use Rattle.tick_model.specs.declared.plan.Node.{Node}
use Rattle.feed_run.proofs.watching.node_named.Goals as goal

pub returns-in_err-position-clause-named : goal.returns-in_err-position-clause-named
returns-in_err-position-clause-named c =
    let nodes = c.args.plan.now.nodes in
    let named = λ (node : Node). bytes_eq node.name c.args.name.now in
    let found : c.position.result ≡ position named nodes =
    position_from_yields_List named _ _ c.position.result c.position.ensures.ran (YieldsList-from_slice nodes cc) (λ x b q k. search (rules, tests)) in
    c.from_residual.ensures ∙ sym c.in_err-position.was ∙ found

pub returns-clause-named : goal.returns-clause-named
returns-clause-named c =
    let nodes = c.args.plan.now.nodes in
    let named = λ (node : Node). bytes_eq node.name c.args.name.now in
    let found : c.position.result ≡ position named nodes =
    position_from_yields_List named _ _ c.position.result c.position.ensures.ran (YieldsList-from_slice nodes cc) (λ x b q k. search (rules, tests)) in
    sym c.in_ok-position.was ∙ found
