use Rattle.std.proofs.Common.{◌≡◌, ◌∙◌, ◌+◌, ◌<◌, refl, sym, ap, subst, length}
use Rattle.tick_model.specs.declared.feed.Run.{Run}
use Rattle.viewport.specs.Watching.{Watching}
use Rattle.embedded.proofs.Steps.{is_exact, stands_before, table_now}
use Rattle.embedded.proofs.stepping.advanced.Goals as goal

pub pass-requires-clause-exact : goal.pass-requires-clause-exact
pass-requires-clause-exact g c =
    is_exact c.args.run.now c.requires.lawful c.args.node c.requires.node c.in_ok-graph.graph.run c.in_ok-graph.graph.step c.in_ok-graph.ensures.run c.step-step.ensures.reached c.table-table.result.now c.table-table.ensures
    c.args.stepping.graph.step c.in_ok-graph.ensures.step

pub pass-requires-clause-stands : goal.pass-requires-clause-stands
pass-requires-clause-stands g c =
    c.requires.seen
    ∙ stands_before c.args.run.now c.requires.lawful c.args.node c.requires.node c.in_ok-graph.graph.run c.in_ok-graph.graph.step c.in_ok-graph.ensures.run c.step-step.ensures.reached c.table-table.result.now c.table-table.ensures
    c.args.stepping.graph.step c.in_ok-graph.ensures.step

pub returns-clause-seen : goal.returns-clause-seen
returns-clause-seen g c =
    ap (λ (watching : Watching). watching.table) c.in_ok-viewport.ensures.stands
    ∙ table_now c.args.run.now c.requires.lawful c.args.node c.requires.node c.in_ok-graph.graph.run c.in_ok-graph.graph.step c.in_ok-graph.ensures.run c.step-step.ensures.reached c.table-table.result.now c.table-table.ensures
    c.in_ok-graph.graph.step refl
