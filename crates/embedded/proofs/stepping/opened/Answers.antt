use Rattle.std.proofs.Common.{◌≡◌, ◌∙◌, ◌<◌, refl, sym, ap, subst, length, arith, lit<, lit≤}
use Rattle.tick_model.specs.declared.feed.Run.{Run}
use Rattle.viewport.{specs.Slices.IsSlice, specs.Watching.Watching}
use Rattle.embedded.proofs.Steps.{table_now}
use Rattle.embedded.proofs.stepping.opened.Goals as goal

pub returns-clause-seen : goal.returns-clause-seen
returns-clause-seen g c =
    ap (λ (watching : Watching). watching.table) c.in_ok-viewport.ensures.stands
    ∙ table_now c.args.run.now c.requires.lawful c.args.node c.requires.node c.in_ok-graph.graph.run c.in_ok-graph.graph.step c.in_ok-graph.ensures.run c.step-step.ensures.reached c.table-table.result.now c.table-table.ensures
    c.in_ok-graph.graph.step refl
