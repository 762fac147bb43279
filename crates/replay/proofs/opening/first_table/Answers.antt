use Rattle.std.proofs.Common.{◌∙◌, ap}
use Rattle.std.specs.Arc.{arc_value}
use Rattle.tick_model.{specs.Evaluation.table_at, specs.States.state}
use Rattle.tick_table.specs.Ticking.{Ticking}
use Rattle.replay.proofs.TablesInTurn.{table_now}
use Rattle.replay.proofs.opening.first_table.Goals as goal

pub returns : goal.returns
returns c =
    let graph = c.args.graph.now in
    ap (λ (t : Ticking). t.new) c.in_ok-shared.ensures.cases
    ∙ table_now graph.run c.step-step.ensures.lawful graph.step c.step-step.ensures.reached c.args.table.now.node c.requires.node _ c.shared.ensures
    ∙ ap (λ s. table_at (state graph.run s) c.args.table.now.node) c.requires.opening
