use Rattle.std.proofs.Common.{ap, sym, ◌∙◌, subst, ◌+◌}
use Rattle.std.specs.Arc.{arc_value}
use Rattle.tick_model.{specs.Evaluation.table_at, specs.States.state}
use Rattle.tick_table.specs.Ticking.{Ticking}
use Rattle.update_graph.{specs.declared.work.LiveNode.LiveNode, specs.Stands.IsReady}
use Rattle.update_graph.proofs.work.with_table.Goals as goal

pub holding-requires-clause-ready : goal.holding-requires-clause-ready
holding-requires-clause-ready c =
    let run = c.args.run.now in
    subst (λ (ready : LiveNode). IsReady run (table_at (state run c.args.step)) (c.args.step + 1) c.args.node ready.operator ready.table) (sym c.in_ok-held.ensures.ok) c.requires.ready

pub holding-requires-clause-table : goal.holding-requires-clause-table
holding-requires-clause-table c = ap (λ (ready : LiveNode). arc_value {X = Ticking} ready.table) c.in_ok-held.ensures.ok ∙ c.requires.table
