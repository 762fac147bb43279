use Rattle.std.proofs.Common.{◌≡◌, ◌∙◌, ap, sym, subst, arith, length, map, get_or}
use Rattle.std.{specs.Arc.arc_value, proofs.lemmas.List.{map_push, take_all}}
use Rattle.tick_model.{specs.declared.plan.Published.Published, specs.Evaluation.table_at, specs.States.state}
use Rattle.tick_table.specs.Ticking.{Ticking}
use Rattle.replay.{proofs.PublishedTables.{first_tables, item_is, no_publication}, proofs.TablesInTurn.{node_within, tables_more}}
use Rattle.replay.proofs.opening.published_tables.Goals as goal

pub first_table-requires-clause-node : goal.first_table-requires-clause-node
first_table-requires-clause-node c =
    node_within c.args.graph.now.run 0 c.loop-table.table-index c.args.published.now (get_or c.args.published.now c.loop-table.table-index no_publication) c.requires.published c.loop-table-test.true (item_is c.args.published.now c.loop-table.table-index no_publication c.loop-table-test.true) c.step-step.ensures.lawful

pub loop-table-preserved : goal.loop-table-preserved
loop-table-preserved c =
    tables_more (λ (table : Published). table_at (state c.args.graph.now.run 0) table.node) c.args.published.now c.loop-table.table-index (get_or c.args.published.now c.loop-table.table-index no_publication) c.loop-table-test.true (item_is c.args.published.now c.loop-table.table-index no_publication c.loop-table-test.true)
    (map (λ shared. (arc_value {X = Ticking} shared).new) c.loop-table.tables.items) _ _ c.loop-table.invariant c.in_ok-first_table.ensures
    (ap (map (λ shared. (arc_value {X = Ticking} shared).new)) c.in_ok-push.ensures.items ∙ map_push (λ shared. (arc_value {X = Ticking} shared).new) c.loop-table.tables.items _)

pub returns : goal.returns
returns c =
    first_tables c.args.graph.now.run _
    (c.loop-table.invariant ∙ ap (map (λ (table : Published). table_at (state c.args.graph.now.run 0) table.node)) (take_all c.loop-table.table-index c.args.published.now (omega (arith, c.loop-table-test.false)) ∙ c.requires.published)) c.requires.within
