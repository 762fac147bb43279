use Rattle.std.proofs.Common.{length}
use Rattle.source_changes.{proofs.Opened.opened_tables, specs.Openings.IsOpenedTable}
use Rattle.tick_laws.{proofs.LawfulSources.lawful_tables, proofs.SourceTicks.opened_tick}
use Rattle.tick_model.{specs.LawfulRuns.sources_of, specs.Tables.IsTable}
use Rattle.update_graph.{proofs.Changing.at_place, proofs.PlanLimits.{IsNarrow, narrow_openings}}
use Rattle.update_graph.proofs.sources.opened_sources.Goals as goal

pub opened_source-requires-clause-opened : goal.opened_source-requires-clause-opened
opened_source-requires-clause-opened c =
    at_place IsOpenedTable c.args.run.now.opening c.as_slice-opening.result.now (opened_tables (length c.args.run.now.texts) (sources_of c.args.run.now.plan.nodes) c.args.run.now.opening c.requires.opening) c.as_slice-opening.ensures
    c.loop-table.table-index c.table-item.result c.loop-table-test.true c.table-item.is

pub opened_source-requires-clause-tick : goal.opened_source-requires-clause-tick
opened_source-requires-clause-tick c =
    opened_tick c.table-item.result
    (at_place IsTable c.args.run.now.opening c.as_slice-opening.result.now (lawful_tables c.args.run.now c.requires).opening c.as_slice-opening.ensures
    c.loop-table.table-index c.table-item.result c.loop-table-test.true c.table-item.is)

pub opened_source-requires-clause-some : goal.opened_source-requires-clause-some
opened_source-requires-clause-some c =
    (at_place IsNarrow c.args.run.now.opening c.as_slice-opening.result.now (narrow_openings c.args.run.now c.requires) c.as_slice-opening.ensures
    c.loop-table.table-index c.table-item.result c.loop-table-test.true c.table-item.is).some

pub opened_source-requires-clause-few : goal.opened_source-requires-clause-few
opened_source-requires-clause-few c =
    (at_place IsNarrow c.args.run.now.opening c.as_slice-opening.result.now (narrow_openings c.args.run.now c.requires) c.as_slice-opening.ensures
    c.loop-table.table-index c.table-item.result c.loop-table-test.true c.table-item.is).few
