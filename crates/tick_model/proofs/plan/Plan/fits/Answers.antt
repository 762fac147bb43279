use Rattle.std.proofs.Common.{ap, ap₂, sym, ◌∙◌, drop, filter}
use Rattle.std.proofs.lemmas.List.{drop_all}
use Rattle.tick_model.{specs.Evaluation.is_source, specs.Fits.are_source_tables, proofs.SourceTables.no_tables_left}
use Rattle.tick_model.proofs.plan.Plan.fits.Goals as goal

pub returns : goal.returns
returns c =
    let tables = c.as_slice-tables.result.now in
    sym (no_tables_left c.loop-node.next tables c.loop-node.invariant.0)
    ∙ ap (λ rest. are_source_tables (filter is_source rest) (drop c.loop-node.next tables)) (sym (drop_all c.loop-node.node-index c.as_slice-node-items.result.now c.loop-node-test.false))
    ∙ c.loop-node.invariant.1
    ∙ ap₂ (λ nodes tables. are_source_tables (filter is_source nodes) tables) c.as_slice-node-items.ensures c.as_slice-tables.ensures
