use Rattle.std.proofs.Common.{[], ap, ◌∙◌}
use Rattle.tick_table.specs.Ticking.{Ticking}
use Rattle.tick_model.{specs.declared.table.PlainTable.PlainTable, specs.Sources.opened}
use Rattle.update_graph.proofs.Changing.{change_fits, change_lawful}
use Rattle.update_graph.proofs.sources.opened_source.Goals as goal

pub bring_on-requires-clause-lawful : goal.bring_on-requires-clause-lawful
bring_on-requires-clause-lawful c =
    let empty = ap (λ (t : Ticking). t.new) c.in_ok-own.ensures ∙ ap (λ width. let table : PlainTable = record { width = width; rows = [] } in table) c.width.ensures in
    change_lawful (opened c.args.table.now) c.requires.tick _ empty _ c.in_ok-change.ensures

pub bring_on-requires-clause-whole : goal.bring_on-requires-clause-whole
bring_on-requires-clause-whole c =
    let empty = ap (λ (t : Ticking). t.new) c.in_ok-own.ensures ∙ ap (λ width. let table : PlainTable = record { width = width; rows = [] } in table) c.width.ensures in
    change_fits (opened c.args.table.now) c.requires.tick _ empty _ c.in_ok-change.ensures

pub returns : goal.returns
returns c =
    let empty = ap (λ (t : Ticking). t.new) c.in_ok-own.ensures ∙ ap (λ width. let table : PlainTable = record { width = width; rows = [] } in table) c.width.ensures in
    c.in_ok-new.ensures.ok ∙ c.in_ok-bring_on.ensures.exact (opened c.args.table.now) c.requires.tick empty c.in_ok-change.ensures
