use Rattle.std.proofs.Common.{◌∙◌, ap, sym, w64, to_z-of_z, SFits, rules, Option}
use Rattle.std.specs.Option.{option_map_or}
use Rattle.tick_model.{specs.declared.table.PlainRow.PlainRow, specs.Tables.{null, cell}, specs.Agg.aggregate}
use Rattle.plain_evaluator.proofs.GroupCells.{first_cell, last_cell}
use Rattle.plain_evaluator.proofs.groups.aggregate.Goals as goal

pub returns-in-First : goal.returns-in-First
returns-in-First c =
    let fits : SFits w64 c.cell_of.result = search rules in
    to_z-of_z fits
    ∙ c.cell_of.ensures
    ∙ ap (λ (row : Option PlainRow). option_map_or (λ (row : PlainRow). cell row.cells c.in-First.column) row null) c.first.ensures.value
    ∙ first_cell c.args.rows.now c.in-First.column
    ∙ ap (aggregate c.args.rows.now) (sym c.in-First.is)

pub returns-in-Last : goal.returns-in-Last
returns-in-Last c =
    let fits : SFits w64 c.cell_of-in-Last.result = search rules in
    to_z-of_z fits
    ∙ c.cell_of-in-Last.ensures
    ∙ ap (λ (row : Option PlainRow). option_map_or (λ (row : PlainRow). cell row.cells c.in-Last.column) row null) c.last.ensures.value
    ∙ last_cell c.args.rows.now c.in-Last.column
    ∙ ap (aggregate c.args.rows.now) (sym c.in-Last.is)
