use Rattle.std.proofs.Common.{ap, sym, ◌∙◌, length}
use Rattle.std.{specs.Prelude.flat_map, specs.List.range_with_len}
use Rattle.tick_model.{specs.declared.table.PlainRow.PlainRow, specs.Updates.Update}
use Rattle.source_changes.proofs.Opened.{opening_is}
use Rattle.source_changes.proofs.opening.opening_change.Goals as goal

pub returns : goal.returns
returns c =
    let nothing = c.removed.view_is ∙ c.none.ensures in
    opening_is c.args.table.now c.requires _
    (ap (λ (update : Update). update.removed) nothing)
    (c.in_ok-added.ensures ∙ ap (range_with_len 0) (c.len.ensures ∙ ap length c.rows-rows.ensures) ∙ sym c.requires.keys_are)
    (ap (λ (update : Update). update.modified) nothing)
    (ap (λ (update : Update). update.shifted) nothing)
    (ap (λ (update : Update). update.columns) nothing)
    (c.of.ensures ∙ c.in_ok-cells.ensures.items ∙ c.cells.ensures ∙ ap (flat_map (λ (row : PlainRow). row.cells)) c.rows-rows.ensures)
