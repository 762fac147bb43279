use Rattle.std.proofs.Common.{ap, sym, ◌∙◌, ◌++◌}
use Rattle.std.{specs.Prelude.flat_map, proofs.lemmas.List.append-nil, proofs.lemmas.Slice.Zip.zip_end}
use Rattle.tick_model.specs.Texts.{comma_before}
use Rattle.update_text.proofs.CellRows.{cell_texts-end}
use Rattle.update_text.proofs.rows.push_cells.Goals as goal

pub returns : goal.returns
returns c =
    let columns = c.args.columns.now in
    let cells = c.args.cells.now in
    let ended = zip_end columns cells c.loop-column.yielded c.into_iter-column-iterator.result c.loop-column.column-iterator c.next.new.self c.next.result (cc) (cc) c.loop-column.yielded_by c.in-None.is c.next.ensures.steps in
    sym (append-nil c.loop-column.text.items)
    ∙ ap (λ more. c.loop-column.text.items ++ flat_map comma_before more) (sym (cell_texts-end c.args.texts.now columns cells _ ended))
    ∙ c.loop-column.invariant
