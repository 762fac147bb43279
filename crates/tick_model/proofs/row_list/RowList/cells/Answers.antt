use Rattle.std.proofs.Common.{ap, sym, ◌∙◌}
use Rattle.std.specs.Prelude.{flat_map}
use Rattle.tick_model.{specs.declared.table.PlainRow.PlainRow, proofs.RowLists.cells_under}
use Rattle.tick_model.proofs.row_list.RowList.cells.Goals as goal

pub returns : goal.returns
returns c =
    let own = c.self.inside in
    c.as_slice.ensures.value ∙ sym (cells_under own.width own.keys.items own.cells.items c.self.invariant) ∙ ap (flat_map (λ (row : PlainRow). row.cells)) c.self.view_is
