use Rattle.std.proofs.Common.{ap, sym, ◌∙◌}
use Rattle.tick_model.{specs.Tables.keys, proofs.RowLists.keys-rows_under}
use Rattle.tick_model.proofs.row_list.RowList.keys.Goals as goal

pub returns : goal.returns
returns c =
    let own = c.self.inside in
    c.as_slice.ensures.value ∙ sym (keys-rows_under own.width own.keys.items own.cells.items) ∙ ap keys c.self.view_is
