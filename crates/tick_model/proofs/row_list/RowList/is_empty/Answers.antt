use Rattle.std.proofs.Common.{◌==◌, ap, sym, ◌∙◌, length, arith}
use Rattle.tick_model.proofs.RowLists.{length-rows_under}
use Rattle.tick_model.proofs.row_list.RowList.is_empty.Goals as goal

pub returns : goal.returns
returns c =
    let own = c.self.inside in
    let many = ap length (sym c.self.view_is) ∙ length-rows_under own.width own.keys.items own.cells.items in
    c.is_empty.ensures ∙ ap (λ n. n == 0) (omega (arith, many, own.keys.ok.0))
