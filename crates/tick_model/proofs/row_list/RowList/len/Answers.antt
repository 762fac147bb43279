use Rattle.std.proofs.Common.{ap, sym, ◌∙◌, length, arith}
use Rattle.tick_model.proofs.RowLists.{length-rows_under}
use Rattle.tick_model.proofs.row_list.RowList.len.Goals as goal

pub returns : goal.returns
returns c =
    let own = c.self.inside in
    let many = ap length (sym c.self.view_is) ∙ length-rows_under own.width own.keys.items own.cells.items in
    omega (arith, c.len.ensures, own.keys.ok.0)
