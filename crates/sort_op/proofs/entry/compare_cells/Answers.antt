use Rattle.std.proofs.Common.{sym, ◌∙◌, ◌+◌, ap₂, get_or, rules, w64, SFits}
use Rattle.std.proofs.lemmas.Int.{to_z-of_z}
use Rattle.tick_model.specs.Sort.{column_cmp}
use Rattle.sort_op.{proofs.CellOrders.{cells_from, column_more, decided, passed}, proofs.KeptCells.blank}
use Rattle.sort_op.proofs.entry.compare_cells.Goals as goal

pub returns-then-ne : goal.returns-then-ne
returns-then-ne c =
    let one : SFits w64 c.cell_at.result = search rules in
    let other : SFits w64 c.cell_at-in-loop-place.result = search rules in
    let compared = c.compare_column-order.ensures ∙ ap₂ (column_cmp (get_or c.args.by.now c.loop-place.place blank)) (to_z-of_z w64 c.cell_at.result one ∙ c.cell_at.ensures) (to_z-of_z w64 c.cell_at-in-loop-place.result other ∙ c.cell_at-in-loop-place.ensures) in
    sym (decided c.compare_column-order.result (cells_from (c.loop-place.place + 1) c.args.by.now c.args.cells.now c.args.others.now) (sym c.ne.ensures ∙ c.if-ne.true))
    ∙ column_more c.loop-place.place c.args.by.now c.args.cells.now c.args.others.now blank c.compare_column-order.result c.loop-place-test.true compared
    ∙ c.loop-place.invariant

pub loop-place-preserved : goal.loop-place-preserved
loop-place-preserved c =
    let one : SFits w64 c.cell_at.result = search rules in
    let other : SFits w64 c.cell_at-in-loop-place.result = search rules in
    let compared = c.compare_column-order.ensures ∙ ap₂ (column_cmp (get_or c.args.by.now c.loop-place.place blank)) (to_z-of_z w64 c.cell_at.result one ∙ c.cell_at.ensures) (to_z-of_z w64 c.cell_at-in-loop-place.result other ∙ c.cell_at-in-loop-place.ensures) in
    sym (passed c.compare_column-order.result (cells_from (c.loop-place.place + 1) c.args.by.now c.args.cells.now c.args.others.now) (sym c.ne.ensures ∙ c.if-ne.false))
    ∙ column_more c.loop-place.place c.args.by.now c.args.cells.now c.args.others.now blank c.compare_column-order.result c.loop-place-test.true compared
    ∙ c.loop-place.invariant
