use Rattle.std.proofs.Common.{◌∙◌, ◌+◌, ap₂, get_or, rules, sym, w64, SFits}
use Rattle.std.proofs.lemmas.Int.{to_z-of_z}
use Rattle.tick_model.specs.Sort.{column_cmp}
use Rattle.sort_op.{proofs.CellOrders.{decided, passed}, proofs.KeptCells.{blank, cmp_from, cmp_more}}
use Rattle.sort_op.proofs.sort_cells.SortCells.compare.Goals as goal

pub returns-then-ne : goal.returns-then-ne
returns-then-ne c =
    let by = c.args.by.now in
    let cells = c.args.self.now in
    let one : SFits w64 c.get.result = search rules in
    let two : SFits w64 c.get-in-loop-place.result = search rules in
    let rest = cmp_from (c.loop-place.place + 1) by cells c.args.handle c.args.other in
    sym (decided c.compare_column-order.result rest (sym c.ne.ensures ∙ c.if-ne.true))
    ∙ cmp_more c.loop-place.place by cells c.args.handle c.args.other c.compare_column-order.result c.loop-place-test.true (c.compare_column-order.ensures ∙ ap₂ (column_cmp (get_or by c.loop-place.place blank)) (to_z-of_z w64 c.get.result one ∙ c.get.ensures) (to_z-of_z w64 c.get-in-loop-place.result two ∙ c.get-in-loop-place.ensures))
    ∙ c.loop-place.invariant

pub loop-place-preserved : goal.loop-place-preserved
loop-place-preserved c =
    let by = c.args.by.now in
    let cells = c.args.self.now in
    let one : SFits w64 c.get.result = search rules in
    let two : SFits w64 c.get-in-loop-place.result = search rules in
    let rest = cmp_from (c.loop-place.place + 1) by cells c.args.handle c.args.other in
    sym (passed c.compare_column-order.result rest (sym c.ne.ensures ∙ c.if-ne.false))
    ∙ cmp_more c.loop-place.place by cells c.args.handle c.args.other c.compare_column-order.result c.loop-place-test.true (c.compare_column-order.ensures ∙ ap₂ (column_cmp (get_or by c.loop-place.place blank)) (to_z-of_z w64 c.get.result one ∙ c.get.ensures) (to_z-of_z w64 c.get-in-loop-place.result two ∙ c.get-in-loop-place.ensures))
    ∙ c.loop-place.invariant
