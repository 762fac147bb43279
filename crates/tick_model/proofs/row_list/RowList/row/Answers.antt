use Rattle.std.proofs.Common.{◌≡◌, ◌+◌, ◌-◌, ◌*◌, ap, ◌∙◌, length, take, drop, arith, rules}
use Rattle.std.specs.Prelude.{slice_get}
use Rattle.tick_model.proofs.RowLists.{row_under, row_fits}
use Rattle.tick_model.proofs.row_list.RowList.row.Goals as goal

pub overflow_mul-start : goal.overflow_mul-start
overflow_mul-start c =
    let own = c.self.inside in
    let ends = row_fits own.width own.keys.items own.cells.items c.args.self.now c.args.place c.self.invariant c.self.view_is c.requires in
    search rules

pub overflow_add-result : goal.overflow_add-result
overflow_add-result c =
    let own = c.self.inside in
    let ends = row_fits own.width own.keys.items own.cells.items c.args.self.now c.args.place c.self.invariant c.self.view_is c.requires in
    search rules

pub offset_bounds-deref-start : goal.offset_bounds-deref-start
offset_bounds-deref-start c =
    let own = c.self.inside in
    let ends = row_fits own.width own.keys.items own.cells.items c.args.self.now c.args.place c.self.invariant c.self.view_is c.requires in
    search rules

pub slice_bounds-result-end : goal.slice_bounds-result-end
slice_bounds-result-end c =
    let own = c.self.inside in
    let ends = row_fits own.width own.keys.items own.cells.items c.args.self.now c.args.place c.self.invariant c.self.view_is c.requires in
    omega (arith, ends, ap length c.deref.ensures.value)

pub returns : goal.returns
returns c row at =
    let own = c.self.inside in
    let start = c.args.place * own.width in
    let wide : start + own.width - start ≡ own.width = omega arith in
    ap (λ n. take n (drop start c.deref.result.now)) wide ∙ ap (λ cells. take own.width (drop start cells)) c.deref.ensures.value
    ∙ row_under own.width own.keys.items own.cells.items c.args.place row (ap (λ rows. slice_get rows c.args.place) c.self.view_is ∙ at)
