use Rattle.std.proofs.Common.{◌≡◌, ◌<◌, ap, sym, ◌∙◌, subst, rules, false, length, ℤ, w64}
use Rattle.std.{proofs.lemmas.Int.to_z-of_z, proofs.lemmas.Result.on_ok_weaker}
use Rattle.tick_model.specs.Tables.{is_null}
use Rattle.agg_by.{specs.ByNumber.changed_at, proofs.ByNumber.changed_held}
use Rattle.agg_by.proofs.by_number.ByNumber.put.Goals as goal

pub returns : goal.returns
returns g c =
    let none = g.T.OfCells.none in
    let change = g.T.OfCells.with_cell in
    let holds : is_null c.args.value ≡ false = search rules in
    let same = to_z-of_z w64 c.args.value c.ranges.value in
    let room = subst (λ entries. c.args.number < length entries) (sym c.self.view_is) c.in_ok-make_room.ensures.room in
    on_ok_weaker c.put.result (λ is. changed_held none c.args.number c.args.value change c.args.self.now c.self.inside.entries.items c.index_mut.result.now c.put.new.self holds room c.index_mut.ensures.value (is ∙ ap (λ (value : ℤ). change value c.index_mut.result.now) same)
    (ap (changed_at none c.args.number (change c.args.value)) c.self.view_is ∙ c.in_ok-make_room.ensures.same (change c.args.value))) c.put.ensures
