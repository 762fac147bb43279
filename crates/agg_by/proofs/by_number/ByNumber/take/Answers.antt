use Rattle.std.proofs.Common.{◌≡◌, ◌<◌, ap, sym, ◌∙◌, subst, rules, false, length, ℤ, w64}
use Rattle.std.{proofs.lemmas.Int.to_z-of_z, proofs.lemmas.List.get_or_default, proofs.lemmas.Result.on_ok_weaker}
use Rattle.tick_model.specs.Tables.{is_null}
use Rattle.agg_by.{specs.ByNumber.{at_number, changed_at}, proofs.ByNumber.{changed_held, changed_own}}
use Rattle.agg_by.proofs.by_number.ByNumber.take.Goals as goal

pub take-requires : goal.take-requires
take-requires g c =
    let none = g.T.OfCells.none in
    let room = c.self.inside.entries.items in
    let number = c.args.number in
    let holds : is_null c.args.value ≡ false = search rules in
    let long : number < length room = subst (λ entries. number < length entries) (sym c.self.view_is) c.in_ok-make_room.ensures.room in
    let same : at_number none number c.args.self.now ≡ at_number none number room =
    sym (changed_own none number (λ entry. entry) c.args.self.now) ∙ ap (at_number none number) (sym (ap (changed_at none number (λ entry. entry)) c.self.view_is ∙ c.in_ok-make_room.ensures.same (λ entry. entry)))
    ∙ changed_own none number (λ entry. entry) room in
    let entry : at_number none number c.args.self.now ≡ c.index_mut.result.now = same ∙ sym (c.index_mut.ensures.value ∙ get_or_default room number c.index_mut.result.now none long) in
    subst (λ (value : ℤ). g.T.OfCells.has_cell value c.index_mut.result.now) (sym (to_z-of_z w64 c.args.value c.ranges.value)) (subst (g.T.OfCells.has_cell c.args.value) entry (c.requires holds))

pub returns : goal.returns
returns g c =
    let none = g.T.OfCells.none in
    let change = g.T.OfCells.without_cell in
    let holds : is_null c.args.value ≡ false = search rules in
    let same = to_z-of_z w64 c.args.value c.ranges.value in
    let room = subst (λ entries. c.args.number < length entries) (sym c.self.view_is) c.in_ok-make_room.ensures.room in
    on_ok_weaker c.take.result (λ is. changed_held none c.args.number c.args.value change c.args.self.now c.self.inside.entries.items c.index_mut.result.now c.take.new.self holds room c.index_mut.ensures.value (is ∙ ap (λ (value : ℤ). change value c.index_mut.result.now) same)
    (ap (changed_at none c.args.number (change c.args.value)) c.self.view_is ∙ c.in_ok-make_room.ensures.same (change c.args.value))) c.take.ensures
