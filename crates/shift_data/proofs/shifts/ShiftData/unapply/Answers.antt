use Rattle.std.proofs.Common.{◌≡◌, ap, ap₂, sym, ◌∙◌, subst, IfOk}
use Rattle.key_lists.{specs.Keys.without, proofs.Every.filter_all}
use Rattle.shift_data.specs.Moves.{IsLawful, unapplied}
use Rattle.shift_data.proofs.shifts.ShiftData.unapply.Goals as goal

pub unapplied-requires-clause-lawful : goal.unapplied-requires-clause-lawful
unapplied-requires-clause-lawful c =
    let survivors = c.args.survivors.now in
    let none : without c.new.result survivors ≡ survivors = ap (λ left_out. without left_out survivors) c.new.ensures ∙ filter_all survivors in
    subst (IsLawful c.deref.result.now) (sym none) (subst (λ shifts. IsLawful shifts survivors) (sym (c.deref.ensures.value ∙ c.self.view_is)) c.requires)

pub returns : goal.returns
returns c =
    let survivors = c.args.survivors.now in
    let none : without c.new.result survivors ≡ survivors = ap (λ left_out. without left_out survivors) c.new.ensures ∙ filter_all survivors in
    subst (λ asked. IfOk c.unapplied.result (λ keys. keys ≡ asked)) (ap₂ (λ shifts keys. unapplied shifts keys c.args.after.now) (c.deref.ensures.value ∙ c.self.view_is) none) c.unapplied.ensures
