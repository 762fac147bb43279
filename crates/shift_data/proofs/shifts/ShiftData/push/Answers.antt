use Rattle.std.proofs.Common.{◌≡◌, ap, sym, ◌∙◌, None, w64, is_ok}
use Rattle.std.{proofs.lemmas.Bool.cond_both, proofs.lemmas.Int.to_z-of_z}
use Rattle.shift_data.{specs.Pushes.push_fault, specs.ShiftLists.IsShiftList, proofs.Lists.pushed}
use Rattle.shift_data.proofs.shifts.ShiftData.push.Goals as goal

pub invariant_of-self : goal.invariant_of-self
invariant_of-self c =
    let none : push_fault c.self.inside.ranges.items c.args.begin c.args.end c.args.delta ≡ None =
    ap (λ shifts. push_fault shifts c.args.begin c.args.end c.args.delta) (sym c.deref.ensures.value)
    ∙ ap (push_fault c.deref.result.now c.args.begin c.args.end) (sym (to_z-of_z w64 c.args.delta c.ranges.delta))
    ∙ sym c.push_fault.ensures
    ∙ c.in_default.is in
    rw c.push.ensures.items
    (cond_both (is_ok c.push.result) _ _ IsShiftList
    (λ _. rw (to_z-of_z w64 c.args.delta c.ranges.delta) (pushed c.self.inside.ranges.items c.args.begin c.args.end c.args.delta c.requires.begin c.requires.end c.requires.up c.requires.down none c.self.invariant))
    (λ _. c.self.invariant))
