use Rattle.std.proofs.Common.{◌≡◌, sym, subst, ℤ, w64, SFits, to_z-of_z, rules}
use Rattle.std.specs.Prelude.{None}
use Rattle.shift_data.specs.Pushes.{push_fault}
use Rattle.update_text.proofs.ReadChanges.{may_be_put}
use Rattle.update_text.proofs.read_changes.put_shift.Goals as goal

pub returns-in-Err-clause-told : goal.returns-in-Err-clause-told
returns-in-Err-clause-told c shift range =
    let fits : SFits w64 c.args.range.delta = search rules in
    c.fault_of.ensures (c.in-Err.ensures.memory (subst (λ (z : ℤ). push_fault c.args.shifts.now c.args.range.begin c.args.range.end z ≡ None) (sym (to_z-of_z fits)) (may_be_put c.args.shifts.now c.args.range shift)))
