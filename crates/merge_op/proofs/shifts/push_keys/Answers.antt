use Rattle.std.proofs.Common.{◌≡◌, sym, ◌∙◌, ap, subst, ℕ, ◌+◌, ◌-◌, ◌<◌, ◌≤◌, arith, max, List, [], ◌∷◌, ◌++◌, to_z, of_z, to_z-of_z, w64, SFits, rules}
use Rattle.std.specs.List.{AllByRecursion}
use Rattle.key_lists.proofs.Every.{every_weaker}
use Rattle.tick_model.{specs.declared.update.ShiftRange.ShiftRange, specs.Shifts.delta_at}
use Rattle.merge_op.proofs.Ranged.{delta_last, delta_last_other, every_last}
use Rattle.merge_op.proofs.shifts.push_keys.Goals as goal

pub returns-then-end-begin-clause-before : goal.returns-then-end-begin-clause-before
returns-then-end-begin-clause-before c = every_weaker (λ (range : ShiftRange). range.end < c.args.begin) (λ (range : ShiftRange). range.end < max c.args.begin c.args.end) c.args.shift.now (λ range less. omega (arith, less)) c.requires.before

pub returns-in-Ok-clause-before : goal.returns-in-Ok-clause-before
returns-in-Ok-clause-before c =
    let range : ShiftRange = record { begin = c.args.begin; end = c.args.end - 1; delta = to_z w64 (of_z w64 c.args.delta) } in
    subst (AllByRecursion (λ (range : ShiftRange). range.end < max c.args.begin c.args.end)) (sym c.in-Ok.ensures.ok)
    (every_last (λ (range : ShiftRange). range.end < max c.args.begin c.args.end) c.args.shift.now range
    (every_weaker (λ (range : ShiftRange). range.end < c.args.begin) (λ (range : ShiftRange). range.end < max c.args.begin c.args.end) c.args.shift.now (λ range less. omega (arith, less)) c.requires.before) (omega (arith, c.if-end-begin.false)))

pub returns-in-Ok-clause-earlier : goal.returns-in-Ok-clause-earlier
returns-in-Ok-clause-earlier c = λ key less.
    let range : ShiftRange = record { begin = c.args.begin; end = c.args.end - 1; delta = to_z w64 (of_z w64 c.args.delta) } in
    ap (λ shifts. delta_at shifts key) c.in-Ok.ensures.ok ∙ delta_last_other c.args.shift.now range key less

pub returns-in-Ok-clause-moved : goal.returns-in-Ok-clause-moved
returns-in-Ok-clause-moved c = λ key from to.
    let range : ShiftRange = record { begin = c.args.begin; end = c.args.end - 1; delta = to_z w64 (of_z w64 c.args.delta) } in
    let fits : SFits w64 c.args.delta = search rules in
    ap (λ shifts. delta_at shifts key) c.in-Ok.ensures.ok ∙ delta_last c.args.shift.now range key c.requires.before from (omega (arith, to)) ∙ to_z-of_z fits
