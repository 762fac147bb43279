use Rattle.std.proofs.Common.{◌≡◌, subst, to_z-of_z, w64, SFits, rules, sym, ◌∙◌, ℕ, ◌<◌, ◌≤◌, ◌^◌, arith, max}
use Rattle.key_lists.proofs.Every.{every_weaker}
use Rattle.tick_model.specs.declared.update.ShiftRange.{ShiftRange}
use Rattle.merge_op.{specs.Steps.IsStep, proofs.Ranged.delta_behind}
use Rattle.merge_op.proofs.shifts.put_range.Goals as goal

pub returns-else-leads_on-clause-before : goal.returns-else-leads_on-clause-before
returns-else-leads_on-clause-before c = every_weaker (λ (range : ShiftRange). range.end < c.args.begin) (λ (range : ShiftRange). range.end < c.args.end) c.args.shift.now (λ range less. omega (arith, less, c.requires.order)) c.requires.before

pub returns-else-leads_on-clause-moved : goal.returns-else-leads_on-clause-moved
returns-else-leads_on-clause-moved c = λ key from to small step.
    let fits : SFits w64 c.args.delta = search rules in
    delta_behind c.args.shift.now key (every_weaker (λ (range : ShiftRange). range.end < c.args.begin) (λ (range : ShiftRange). range.end < key) c.args.shift.now (λ range less. omega (arith, less, from)) c.requires.before)
    ∙ sym (c.leads_on.ensures.no c.if-leads_on.false (subst IsStep (sym (to_z-of_z fits)) step)) ∙ to_z-of_z fits
