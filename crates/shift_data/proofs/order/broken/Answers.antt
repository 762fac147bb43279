use Rattle.std.proofs.Common.{sym, ap, ◌∙◌, Some, arith, ◌+◌, subst}
use Rattle.std.proofs.lemmas.Option.{none-some, same_Some}
use Rattle.key_lists.specs.Keys.{without}
use Rattle.tick_model.specs.Rules.{shift_fault_after, shift_fault}
use Rattle.shift_data.{specs.Faults.{IsPlaced, fault_in}, specs.Parts.from_on, proofs.Keys.from_none, proofs.Kept.kept_set, proofs.PartFaults.{faults, shown, not_shown}}
use Rattle.shift_data.proofs.order.broken.Goals as goal

pub loop-part-init : goal.loop-part-init
loop-part-init c =
    (omega arith, (λ part is. absurd (none-some part is)), tt, ap (shift_fault c.args.limit c.args.shifts.now) (from_none (without c.args.left_out.now c.args.keys.now)))

pub returns-then-is_some : goal.returns-then-is_some
returns-then-is_some c =
    let part = c.in-Some.part in
    shown c.broken_at-broken.result (fault_in c.args.limit c.loop-part.before part (without c.args.left_out.now c.args.keys.now)) (shift_fault_after c.args.limit c.args.shifts.now (Some part.last) (from_on (part.last + 1) (without c.args.left_out.now c.args.keys.now))) (shift_fault c.args.limit c.args.shifts.now (without c.args.left_out.now c.args.keys.now))
    (sym c.is_some.ensures ∙ c.if-is_some.true) c.broken_at-broken.ensures
    (sym c.loop-part.invariant.3 ∙ faults c.args.limit c.args.shifts.now (without c.args.left_out.now c.args.keys.now) c.loop-part.from c.loop-part.before part (kept_set c.args.left_out.now c.args.keys.now c.part_without.ensures.keys) c.in-Some.ensures.part c.loop-part.invariant.2)

pub loop-part-preserved : goal.loop-part-preserved
loop-part-preserved c =
    let part = c.in-Some.part in
    let is = c.in-Some.ensures.part in (
      omega (arith, is.small),
      (λ other same. subst IsPlaced (same_Some part other same) (record { first = omega (arith, is.small, is.order); last = is.small; up = c.in-Some.ensures.up; down = c.in-Some.ensures.down })),
      is.same part.last is.order (omega arith),
      not_shown c.broken_at-broken.result (fault_in c.args.limit c.loop-part.before part (without c.args.left_out.now c.args.keys.now)) (shift_fault_after c.args.limit c.args.shifts.now (Some part.last) (from_on (part.last + 1) (without c.args.left_out.now c.args.keys.now))) (shift_fault c.args.limit c.args.shifts.now (without c.args.left_out.now c.args.keys.now))
          (sym c.is_some.ensures ∙ c.if-is_some.false) c.broken_at-broken.ensures
          (sym c.loop-part.invariant.3 ∙ faults c.args.limit c.args.shifts.now (without c.args.left_out.now c.args.keys.now) c.loop-part.from c.loop-part.before part (kept_set c.args.left_out.now c.args.keys.now c.part_without.ensures.keys) is c.loop-part.invariant.2),
    )
