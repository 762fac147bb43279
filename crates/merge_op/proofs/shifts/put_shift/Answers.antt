use Rattle.std.proofs.Common.{◌≡◌, refl, negsuc, ◌<ℤ◌, ◌≤ℤ◌, ap, ap₂, sym, ◌∙◌, subst, ℕ, ◌+◌, ◌-◌, ◌<◌, ◌≤◌, ◌^◌, arith, min, List, [], ◌∷◌, drop, length, get_or, ℤ, pos, ◌+ℤ◌, ◌-ℤ◌, to_z, of_z, to_z-of_z, w64, SFits, rules}
use Rattle.std.{proofs.lemmas.List.drop_more, proofs.Math.ListN.drop_of_length-le}
use Rattle.tick_model.{specs.declared.update.ShiftRange.ShiftRange, specs.Printable.IsShiftRange}
use Rattle.merge_op.{specs.Steps.IsStep, proofs.Ranged.{Ascend, IsPut, Puts, ascend_of, next_orders, place_of, put_last, put_next, put_none}}
use Rattle.merge_op.proofs.shifts.put_shift.Goals as goal

pub loop-range-init : goal.loop-range-init
loop-range-init c =
    let start = c.args.start in
    rw c.ranges-range-items.ensures.ranges
    (put_none c.args.input.now c.args.shift.now start.before c.args.end (pos start.now -ℤ pos start.before) c.requires.order c.requires.before (ascend_of c.args.input.now c.ranges-range-items.ensures.shift.apart))

pub loop-range-preserved : goal.loop-range-preserved
loop-range-preserved c =
    let start = c.args.start in
    let ranges = c.ranges-range-items.result.now in
    let d : ShiftRange = record { begin = 0; end = 0; delta = pos 0 } in
    let range = get_or ranges c.loop-range.range-index d in
    let rest = drop (c.loop-range.range-index + 1) ranges in
    let step : ℤ = pos start.now -ℤ pos start.before in
    let fits : SFits w64 c.step_between-by.result = search rules in
    let by_is : to_z w64 (of_z w64 c.step_between-by.result) ≡ step = to_z-of_z fits ∙ c.step_between-by.ensures in
    let small : IsShiftRange (2 ^ 62) range = place_of (IsShiftRange (2 ^ 62)) ranges c.loop-range.range-index d (rw c.ranges-range-items.ensures.ranges c.ranges-range-items.ensures.shift.small) c.loop-range-test.true in
    let up = small.up in
    let down = small.down in
    let own_fits : SFits w64 range.delta = search rules in
    let both_fit : SFits w64 c.both_steps.result = search rules in
    let sum_is : to_z w64 (of_z w64 range.delta) +ℤ to_z w64 (of_z w64 c.step_between-by.result) ≡ range.delta +ℤ step = ap₂ (λ a b. a +ℤ b) (to_z-of_z own_fits) by_is in
    let own_is : IsStep (range.delta +ℤ step) → to_z w64 (of_z w64 c.both_steps.result) ≡ range.delta +ℤ step = λ s. to_z-of_z both_fit ∙ c.both_steps.ensures (subst IsStep (sym sum_is) s) ∙ sum_is in
    let h : IsPut c.args.input.now (range ∷ rest) c.args.shift.now c.loop-range.shift start.before c.args.end c.loop-range.from step =
    subst (λ (rest : List ShiftRange). IsPut c.args.input.now rest c.args.shift.now c.loop-range.shift start.before c.args.end c.loop-range.from step) (drop_more ranges c.loop-range.range-index d c.loop-range-test.true) c.loop-range.invariant in
    put_next c.args.input.now rest c.args.shift.now c.loop-range.shift c.put_range.new.shift c.put_range-in-loop-range.new.shift range start.before c.args.end c.loop-range.from c.min-begin.result c.min-next.result step h c.min-begin.ensures c.min-next.ensures
    (record { before = c.in_ok-put_range.ensures.before; earlier = c.in_ok-put_range.ensures.earlier; moved = λ key from to small s. c.in_ok-put_range.ensures.moved key from to small (subst IsStep (sym by_is) s) ∙ by_is })
    (record { before = c.in_ok-put_range-2.ensures.before; earlier = c.in_ok-put_range-2.ensures.earlier; moved = λ key from to small s. c.in_ok-put_range-2.ensures.moved key from to small (subst IsStep (sym (own_is s)) s) ∙ own_is s })
