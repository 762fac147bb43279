use Rattle.std.proofs.Common.{sym, ap, ◌∙◌, arith, w64, ◌++◌, ◌+◌}
use Rattle.std.{proofs.lemmas.Int.to_z-of_z, proofs.lemmas.List.append-nil}
use Rattle.tick_model.{specs.Rules.landed, specs.Shifts.delta_at}
use Rattle.shift_data.{specs.Movers.movers, specs.Parts.from_on, proofs.Applied.landing_is, proofs.Asked.lands_inside, proofs.InPlace.{nonzero_bits, zero_bits, left_more, came_more, staying_step}, proofs.Keys.from_none, proofs.Onward.{move_of, none_left, stand_at_first, stand_further}, proofs.Segments.fits_delta, proofs.in_place.part_keys.Goals.{then-part-ne0+in_ok-insert_range+in_ok-insert_range-2, else-part-ne0}}
use Rattle.shift_data.proofs.in_place.part_keys.Goals as goal

pub loop-part-init : goal.loop-part-init
loop-part-init c =
    let move = delta_at c.args.shifts.now in (
      omega arith,
      ap (λ keys. keys ++ movers move (from_on 0 c.args.keys.now)) c.requires.none_left ∙ ap (movers move) (from_none c.args.keys.now),
      ap (λ keys. keys ++ landed c.args.shifts.now (movers move (from_on 0 c.args.keys.now))) c.requires.none_came ∙ ap (λ keys. landed c.args.shifts.now (movers move keys)) (from_none c.args.keys.now),
      stand_at_first c.args.shifts.now c.args.keys.now c.ranges-runs.result.now c.requires.shifts c.ranges-runs.ensures.apart c.ranges-runs.ensures.held,
    )

pub landing-first_place-requires-clause-inside : goal.landing-first_place-requires-clause-inside
landing-first_place-requires-clause-inside c =
    let part = c.in-Some.part in
    let is = move_of c.args.shifts.now c.args.keys.now c.loop-part.from c.loop-part.ranges.now c.loop-part.runs.now part c.loop-part.invariant.3 c.in-Some.ensures.part in
    rw (to_z-of_z w64 part.delta (fits_delta part.delta c.in-Some.ensures.up c.in-Some.ensures.down))
    (lands_inside c.args.shifts.now c.args.keys.now part.first part.delta c.requires.lawful is.first (is.same part.first (omega arith) is.order))

pub landing-last_place-requires-clause-inside : goal.landing-last_place-requires-clause-inside
landing-last_place-requires-clause-inside c =
    let part = c.in-Some.part in
    let is = move_of c.args.shifts.now c.args.keys.now c.loop-part.from c.loop-part.ranges.now c.loop-part.runs.now part c.loop-part.invariant.3 c.in-Some.ensures.part in
    rw (to_z-of_z w64 part.delta (fits_delta part.delta c.in-Some.ensures.up c.in-Some.ensures.down))
    (lands_inside c.args.shifts.now c.args.keys.now part.last part.delta c.requires.lawful (is.whole (nonzero_bits part.delta c.if-part-ne0.true) part.last is.order (omega arith)) (is.same part.last is.order (omega arith)))

pub loop-part-preserved : goal.loop-part-preserved
loop-part-preserved c =
    let shifts = c.args.shifts.now in
    let keys = c.args.keys.now in
    let move = delta_at shifts in
    let part = c.in-Some.part in
    let from = c.loop-part.from in
    let stand = c.loop-part.invariant.3 in
    let is = move_of shifts keys from c.loop-part.ranges.now c.loop-part.runs.now part stand c.in-Some.ensures.part in
    let set = c.ranges-runs.ensures.keys in
    let fits = fits_delta part.delta c.in-Some.ensures.up c.in-Some.ensures.down in
    let rest = movers move (from_on (part.last + 1) keys) in (
      omega (arith, is.small),
      elim c.if-part-ne0.branch [
        | then-part-ne0+in_ok-insert_range+in_ok-insert_range-2 w ↦
            ap (λ left. left ++ rest) (w.left-is ∙ w.in_ok-insert_range.ensures.ok)
            ∙ left_more shifts keys from part set is c.loop-part.left (nonzero_bits part.delta w.if-part-ne0.true) c.loop-part.invariant.1
        | else-part-ne0 w ↦
            ap (λ left. left ++ rest) w.left-is
            ∙ ap (λ xs. c.loop-part.left ++ xs) (sym (staying_step shifts keys from part set is (zero_bits part.delta fits w.if-part-ne0.false)))
            ∙ c.loop-part.invariant.1
      ],
      elim c.if-part-ne0.branch [
        | then-part-ne0+in_ok-insert_range+in_ok-insert_range-2 w ↦
            let moves = nonzero_bits part.delta w.if-part-ne0.true in
            ap (λ came. came ++ landed shifts rest) (w.came-is ∙ w.in_ok-insert_range-2.ensures.ok)
            ∙ came_more shifts keys from part set is c.loop-part.came w.landing-first_place.result w.landing-last_place.result c.requires.lawful moves
            (landing_is part.first part.delta w.landing-first_place.result fits (lands_inside shifts keys part.first part.delta c.requires.lawful is.first (is.same part.first (omega arith) is.order)) w.landing-first_place.ensures.key)
            (landing_is part.last part.delta w.landing-last_place.result fits (lands_inside shifts keys part.last part.delta c.requires.lawful (is.whole moves part.last is.order (omega arith)) (is.same part.last is.order (omega arith))) w.landing-last_place.ensures.key)
            c.loop-part.invariant.2
        | else-part-ne0 w ↦
            ap (λ came. came ++ landed shifts rest) w.came-is
            ∙ ap (λ xs. c.loop-part.came ++ landed shifts xs) (sym (staying_step shifts keys from part set is (zero_bits part.delta fits w.if-part-ne0.false)))
            ∙ c.loop-part.invariant.2
      ],
      stand_further shifts keys from (part.last + 1) c.loop-part.ranges.now c.shifts_from-ranges.result.now c.loop-part.runs.now c.runs_from-runs.result.now stand (omega (arith, is.above, is.order)) c.shifts_from-ranges.ensures.list c.shifts_from-ranges.ensures.same c.runs_from-runs.ensures.ahead c.runs_from-runs.ensures.same,
    )

pub returns-clause-left : goal.returns-clause-left
returns-clause-left c =
    let move = delta_at c.args.shifts.now in
    let none = none_left c.args.shifts.now c.args.keys.now c.loop-part.from c.loop-part.ranges.now c.loop-part.runs.now c.loop-part.invariant.3 c.in_default.ensures.none in
    sym (append-nil c.loop-part.left) ∙ sym (ap (λ xs. c.loop-part.left ++ movers move xs) none) ∙ c.loop-part.invariant.1

pub returns-clause-came : goal.returns-clause-came
returns-clause-came c =
    let shifts = c.args.shifts.now in
    let move = delta_at shifts in
    let none = none_left shifts c.args.keys.now c.loop-part.from c.loop-part.ranges.now c.loop-part.runs.now c.loop-part.invariant.3 c.in_default.ensures.none in
    sym (append-nil c.loop-part.came) ∙ sym (ap (λ xs. c.loop-part.came ++ landed shifts (movers move xs)) none) ∙ c.loop-part.invariant.2
