use Rattle.std.proofs.Common.{◌≡◌, ◌-◌, ◌+◌, ◌≤◌, ◌∷◌, ◌++◌, List, length, map, take, drop, slice_range, set, get_or, ap, ap₂, sym, ◌∙◌, subst, ℤ, to_z, of_z, to_z-of_z, w64, arith, add-one}
use Rattle.std.{specs.List.AllByRecursion, proofs.lemmas.List.{length-map, set_split}}
use Rattle.row_set.{specs.declared.ranges.Range.Range, specs.Moves.{Shifts, shift}, proofs.Shifted.{IsNext, next_is, length-slice, shifted_at}, proofs.Counts.blank, proofs.Middles.span, proofs.Spliced.{IsSplicing, splicing_replaces}}
use Rattle.tick_model.specs.Shifts.{as_key}
use Rattle.row_set.proofs.shifts.shift_ranges.Goals as goal

pub moved-requires-clause-small : goal.moved-requires-clause-small
moved-requires-clause-small c =
    let old = c.args.ranges.now in
    let from = c.args.from in
    let to = c.args.to in
    let index = c.loop-index.index in
    let delta : ℤ = to_z w64 (of_z w64 c.args.delta) in
    let here : IsNext delta old c.loop-index.ranges index (get_or c.loop-index.ranges index blank) =
    next_is delta from to index old c.loop-index.ranges c.requires.order c.requires.within c.loop-index.auto.index c.loop-index-test.true c.requires.apart
    (subst (λ d. AllByRecursion (Shifts d) (slice_range old from to)) (sym (to_z-of_z c.ranges.delta)) c.requires.lands) c.loop-index.invariant in
    omega (arith, here.is.ascends, here.is.small)

pub moved-requires-clause-lands : goal.moved-requires-clause-lands
moved-requires-clause-lands c =
    let old = c.args.ranges.now in
    let from = c.args.from in
    let to = c.args.to in
    let index = c.loop-index.index in
    let delta : ℤ = to_z w64 (of_z w64 c.args.delta) in
    let here : IsNext delta old c.loop-index.ranges index (get_or c.loop-index.ranges index blank) =
    next_is delta from to index old c.loop-index.ranges c.requires.order c.requires.within c.loop-index.auto.index c.loop-index-test.true c.requires.apart
    (subst (λ d. AllByRecursion (Shifts d) (slice_range old from to)) (sym (to_z-of_z c.ranges.delta)) c.requires.lands) c.loop-index.invariant in
    here.moves.first_key

pub moved-requires-in-loop-index-clause-small : goal.moved-requires-in-loop-index-clause-small
moved-requires-in-loop-index-clause-small c =
    let old = c.args.ranges.now in
    let from = c.args.from in
    let to = c.args.to in
    let index = c.loop-index.index in
    let delta : ℤ = to_z w64 (of_z w64 c.args.delta) in
    let here : IsNext delta old c.loop-index.ranges index (get_or c.loop-index.ranges index blank) =
    next_is delta from to index old c.loop-index.ranges c.requires.order c.requires.within c.loop-index.auto.index c.loop-index-test.true c.requires.apart
    (subst (λ d. AllByRecursion (Shifts d) (slice_range old from to)) (sym (to_z-of_z c.ranges.delta)) c.requires.lands) c.loop-index.invariant in
    here.is.small

pub moved-requires-in-loop-index-clause-lands : goal.moved-requires-in-loop-index-clause-lands
moved-requires-in-loop-index-clause-lands c =
    let old = c.args.ranges.now in
    let from = c.args.from in
    let to = c.args.to in
    let index = c.loop-index.index in
    let delta : ℤ = to_z w64 (of_z w64 c.args.delta) in
    let here : IsNext delta old c.loop-index.ranges index (get_or c.loop-index.ranges index blank) =
    next_is delta from to index old c.loop-index.ranges c.requires.order c.requires.within c.loop-index.auto.index c.loop-index-test.true c.requires.apart
    (subst (λ d. AllByRecursion (Shifts d) (slice_range old from to)) (sym (to_z-of_z c.ranges.delta)) c.requires.lands) c.loop-index.invariant in
    here.moves.last_key

pub loop-index-preserved : goal.loop-index-preserved
loop-index-preserved c =
    let old = c.args.ranges.now in
    let from = c.args.from in
    let to = c.args.to in
    let index = c.loop-index.index in
    let delta : ℤ = to_z w64 (of_z w64 c.args.delta) in
    let here : IsNext delta old c.loop-index.ranges index (get_or c.loop-index.ranges index blank) =
    next_is delta from to index old c.loop-index.ranges c.requires.order c.requires.within c.loop-index.auto.index c.loop-index-test.true c.requires.apart
    (subst (λ d. AllByRecursion (Shifts d) (slice_range old from to)) (sym (to_z-of_z c.ranges.delta)) c.requires.lands) c.loop-index.invariant in
    let new = c.loop-index.ranges in
    let order : from ≤ to = c.requires.order in
    let within : to ≤ length old = c.requires.within in
    let after : from ≤ index = c.loop-index.auto.index in
    let lt = c.loop-index-test.true in
    let others : List Range = map (shift delta) (slice_range old from to) in
    let many : length others ≡ to - from = length-map (slice_range old from to) (shift delta) ∙ length-slice from to old order within in
    let one : span c.moved.result c.moved-in-loop-index.result ≡ get_or others (index - from) blank =
    ap₂ span (ap as_key c.moved.ensures) (ap as_key c.moved-in-loop-index.ensures)
    ∙ ap (shift delta) here.same
    ∙ sym (shifted_at delta from to index old after lt within) in
    let next : index - from + 1 ≡ index + 1 - from = omega (arith, after) in
    let parts : set new index (span c.moved.result c.moved-in-loop-index.result) ≡ take index new ++ (get_or others (index - from) blank ∷ drop (index + 1) new) =
    rw add-one (set_split new index (span c.moved.result c.moved-in-loop-index.result) here.within)
    ∙ ap (λ range. take index new ++ (range ∷ drop (index + 1) new)) one in
    subst (λ i. IsSplicing old from to others i (index + 1) (set new index (span c.moved.result c.moved-in-loop-index.result))) next
    (splicing_replaces old from to others (index - from) index new (set new index (span c.moved.result c.moved-in-loop-index.result)) blank c.loop-index.invariant (omega (arith, order, within)) within (omega (arith, many, lt)) lt parts)
