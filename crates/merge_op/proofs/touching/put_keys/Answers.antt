use Rattle.std.proofs.Common.{◌≡◌, ap, sym, ◌∙◌, subst, ℕ, ◌+◌, ◌<◌, ◌≤◌, ◌^◌, arith, List, [], ◌∷◌, ◌++◌, drop, get_or, length}
use Rattle.std.{specs.List.AllByRecursion, proofs.lemmas.List.{append-nil, drop_more}, proofs.Math.ListN.drop_of_length-le}
use Rattle.row_set.{specs.declared.ranges.Range.Range, specs.Ranges.{AreApart, keys_of}, proofs.Places.range_at}
use Rattle.merge_op.proofs.Keyed.{IsPut, last_small, plus, put_next, rest_small, whole_rises}
use Rattle.merge_op.proofs.touching.put_keys.Goals as goal

-- the range at hand ends where it begins or later, and below the end of keys where it goes
range_small : (offset : ℕ) (ranges : List Range) (index : ℕ) (d : Range) → AreApart 0 ranges → index < length ranges → AllByRecursion (λ key. key + offset < 2 ^ 62) (keys_of (drop index ranges))
    → ((get_or ranges index d).first ≤ (get_or ranges index d).last) × ((get_or ranges index d).last + offset < 2 ^ 62)
range_small offset ranges index d apart less small =
    let order = (range_at 0 ranges apart index d less).ascends in (
      order,
      last_small (λ key. key + offset < 2 ^ 62) (get_or ranges index d) (drop (index + 1) ranges) order
          (subst (λ (rest : List Range). AllByRecursion (λ key. key + offset < 2 ^ 62) (keys_of rest)) (drop_more ranges index d less) small),
    )

pub loop-range-init : goal.loop-range-init
loop-range-init c = record {
  whole_is = ap (λ ks. c.args.all.now ++ plus c.args.offset ks) c.ranges-range-items.ensures.held;
  small = subst (AllByRecursion (λ key. key + c.args.offset < 2 ^ 62)) (sym c.ranges-range-items.ensures.held) c.requires.small;
}

pub loop-range-preserved : goal.loop-range-preserved
loop-range-preserved c =
    let ranges = c.ranges-range-items.result.now in
    let d : Range = record { first = 0; last = 0 } in
    let range = get_or ranges c.loop-range.range-index d in
    let seam : drop c.loop-range.range-index ranges ≡ range ∷ drop (c.loop-range.range-index + 1) ranges = drop_more ranges c.loop-range.range-index d c.loop-range-test.true in
    let h : IsPut c.args.offset (range ∷ drop (c.loop-range.range-index + 1) ranges) (c.args.all.now ++ plus c.args.offset c.args.more.now) c.loop-range.all =
    subst (λ (rest : List Range). IsPut c.args.offset rest (c.args.all.now ++ plus c.args.offset c.args.more.now) c.loop-range.all) seam c.loop-range.invariant in
    record {
      whole_is =
          put_next c.args.offset (c.args.all.now ++ plus c.args.offset c.args.more.now) c.loop-range.all c.insert_range.new.self range (drop (c.loop-range.range-index + 1) ranges)
          (whole_rises c.args.offset c.args.all.now c.args.more.now c.len-count.ensures.keys.rising c.requires.above c.ranges-range-items.ensures.keys.rising) h.whole_is c.in_ok-insert_range.ensures.ok;
      small = rest_small (λ key. key + c.args.offset < 2 ^ 62) range (drop (c.loop-range.range-index + 1) ranges) h.small;
    }

pub overflow_add-range : goal.overflow_add-range
overflow_add-range c =
    let here = range_small c.args.offset c.ranges-range-items.result.now c.loop-range.range-index record { first = 0; last = 0 } c.ranges-range-items.ensures.apart c.loop-range-test.true c.loop-range.invariant.small in
    omega (arith, here.0, here.1)

pub overflow_add-range-in-loop-range : goal.overflow_add-range-in-loop-range
overflow_add-range-in-loop-range c = omega (arith, (range_small c.args.offset c.ranges-range-items.result.now c.loop-range.range-index record { first = 0; last = 0 } c.ranges-range-items.ensures.apart c.loop-range-test.true c.loop-range.invariant.small).1)

pub insert_range-requires-clause-order : goal.insert_range-requires-clause-order
insert_range-requires-clause-order c = omega (arith, (range_small c.args.offset c.ranges-range-items.result.now c.loop-range.range-index record { first = 0; last = 0 } c.ranges-range-items.ensures.apart c.loop-range-test.true c.loop-range.invariant.small).0)

pub insert_range-requires-clause-small : goal.insert_range-requires-clause-small
insert_range-requires-clause-small c = (range_small c.args.offset c.ranges-range-items.result.now c.loop-range.range-index record { first = 0; last = 0 } c.ranges-range-items.ensures.apart c.loop-range-test.true c.loop-range.invariant.small).1

pub returns : goal.returns
returns c =
    let none : drop c.loop-range.range-index c.ranges-range-items.result.now ≡ [] = drop_of_length-le c.ranges-range-items.result.now c.loop-range-test.false in
    let last : IsPut c.args.offset [] (c.args.all.now ++ plus c.args.offset c.args.more.now) c.loop-range.all =
    subst (λ (rest : List Range). IsPut c.args.offset rest (c.args.all.now ++ plus c.args.offset c.args.more.now) c.loop-range.all) none c.loop-range.invariant in
    sym (append-nil c.loop-range.all) ∙ last.whole_is
