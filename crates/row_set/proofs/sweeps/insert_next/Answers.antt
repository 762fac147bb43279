use Rattle.std.proofs.Common.{◌≡◌, refl, ◌+◌, ◌-◌, ◌≤◌, ◌∷◌, ◌++◌, ap, sym, ◌∙◌, subst, length, take, drop, slice_range, arith}
use Rattle.std.{specs.List.AllByRecursion, proofs.lemmas.List.take_rest}
use Rattle.row_set.{specs.Gaps.around, specs.Ranges.{AreApart, Meets, keys_from, keys_of, stretched}, specs.Sets.united, proofs.Apart.apart_back, proofs.Swept.{AreAround, ended_before, ends_before, front_same, meets_after, part_same, put_in, same_front}}
use Rattle.row_set.proofs.sweeps.insert_next.Goals as goal

pub meeting-from-requires-clause-apart : goal.meeting-from-requires-clause-apart
meeting-from-requires-clause-apart c =
    let old = c.args.ranges.now.items in
    subst (λ those. AreApart 0 those) (sym (ap (λ those. slice_range those c.args.gap.end (length those)) c.deref.ensures.value ∙ take_rest old c.args.gap.end)) (apart_back 0 (take c.args.gap.start old) (drop c.args.gap.end old) c.requires.apart)

pub returns : goal.returns
returns c =
    let old = c.args.ranges.now.items in
    let first = c.args.first in
    let last = c.args.last in
    let start = c.args.gap.start in
    let end = c.args.gap.end in
    let from = c.meeting-from.result.0 in
    let to = c.meeting-from.result.1 in
    let all = around c.args.gap old in
    let moved = c.with_places-gap.new.ranges.items in
    let place = c.with_places-gap.result.start in
    let next = c.with_places-gap.result.end in
    let new = c.put_after.new.ranges.items in
    let range = c.joined-range.result in
    let met : Meets (first - 1) (last + 1) (drop end old) from to =
    subst (λ low. Meets low (last + 1) (drop end old) from to) c.saturating_sub.ensures
    (subst (λ those. Meets c.saturating_sub.result (last + 1) those from to) (ap (λ those. slice_range those end (length those)) c.deref.ensures.value ∙ take_rest old end) c.meeting-from.ensures) in
    let is : Meets (first - 1) (last + 1) all (start + from) (start + to) =
    meets_after (first - 1) (last + 1) from to start end old c.requires.gap.order c.requires.gap.within (ends_before first (take start old) c.requires.passed) met in
    let given : AreAround start end old all = record { within = omega (arith, c.requires.gap.order, c.requires.gap.within); same = refl } in
    let after : AreAround place next moved all = record { within = omega (arith, c.with_places-gap.ensures.gap.order, c.with_places-gap.ensures.gap.within); same = c.with_places-gap.ensures.same ∙ c.pass-gap.ensures.same } in
    let at : place ≡ start + from = c.with_places-gap.ensures.start ∙ c.pass-gap.ensures.start in
    let one : range ≡ stretched first last (slice_range all (start + from) (start + to)) = c.joined-range.ensures ∙ ap (λ those. stretched first last (slice_range those (end + from) (end + to))) c.deref-2.ensures.value ∙ ap (stretched first last) (part_same start end from to old all given) in
    let count : start + to - (start + from) ≡ to - from = omega arith in
    let put : around c.put_after.result new ≡ take place moved ++ (range ∷ drop (next + (start + to - (start + from))) moved) =
    c.put_after.ensures.replaced ∙ ap (λ n. take place moved ++ (range ∷ drop (next + n) moved)) (sym count) in
    let whole : AreApart 0 (around c.put_after.result new) × (keys_of (around c.put_after.result new) ≡ united (keys_from first last) (keys_of all)) =
    put_in first last (start + from) (start + to) place next moved all (around c.put_after.result new) range c.requires.apart c.requires.order c.requires.small is after at one put in
    let front : take c.put_after.result.start new ≡ take (start + from) all =
    ap (λ n. take n new) c.put_after.ensures.start
    ∙ c.put_after.ensures.before
    ∙ front_same place next moved all after
    ∙ ap (λ n. take n all) at in
    let le : start ≤ place = omega (arith, at) in
    record {
      gap = c.put_after.ensures.gap;
      apart = whole.0;
      keys = whole.1;
      passed = subst (λ those. AllByRecursion (λ range. range.last + 2 ≤ first) those) (sym front) (ended_before first (take (start + from) all) is.before);
      before = same_front start place new moved old le c.put_after.ensures.before (same_front start c.pass-gap.result.start moved c.pass-gap.new.ranges.items old (omega (arith, c.pass-gap.ensures.start)) c.with_places-gap.ensures.before c.pass-gap.ensures.before);
      start = omega (arith, le, c.put_after.ensures.start);
      growth = omega (arith, is.order, c.put_after.ensures.start, c.put_after.ensures.end, c.put_after.ensures.len, c.with_places-gap.ensures.start, c.with_places-gap.ensures.len, c.pass-gap.ensures.start, c.pass-gap.ensures.end, c.pass-gap.ensures.len);
      capacity = omega (arith, c.put_after.ensures.capacity, c.with_places-gap.ensures.capacity, c.pass-gap.ensures.capacity);
    }
