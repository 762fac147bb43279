use Rattle.std.proofs.Common.{◌≡◌, ◌+◌, ◌-◌, ◌<◌, ◌≤◌, ◌++◌, ap, ap₂, sym, ◌∙◌, subst, length, length-take-le, get_or, take, drop, slice_range, take-take, append_assoc, arith}
use Rattle.std.{specs.List.AllByRecursion, proofs.lemmas.List.{take_rest, take-append-le}}
use Rattle.key_lists.{specs.Keys.without, proofs.Every.every-append}
use Rattle.row_set.{specs.Gaps.{around, listed}, specs.Ranges.{AreApart, Meets, keys_from, keys_of, left_edge, right_edge}, proofs.Opened.listed_few, proofs.Apart.apart_back, proofs.Edges.none_removed, proofs.Swept.{AreAround, back_same, ends_below, front_same, left_ends_before, meets_after, put_out, rest_of}}
use Rattle.row_set.proofs.sweeps.remove_next.Goals as goal

pub meeting-from-requires-clause-apart : goal.meeting-from-requires-clause-apart
meeting-from-requires-clause-apart c =
    let old = c.args.ranges.now.items in
    subst (λ those. AreApart 0 those) (sym (ap (λ those. slice_range those c.args.gap.end (length those)) c.deref.ensures.value ∙ take_rest old c.args.gap.end)) (apart_back 0 (take c.args.gap.start old) (drop c.args.gap.end old) c.requires.apart)

pub returns-then-from-to-clause-keys : goal.returns-then-from-to-clause-keys
returns-then-from-to-clause-keys c =
    let old = c.args.ranges.now.items in
    let first = c.args.first in
    let last = c.args.last in
    let start = c.args.gap.start in
    let end = c.args.gap.end in
    let from = c.meeting-from.result.0 in
    let to = c.meeting-from.result.1 in
    let all = around c.args.gap old in
    let met : Meets first last (drop end old) from to = subst (λ those. Meets first last those from to) (ap (λ those. slice_range those end (length those)) c.deref.ensures.value ∙ take_rest old end) c.meeting-from.ensures in
    let is : Meets first last all (start + from) (start + to) = meets_after first last from to start end old c.requires.gap.order c.requires.gap.within (ends_below first (take start old) c.requires.passed) met in
    ap keys_of c.pass-gap.ensures.same ∙ none_removed first last (start + from) (start + to) all c.requires.apart is (ap (λ n. start + n) c.if-from-to.true)

pub returns-then-from-to-clause-passed : goal.returns-then-from-to-clause-passed
returns-then-from-to-clause-passed c =
    let old = c.args.ranges.now.items in
    let first = c.args.first in
    let last = c.args.last in
    let start = c.args.gap.start in
    let end = c.args.gap.end in
    let from = c.meeting-from.result.0 in
    let to = c.meeting-from.result.1 in
    let all = around c.args.gap old in
    let met : Meets first last (drop end old) from to = subst (λ those. Meets first last those from to) (ap (λ those. slice_range those end (length those)) c.deref.ensures.value ∙ take_rest old end) c.meeting-from.ensures in
    let is : Meets first last all (start + from) (start + to) = meets_after first last from to start end old c.requires.gap.order c.requires.gap.within (ends_below first (take start old) c.requires.passed) met in
    let after : AreAround c.pass-gap.result.start c.pass-gap.result.end c.pass-gap.new.ranges.items all = record { within = omega (arith, c.pass-gap.ensures.gap.order, c.pass-gap.ensures.gap.within); same = c.pass-gap.ensures.same } in
    let front : take c.pass-gap.result.start c.pass-gap.new.ranges.items ≡ take (start + from) all = front_same c.pass-gap.result.start c.pass-gap.result.end c.pass-gap.new.ranges.items all after ∙ ap (λ n. take n all) c.pass-gap.ensures.start in
    subst (λ those. AllByRecursion (λ range. range.last < first) those) (sym front) is.before

pub returns : goal.returns
returns c =
    let old = c.args.ranges.now.items in
    let first = c.args.first in
    let last = c.args.last in
    let start = c.args.gap.start in
    let end = c.args.gap.end in
    let from = c.meeting-from.result.0 in
    let to = c.meeting-from.result.1 in
    let all = around c.args.gap old in
    let moved = c.pass-gap.new.ranges.items in
    let place = c.pass-gap.result.start in
    let next = c.pass-gap.result.end in
    let wide = c.with_places-gap.new.ranges.items in
    let placed = c.put_after-gap.new.ranges.items in
    let new = c.put_before.new.ranges.items in
    let left = listed c.left_edge-left.result in
    let right = listed c.right_edge-right.result in
    let count : start + to - (start + from) ≡ to - from = omega arith in
    let met : Meets first last (drop end old) from to = subst (λ those. Meets first last those from to) (ap (λ those. slice_range those end (length those)) c.deref.ensures.value ∙ take_rest old end) c.meeting-from.ensures in
    let is : Meets first last all (start + from) (start + to) = meets_after first last from to start end old c.requires.gap.order c.requires.gap.within (ends_below first (take start old) c.requires.passed) met in
    let after : AreAround place next moved all = record { within = omega (arith, c.pass-gap.ensures.gap.order, c.pass-gap.ensures.gap.within); same = c.pass-gap.ensures.same } in
    let spread : AreAround c.with_places-gap.result.start c.with_places-gap.result.end wide all = record { within = omega (arith, c.with_places-gap.ensures.gap.order, c.with_places-gap.ensures.gap.within); same = c.with_places-gap.ensures.same ∙ c.pass-gap.ensures.same } in
    let at : c.put_after-gap.result.start ≡ place = c.put_after-gap.ensures.start ∙ c.with_places-gap.ensures.start in
    let back : drop (c.with_places-gap.result.end + (to - from)) wide ≡ drop (next + (start + to - (start + from))) moved =
    back_same c.with_places-gap.result.start c.with_places-gap.result.end (to - from) wide all spread
    ∙ ap₂ (λ n count. drop (n + count) all) c.with_places-gap.ensures.start (sym count)
    ∙ sym (back_same place next (start + to - (start + from)) moved all after) in
    let fore : take c.put_after-gap.result.start placed ≡ take place moved =
    ap (λ n. take n placed) c.put_after-gap.ensures.start
    ∙ c.put_after-gap.ensures.before
    ∙ ap (λ n. take n wide) c.with_places-gap.ensures.start
    ∙ c.with_places-gap.ensures.before in
    let rest : drop c.put_after-gap.result.end placed ≡ right ++ drop (next + (start + to - (start + from))) moved =
    rest_of c.put_after-gap.result.start c.put_after-gap.result.end placed (take place moved) (right ++ drop (next + (start + to - (start + from))) moved) (omega (arith, c.put_after-gap.ensures.gap.order, c.put_after-gap.ensures.gap.within)) fore
    (c.put_after-gap.ensures.replaced
    ∙ ap₂ (λ xs ys. xs ++ (right ++ ys)) (ap (λ n. take n wide) c.with_places-gap.ensures.start ∙ c.with_places-gap.ensures.before) back) in
    let put : around c.put_before.result new ≡ (take place moved ++ left) ++ (right ++ drop (next + (start + to - (start + from))) moved) =
    c.put_before.ensures.added
    ∙ ap₂ (λ xs ys. xs ++ (left ++ ys)) fore rest
    ∙ sym (append_assoc (take place moved) left (right ++ drop (next + (start + to - (start + from))) moved)) in
    let head = c.index.result.now in
    let tail = c.index-2.result.now in
    let some : from < to = omega (arith, c.if-from-to.false, c.meeting-from.ensures.order) in
    let left_is : left ≡ left_edge first head = c.left_edge-left.ensures in
    let right_is : right ≡ right_edge last tail = c.right_edge-right.ensures in
    let whole : AreApart 0 (around c.put_before.result new) × (keys_of (around c.put_before.result new) ≡ without (keys_from first last) (keys_of all)) =
    put_out first last (start + from) (start + to) place next moved all (around c.put_before.result new) head tail left right c.requires.apart c.requires.order c.requires.small is (λ e. omega (arith, e, some)) after c.pass-gap.ensures.start
    c.index.ensures
    (c.index-2.ensures ∙ ap (λ n. get_or moved (next + n - 1) tail) (sym count))
    left_is right_is put in
    let front : take c.put_before.result.start new ≡ take (start + from) all ++ left =
    c.put_before.ensures.before ∙ ap (λ xs. xs ++ left) (fore ∙ front_same place next moved all after ∙ ap (λ n. take n all) c.pass-gap.ensures.start) in
    let le : start ≤ place = omega (arith, c.pass-gap.ensures.start) in
    let most : start ≤ c.put_before.result.start = omega (arith, le, at, c.put_before.ensures.start) in
    record {
      gap = c.put_before.ensures.gap;
      apart = whole.0;
      keys = whole.1;
      passed = subst (λ those. AllByRecursion (λ range. range.last < first) those) (sym front) (every-append (λ range. range.last < first) (take (start + from) all) left is.before (subst (λ those. AllByRecursion (λ range. range.last < first) those) (sym left_is) (left_ends_before first head)));
      before =
          sym (take-take start c.put_before.result.start new most)
          ∙ ap (take start) (c.put_before.ensures.before ∙ ap (λ xs. xs ++ left) fore)
          ∙ take-append-le start (take place moved) left (omega (arith, le, length-take-le place moved after.within))
          ∙ take-take start place moved le
          ∙ c.pass-gap.ensures.before;
      start = most;
      growth = omega (arith, some, c.put_before.ensures.start, c.put_before.ensures.end, c.put_before.ensures.len, c.put_after-gap.ensures.start, c.put_after-gap.ensures.end, c.put_after-gap.ensures.len, c.with_places-gap.ensures.start, c.with_places-gap.ensures.len, c.pass-gap.ensures.start, c.pass-gap.ensures.end, c.pass-gap.ensures.len, listed_few c.left_edge-left.result, listed_few c.right_edge-right.result);
      capacity = omega (arith, c.put_before.ensures.capacity, c.put_after-gap.ensures.capacity, c.with_places-gap.ensures.capacity, c.pass-gap.ensures.capacity);
    }
