use Rattle.std.proofs.Common.{◌≡◌, refl, ℕ, ◌-◌, ◌^◌, ◌<◌, ◌≤◌, List, ◌++◌, ap, sym, ◌∙◌, subst, drop, get_or, take, arith}
use Rattle.std.proofs.lemmas.List.{get_or_default}
use Rattle.key_lists.specs.Keys.{without}
use Rattle.row_set.{specs.declared.ranges.Range.Range, specs.Gaps.listed, specs.Ranges.{AreApart, Meets, keys_from, keys_of, left_edge, right_edge}, specs.Runs.lying, proofs.Counts.{apart_ranges, blank}, proofs.Edges.{none_removed, removed}}
use Rattle.row_set.proofs.changes.take_range.Goals as goal

-- the ranges with what is left at either end
abbrev left_of : ℕ → ℕ → List Range → List Range → List Range → List Range
left_of from to left right ranges = take from ranges ++ ((left ++ right) ++ drop to ranges)

taken : (first last from to : ℕ) (ranges now left right : List Range) → AreApart 0 ranges → first ≤ last → last < 2 ^ 62 → now ≡ ranges → Meets first last now from to → (from ≡ to → ⊥) → left ≡ left_edge first (get_or now from blank) → right ≡ right_edge last (get_or now (to - 1) blank) → AreApart 0 (left_of from to left right ranges) × (keys_of (left_of from to left right ranges) ≡ without (keys_from first last) (keys_of ranges))
taken first last from to ranges now left right h le small is met some left_is right_is =
    let found : Meets first last ranges from to = subst (λ those. Meets first last those from to) is met in
    let head = get_or ranges from blank in
    let tail = get_or ranges (to - 1) blank in
    removed first last from to ranges (left_of from to left right ranges) head tail left right h le small found some
    (get_or_default ranges from blank head (omega (arith, found.order, found.within, some)))
    (get_or_default ranges (to - 1) blank tail (omega (arith, found.order, found.within, some)))
    (sym (left_is ∙ ap (λ those. left_edge first (get_or those from blank)) is))
    (sym (right_is ∙ ap (λ those. right_edge last (get_or those (to - 1) blank)) is))
    refl

pub returns-then-from-to-clause-keys : goal.returns-then-from-to-clause-keys
returns-then-from-to-clause-keys c =
    let ranges = lying c.args.runs.now in
    let from = c.meeting-from.result.0 in
    let to = c.meeting-from.result.1 in
    none_removed c.args.first c.args.last from to ranges c.requires.stored.apart (subst (λ those. Meets c.args.first c.args.last those from to) c.as_slice-ranges.ensures c.meeting-from.ensures) c.if-from-to.true

pub leave-requires-clause-old : goal.leave-requires-clause-old
leave-requires-clause-old c = apart_ranges (lying c.args.runs.now) c.requires.stored.apart

pub leave-requires-clause-new : goal.leave-requires-clause-new
leave-requires-clause-new c =
    let from = c.meeting-from.result.0 in
    let to = c.meeting-from.result.1 in
    let left = listed c.left_edge-left.result in
    let right = listed c.right_edge-right.result in
    apart_ranges (left_of from to left right (lying c.args.runs.now))
    (taken c.args.first c.args.last from to (lying c.args.runs.now) c.as_slice-ranges.result.now left right c.requires.stored.apart c.requires.order c.requires.small c.as_slice-ranges.ensures c.meeting-from.ensures c.if-from-to.false c.left_edge-left.ensures c.right_edge-right.ensures).0

pub returns : goal.returns
returns c =
    let is = taken c.args.first c.args.last c.meeting-from.result.0 c.meeting-from.result.1 (lying c.args.runs.now) c.as_slice-ranges.result.now (listed c.left_edge-left.result) (listed c.right_edge-right.result) c.requires.stored.apart c.requires.order c.requires.small c.as_slice-ranges.ensures c.meeting-from.ensures c.if-from-to.false c.left_edge-left.ensures c.right_edge-right.ensures in
    record {
      stored = record { apart = subst (λ those. AreApart 0 those) (sym c.leave.ensures.ranges) is.0; counted = c.leave.ensures.counted };
      keys = ap keys_of c.leave.ensures.ranges ∙ is.1;
      room = c.leave.ensures.room;
    }
