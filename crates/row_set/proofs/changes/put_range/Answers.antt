use Rattle.std.proofs.Common.{◌≡◌, ℕ, ◌+◌, ◌-◌, ◌^◌, ◌<◌, ◌≤◌, List, [], ◌∷◌, ◌++◌, ap, sym, ◌∙◌, subst, drop, slice_range, take, arith}
use Rattle.std.specs.List.{AllByRecursion}
use Rattle.row_set.{specs.declared.ranges.Range.Range, specs.declared.runs.Runs.Runs, specs.Ranges.{AreApart, Meets, keys_from, keys_of, stretched}, specs.Runs.lying, specs.Sets.united, proofs.Behind.pushed, proofs.Counts.apart_ranges, proofs.Lying.room_weaker, proofs.Middles.span, proofs.Swept.stretched_whole}
use Rattle.row_set.proofs.changes.put_range.Goals as goal

pub returns-then-stretch-clause-room : goal.returns-then-stretch-clause-room
returns-then-stretch-clause-room c = λ more h. c.stretch.ensures.room more (room_weaker more (more + 1) c.args.runs.now (omega arith) h)

-- behind all others
pub push-requires-clause-ranges : goal.push-requires-clause-ranges
push-requires-clause-ranges c =
    let ranges = lying c.stretch.new.self in
    let first = c.args.first in
    let behind : AllByRecursion (λ range. range.last < first - 1) ranges =
    subst (λ n. AllByRecursion (λ range. range.last < n) ranges) c.saturating_sub.ensures (subst (λ those. AllByRecursion (λ range. range.last < c.saturating_sub.result) those) c.as_slice-ranges.ensures c.if-all_end_before.ensures) in
    apart_ranges (ranges ++ span first c.args.last ∷ []) (pushed first c.args.last ranges c.stretch.ensures.stored.apart behind c.requires.order c.requires.small).0

pub push-requires-clause-room : goal.push-requires-clause-room
push-requires-clause-room c = c.stretch.ensures.room 1 c.requires.room

pub returns-then-all_end_before : goal.returns-then-all_end_before
returns-then-all_end_before c =
    let ranges = lying c.stretch.new.self in
    let first = c.args.first in
    let behind : AllByRecursion (λ range. range.last < first - 1) ranges =
    subst (λ n. AllByRecursion (λ range. range.last < n) ranges) c.saturating_sub.ensures (subst (λ those. AllByRecursion (λ range. range.last < c.saturating_sub.result) those) c.as_slice-ranges.ensures c.if-all_end_before.ensures) in
    let is = pushed first c.args.last ranges c.stretch.ensures.stored.apart behind c.requires.order c.requires.small in
    record {
      stored = record { apart = subst (λ those. AreApart 0 those) (sym c.push.ensures.ranges) is.0; counted = c.push.ensures.counted };
      keys = ap keys_of c.push.ensures.ranges ∙ is.1 ∙ ap (λ those. united (keys_from first c.args.last) (keys_of those)) c.if-stretch.ensures.same;
      room = λ more h. c.push.ensures.room more (c.stretch.ensures.room (more + 1) h);
    }

-- in the place of those that are met
whole : (first last from to low : ℕ) (runs : Runs) (now : List Range) (joined : Range) → AreApart 0 (lying runs) → first ≤ last → last < 2 ^ 62 → now ≡ lying runs → low ≡ first - 1 → Meets low (last + 1) now from to → joined ≡ stretched first last (slice_range now from to) → AreApart 0 (take from (lying runs) ++ (joined ∷ drop to (lying runs))) × (keys_of (take from (lying runs) ++ (joined ∷ drop to (lying runs))) ≡ united (keys_from first last) (keys_of (lying runs)))
whole first last from to low runs now joined h le small is low_is met one =
    let ranges = lying runs in
    stretched_whole first last from to ranges (take from ranges ++ (joined ∷ drop to ranges)) h le small
    (subst (λ n. Meets n (last + 1) ranges from to) low_is (subst (λ those. Meets low (last + 1) those from to) is met))
    (ap (λ range. take from ranges ++ (range ∷ drop to ranges)) (one ∙ ap (λ those. stretched first last (slice_range those from to)) is))

pub replace-requires-clause-old : goal.replace-requires-clause-old
replace-requires-clause-old c = apart_ranges (lying c.stretch.new.self) c.stretch.ensures.stored.apart

pub replace-requires-clause-new : goal.replace-requires-clause-new
replace-requires-clause-new c =
    let ranges = lying c.stretch.new.self in
    let from = c.meeting-from.result.0 in
    let to = c.meeting-from.result.1 in
    apart_ranges (take from ranges ++ (c.joined-range.result ∷ drop to ranges))
    (whole c.args.first c.args.last from to c.saturating_sub-2.result c.stretch.new.self c.as_slice-ranges.result.now c.joined-range.result c.stretch.ensures.stored.apart c.requires.order c.requires.small c.as_slice-ranges.ensures c.saturating_sub-2.ensures c.meeting-from.ensures c.joined-range.ensures).0

pub replace-requires-clause-room : goal.replace-requires-clause-room
replace-requires-clause-room c = room_weaker (1 - (c.meeting-from.result.1 - c.meeting-from.result.0)) 1 c.stretch.new.self (omega arith) (c.stretch.ensures.room 1 c.requires.room)

pub returns : goal.returns
returns c =
    let from = c.meeting-from.result.0 in
    let to = c.meeting-from.result.1 in
    let is = whole c.args.first c.args.last from to c.saturating_sub-2.result c.stretch.new.self c.as_slice-ranges.result.now c.joined-range.result c.stretch.ensures.stored.apart c.requires.order c.requires.small c.as_slice-ranges.ensures c.saturating_sub-2.ensures c.meeting-from.ensures c.joined-range.ensures in
    record {
      stored = record { apart = subst (λ those. AreApart 0 those) (sym c.replace.ensures.ranges) is.0; counted = c.replace.ensures.counted };
      keys = ap keys_of c.replace.ensures.ranges ∙ is.1 ∙ ap (λ those. united (keys_from c.args.first c.args.last) (keys_of those)) c.if-stretch.ensures.same;
      room = λ more h. c.replace.ensures.room more (room_weaker (more + (1 - (to - from))) (more + 1) c.stretch.new.self (omega arith) (c.stretch.ensures.room (more + 1) h));
    }
