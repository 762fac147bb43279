use Rattle.std.proofs.Common.{◌≡◌, ◌+◌, ◌-◌, ap, ◌∙◌, sym, subst, length, get_or, take, arith}
use Rattle.std.proofs.lemmas.List.{take_rest}
use Rattle.key_lists.specs.Keys.{without}
use Rattle.row_set.{specs.Ranges.{AreApart, AreRanges, keys_from, keys_of}, specs.Runs.{AreStarts, IsRoom, lying}, proofs.Apart.apart-drop, proofs.Batches.{without_more, without_none, without_rest}, proofs.Counts.{apart_ranges, blank}, proofs.Lying.kept_before, proofs.Places.range_at}
use Rattle.row_set.proofs.changes.take_ranges.Goals as goal

pub loop-range-init : goal.loop-range-init
loop-range-init c =
    let none : length c.args.others.now ≡ length c.args.others.now - 0 = omega arith in
    (c.requires.stored, without_none (keys_of (lying c.args.runs.now)), subst (λ n. IsRoom n c.args.runs.now) none c.requires.room)

pub take_range-requires-clause-order : goal.take_range-requires-clause-order
take_range-requires-clause-order c = (range_at 0 c.args.others.now c.requires.others c.loop-range.range-index blank c.loop-range-test.true).ascends

pub take_range-requires-clause-small : goal.take_range-requires-clause-small
take_range-requires-clause-small c = (range_at 0 c.args.others.now c.requires.others c.loop-range.range-index blank c.loop-range-test.true).small

pub loop-range-preserved : goal.loop-range-preserved
loop-range-preserved c =
    let others = c.args.others.now in
    let i = c.loop-range.range-index in
    let range = get_or others i blank in
    let left : length others - i ≡ length others - (i + 1) + 1 = omega (arith, c.loop-range-test.true) in (
      c.take_range.ensures.stored,
      c.take_range.ensures.keys ∙ ap (without (keys_from range.first range.last)) c.loop-range.invariant.1 ∙ without_more others i (keys_of (lying c.args.runs.now)) c.loop-range-test.true,
      c.take_range.ensures.room (length others - (i + 1)) (subst (λ n. IsRoom n c.loop-range.runs) left c.loop-range.invariant.2),
    )

pub remove_ranges-from-requires-clause-room : goal.remove_ranges-from-requires-clause-room
remove_ranges-from-requires-clause-room c = omega (arith, c.requires.room.ranges, c.args.runs.now.all.ok.0)

pub recount-requires-clause-before : goal.recount-requires-clause-before
recount-requires-clause-before c = λ block few lt.
    let runs = c.args.runs.now in
    let from = c.remove_ranges-from.result in
    let first : runs.front ≡ 0 = c.remove_ranges-from.ensures.first (omega (arith, lt)) in
    kept_before 0 from runs.all.items c.deref.result.now runs.starts.items (subst (λ n. AreStarts n runs.all.items runs.starts.items) first c.requires.stored.counted.counts)
    (ap (take from) c.deref.ensures.value ∙ c.remove_ranges-from.ensures.before) block few (omega (arith, lt))

pub recount-requires-clause-room : goal.recount-requires-clause-room
recount-requires-clause-room c =
    omega (
      arith,
      c.requires.room.starts,
      c.remove_ranges-from.ensures.growth,
      ap length c.deref.ensures.value,
      c.args.runs.now.all.ok.0,
      c.remove_ranges-from.new.ranges.ok.0,
    )

pub recount-requires-clause-ranges : goal.recount-requires-clause-ranges
recount-requires-clause-ranges c = subst AreRanges (sym c.deref.ensures.value) (apart_ranges c.remove_ranges-from.new.ranges.items c.remove_ranges-from.ensures.apart)

pub remove_ranges-from-requires-clause-others_apart : goal.remove_ranges-from-requires-clause-others_apart
remove_ranges-from-requires-clause-others_apart c =
    let others = c.args.others.now in
    let unmet = c.count_unmet-unmet.result in
    subst (λ those. AreApart 0 those) (sym (take_rest others unmet)) (apart-drop 0 unmet others c.requires.others)

pub returns-clause-keys : goal.returns-clause-keys
returns-clause-keys c =
    let others = c.args.others.now in
    let items = lying c.args.runs.now in
    let unmet = c.count_unmet-unmet.result in
    let none : keys_of items ≡ without (keys_of (take unmet others)) (keys_of items) = subst (λ those. keys_of those ≡ without (keys_of (take unmet others)) (keys_of those)) c.as_slice.ensures c.count_unmet-unmet.ensures.unmet in
    without_rest others unmet (keys_of items) (keys_of c.remove_ranges-from.new.ranges.items) none
    (c.remove_ranges-from.ensures.keys ∙ ap (λ those. without (keys_of those) (keys_of items)) (take_rest others unmet))
