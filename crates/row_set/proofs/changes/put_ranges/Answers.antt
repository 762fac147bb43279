use Rattle.std.proofs.Common.{◌≡◌, ◌+◌, ◌-◌, ap, ◌∙◌, sym, subst, length, get_or, take, arith}
use Rattle.row_set.{specs.Sets.united, specs.Ranges.{AreRanges, keys_from, keys_of}, specs.Runs.{AreStarts, IsRoom, lying}, proofs.Apart.keys_rise, proofs.Batches.united_more, proofs.Counts.{apart_ranges, blank}, proofs.Lying.kept_before, proofs.Places.range_at}
use Rattle.row_set.proofs.changes.put_ranges.Goals as goal

pub put_range-requires-clause-order : goal.put_range-requires-clause-order
put_range-requires-clause-order c = (range_at 0 c.args.others.now c.requires.others c.loop-range.range-index blank c.loop-range-test.true).ascends

pub put_range-requires-clause-small : goal.put_range-requires-clause-small
put_range-requires-clause-small c = (range_at 0 c.args.others.now c.requires.others c.loop-range.range-index blank c.loop-range-test.true).small

pub loop-range-preserved : goal.loop-range-preserved
loop-range-preserved c =
    let others = c.args.others.now in
    let i = c.loop-range.range-index in
    let range = get_or others i blank in
    let left : length others - i ≡ length others - (i + 1) + 1 = omega (arith, c.loop-range-test.true) in (
      c.put_range.ensures.stored,
      c.put_range.ensures.keys ∙ ap (united (keys_from range.first range.last)) c.loop-range.invariant.1 ∙ united_more others i (keys_of (lying c.args.runs.now)) (keys_rise 0 (lying c.args.runs.now) c.requires.stored.apart) c.loop-range-test.true,
      c.put_range.ensures.room (length others - (i + 1)) (subst (λ n. IsRoom n c.loop-range.runs) left c.loop-range.invariant.2),
    )

pub insert_ranges-from-requires-clause-room : goal.insert_ranges-from-requires-clause-room
insert_ranges-from-requires-clause-room c = omega (arith, c.requires.room.ranges, c.args.runs.now.all.ok.0)

pub recount-requires-clause-before : goal.recount-requires-clause-before
recount-requires-clause-before c = λ block few lt.
    let runs = c.args.runs.now in
    let from = c.insert_ranges-from.result in
    let first : runs.front ≡ 0 = c.insert_ranges-from.ensures.first (omega (arith, lt)) in
    kept_before 0 from runs.all.items c.deref.result.now runs.starts.items (subst (λ n. AreStarts n runs.all.items runs.starts.items) first c.requires.stored.counted.counts)
    (ap (take from) c.deref.ensures.value ∙ c.insert_ranges-from.ensures.before) block few (omega (arith, lt))

pub recount-requires-clause-room : goal.recount-requires-clause-room
recount-requires-clause-room c =
    omega (
      arith,
      c.requires.room.starts,
      c.insert_ranges-from.ensures.growth,
      ap length c.deref.ensures.value,
      c.args.runs.now.all.ok.0,
      c.insert_ranges-from.new.ranges.ok.0,
    )

pub recount-requires-clause-ranges : goal.recount-requires-clause-ranges
recount-requires-clause-ranges c = subst AreRanges (sym c.deref.ensures.value) (apart_ranges c.insert_ranges-from.new.ranges.items c.insert_ranges-from.ensures.apart)
