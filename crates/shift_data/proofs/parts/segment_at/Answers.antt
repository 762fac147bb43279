use Rattle.std.proofs.Common.{w64, ap}
use Rattle.std.{specs.Prelude.option_copied, proofs.lemmas.Int.to_z-of_z}
use Rattle.shift_data.{proofs.Searches.{missed, got}, proofs.Segments.{fits_delta, segment_held, segment_free, segment_past, held_small}}
use Rattle.shift_data.proofs.parts.segment_at.Goals as goal

pub returns-in-Some-clause-segment : goal.returns-in-Some-clause-segment
returns-in-Some-clause-segment c =
    let there = got c.args.shifts.now c.ended_before.result c.get.result c.in-Some.range.now c.get.ensures.lookup (ap option_copied c.in-Some.is) in
    let small = held_small c.args.shifts.now c.args.key c.ended_before.result c.requires.shifts c.ended_before.ensures.ended c.in-Some.range.now there.0 there.1 in
    rw (to_z-of_z w64 c.in-Some.range.now.delta (fits_delta c.in-Some.range.now.delta small.up small.down))
    (segment_held c.args.shifts.now c.args.key c.ended_before.result c.requires.shifts c.ended_before.ensures.ended c.in-Some.range.now there.0 there.1 c.ended_before.ensures.others c.if-range-key.true)

pub returns-in-Some-2-clause-segment : goal.returns-in-Some-2-clause-segment
returns-in-Some-2-clause-segment c =
    let there = got c.args.shifts.now c.ended_before.result c.get.result c.in-Some.range.now c.get.ensures.lookup (ap option_copied c.in-Some.is) in
    segment_free c.args.shifts.now c.args.key c.ended_before.result c.requires.shifts c.ended_before.ensures.ended c.in-Some.range.now there.0 there.1 c.if-range-key.false

pub returns-in-None-clause-segment : goal.returns-in-None-clause-segment
returns-in-None-clause-segment c =
    segment_past c.args.shifts.now c.args.key c.ended_before.result c.requires.shifts c.ended_before.ensures.ended c.requires.key
    (missed c.args.shifts.now c.ended_before.result c.get.result c.get.ensures.lookup (ap option_copied c.in-None.is))
