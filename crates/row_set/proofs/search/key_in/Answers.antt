use Rattle.std.proofs.Common.{ap, sym, ◌∙◌, slice_get, arith}
use Rattle.std.proofs.lemmas.Option.{slice_get_past}
use Rattle.row_set.{specs.Ranges.keys_of, proofs.Apart.each_range, proofs.Counts.{blank, keys_before_all, length-keys_more}, proofs.Lookups.key_in, proofs.Places.range_at}
use Rattle.row_set.proofs.search.key_in.Goals as goal

pub overflow_sub-count : goal.overflow_sub-count
overflow_sub-count c = (range_at 0 c.args.ranges.now c.requires c.loop-range.range-index blank c.loop-range-test.true).ascends

pub overflow_add-count : goal.overflow_add-count
overflow_add-count c = omega (arith, (range_at 0 c.args.ranges.now c.requires c.loop-range.range-index blank c.loop-range-test.true).small)

pub returns-then-offset-count : goal.returns-then-offset-count
returns-then-offset-count c =
    let i = c.loop-range.range-index in
    let ranges = c.args.ranges.now in
    sym (key_in i c.loop-range.offset ranges c.loop-range-test.true (omega (arith, c.if-offset-count.true, (range_at 0 ranges c.requires i blank c.loop-range-test.true).ascends)))
    ∙ ap (slice_get (keys_of ranges)) c.loop-range.invariant

pub loop-range-preserved : goal.loop-range-preserved
loop-range-preserved c =
    omega (arith, c.loop-range.invariant, c.if-offset-count.false, length-keys_more c.loop-range.range-index blank c.args.ranges.now (each_range 0 c.args.ranges.now c.requires) c.loop-range-test.true)

pub returns : goal.returns
returns c =
    let ranges = c.args.ranges.now in
    sym (slice_get_past (keys_of ranges) c.args.position (omega (arith, c.loop-range.invariant, keys_before_all c.loop-range.range-index ranges c.loop-range-test.false)))
