use Rattle.std.proofs.Common.{◌+◌, arith}
use Rattle.key_lists.proofs.Every.{all_from}
use Rattle.row_set.{specs.Ranges.IsRangeFrom, proofs.Counts.{blank, few_before, length-keys_more}}
use Rattle.row_set.proofs.search.count_in.Goals as goal

pub overflow_sub-count : goal.overflow_sub-count
overflow_sub-count c = (all_from (IsRangeFrom 0) c.args.ranges.now c.requires.each c.loop-range.range-index blank c.loop-range-test.true).ascends

pub overflow_add-count : goal.overflow_add-count
overflow_add-count c = omega (arith, (all_from (IsRangeFrom 0) c.args.ranges.now c.requires.each c.loop-range.range-index blank c.loop-range-test.true).small)

pub overflow_add-count-in-loop-range : goal.overflow_add-count-in-loop-range
overflow_add-count-in-loop-range c =
    let i = c.loop-range.range-index in
    let ranges = c.args.ranges.now in
    omega (arith, c.loop-range.invariant, length-keys_more i blank ranges c.requires.each c.loop-range-test.true, few_before (i + 1) ranges c.requires)

pub loop-range-preserved : goal.loop-range-preserved
loop-range-preserved c = omega (arith, c.loop-range.invariant, length-keys_more c.loop-range.range-index blank c.args.ranges.now c.requires.each c.loop-range-test.true)
