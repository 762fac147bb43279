use Rattle.std.proofs.Common.{ap, ◌∙◌, arith, get_or}
use Rattle.row_set.specs.Sets.{united}
use Rattle.tick_model.{specs.declared.update.KeyRange.KeyRange, specs.Sources.keys_within}
use Rattle.source_changes.proofs.Gathered.{range_at, ranges_more}
use Rattle.source_changes.proofs.blocks.keys_in.Goals as goal

pub insert_range-requires-clause-order : goal.insert_range-requires-clause-order
insert_range-requires-clause-order c = let d : KeyRange = record { first = 0; last = 0 } in (range_at c.args.ranges.now c.loop-range.range-index d c.requires c.loop-range-test.true).0

pub insert_range-requires-clause-small : goal.insert_range-requires-clause-small
insert_range-requires-clause-small c =
    let d : KeyRange = record { first = 0; last = 0 } in
    let small = (range_at c.args.ranges.now c.loop-range.range-index d c.requires c.loop-range-test.true).1 in
    omega (arith, small)

pub loop-range-preserved : goal.loop-range-preserved
loop-range-preserved c =
    let d : KeyRange = record { first = 0; last = 0 } in
    c.in_ok-insert_range.ensures.ok
    ∙ ap (united (keys_within (get_or c.args.ranges.now c.loop-range.range-index d))) c.loop-range.invariant
    ∙ ranges_more c.args.ranges.now c.loop-range.range-index d c.requires c.loop-range-test.true
