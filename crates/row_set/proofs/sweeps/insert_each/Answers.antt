use Rattle.std.proofs.Common.{ap, ◌∙◌, get_or, take, arith}
use Rattle.row_set.{specs.Gaps.around, specs.Ranges.{keys_from, keys_of}, specs.Sets.united, proofs.Apart.keys_rise, proofs.Batches.united_more, proofs.Counts.blank, proofs.Places.range_at, proofs.Swept.{ends_below, passed_next, same_front}}
use Rattle.row_set.proofs.sweeps.insert_each.Goals as goal

pub insert_next-at-requires-clause-order : goal.insert_next-at-requires-clause-order
insert_next-at-requires-clause-order c = (range_at 0 c.args.others.now c.requires.others_apart c.loop-index.index blank c.loop-index-test.true).ascends

pub insert_next-at-requires-clause-small : goal.insert_next-at-requires-clause-small
insert_next-at-requires-clause-small c = (range_at 0 c.args.others.now c.requires.others_apart c.loop-index.index blank c.loop-index-test.true).small

pub loop-index-preserved : goal.loop-index-preserved
loop-index-preserved c =
    let others = c.args.others.now in
    let i = c.loop-index.index in
    let range = get_or others i blank in
    let given = around c.args.gap c.args.ranges.now.items in
    let place = c.insert_next-at.result.start in
    let new = c.insert_next-at.new.ranges.items in
    record {
      gap = c.insert_next-at.ensures.gap;
      apart = c.insert_next-at.ensures.apart;
      keys =
          c.insert_next-at.ensures.keys
          ∙ ap (united (keys_from range.first range.last)) c.loop-index.invariant.keys
          ∙ united_more others i (keys_of given) (keys_rise 0 given c.requires.apart) c.loop-index-test.true;
      passed = passed_next i (take place new) others c.requires.others_apart c.loop-index-test.true (ends_below range.first (take place new) c.insert_next-at.ensures.passed);
      before = same_front c.args.gap.start c.loop-index.at.start new c.loop-index.ranges.items c.args.ranges.now.items c.loop-index.invariant.start c.insert_next-at.ensures.before c.loop-index.invariant.before;
      start = omega (arith, c.insert_next-at.ensures.start, c.loop-index.invariant.start);
      growth = omega (arith, c.insert_next-at.ensures.growth, c.loop-index.invariant.growth);
      capacity = omega (arith, c.insert_next-at.ensures.capacity, c.loop-index.invariant.capacity);
    }
