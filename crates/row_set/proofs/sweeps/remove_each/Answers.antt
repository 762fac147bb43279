use Rattle.std.proofs.Common.{refl, ap, ◌∙◌, get_or, take, arith}
use Rattle.key_lists.specs.Keys.{without}
use Rattle.row_set.{specs.Gaps.around, specs.Ranges.{keys_from, keys_of}, proofs.Batches.{without_more, without_none}, proofs.Counts.blank, proofs.Places.range_at, proofs.Swept.{passed_next, same_front}}
use Rattle.row_set.proofs.sweeps.remove_each.Goals as goal

pub remove_next-at-requires-clause-order : goal.remove_next-at-requires-clause-order
remove_next-at-requires-clause-order c = (range_at 0 c.args.others.now c.requires.others_apart c.loop-index.index blank c.loop-index-test.true).ascends

pub remove_next-at-requires-clause-small : goal.remove_next-at-requires-clause-small
remove_next-at-requires-clause-small c = (range_at 0 c.args.others.now c.requires.others_apart c.loop-index.index blank c.loop-index-test.true).small

pub loop-index-init : goal.loop-index-init
loop-index-init c = record {
  gap = c.requires.gap;
  apart = c.requires.apart;
  keys = without_none (keys_of (around c.args.gap c.args.ranges.now.items));
  passed = c.requires.passed;
  before = refl;
  start = omega arith;
  growth = omega arith;
  capacity = omega arith;
}

pub loop-index-preserved : goal.loop-index-preserved
loop-index-preserved c =
    let others = c.args.others.now in
    let i = c.loop-index.index in
    let range = get_or others i blank in
    let given = around c.args.gap c.args.ranges.now.items in
    let place = c.remove_next-at.result.start in
    let new = c.remove_next-at.new.ranges.items in
    record {
      gap = c.remove_next-at.ensures.gap;
      apart = c.remove_next-at.ensures.apart;
      keys =
          c.remove_next-at.ensures.keys
          ∙ ap (without (keys_from range.first range.last)) c.loop-index.invariant.keys
          ∙ without_more others i (keys_of given) c.loop-index-test.true;
      passed = passed_next i (take place new) others c.requires.others_apart c.loop-index-test.true c.remove_next-at.ensures.passed;
      before = same_front c.args.gap.start c.loop-index.at.start new c.loop-index.ranges.items c.args.ranges.now.items c.loop-index.invariant.start c.remove_next-at.ensures.before c.loop-index.invariant.before;
      start = omega (arith, c.remove_next-at.ensures.start, c.loop-index.invariant.start);
      growth = omega (arith, c.remove_next-at.ensures.growth, c.loop-index.invariant.growth);
      capacity = omega (arith, c.remove_next-at.ensures.capacity, c.loop-index.invariant.capacity);
    }
