use Rattle.table_update.proofs.Absent.{none_held, some_held, all_held}
use Rattle.table_update.proofs.search.least_absent.Goals as goal

pub returns-in-None : goal.returns-in-None
returns-in-None c = none_held c.args.keys.now c.args.others.now c.range_at.ensures.keys c.ranges-range-items.result.now c.ranges-range-items.ensures.apart c.loop-range.range-index c.loop-range-test.true c.loop-range.invariant c.range_at.result c.range_at.ensures.range c.in-None.is

pub returns-in-Some : goal.returns-in-Some
returns-in-Some c = some_held c.args.keys.now c.args.others.now c.range_at.ensures.keys c.ranges-range-items.result.now c.ranges-range-items.ensures.apart c.loop-range.range-index c.loop-range-test.true c.loop-range.invariant c.range_at.result c.range_at.ensures.range c.in-Some.held c.in-Some.is c.if-held-range.true

pub loop-range-preserved : goal.loop-range-preserved
loop-range-preserved c = all_held c.args.keys.now c.args.others.now c.range_at.ensures.keys c.ranges-range-items.result.now c.ranges-range-items.ensures.apart c.loop-range.range-index c.loop-range-test.true c.loop-range.invariant c.range_at.result c.range_at.ensures.range c.in-Some.held c.in-Some.is c.if-held-range.false
