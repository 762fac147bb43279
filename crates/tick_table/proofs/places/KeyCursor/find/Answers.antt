use Rattle.std.proofs.Common.{◌+◌, ◌<◌, arith, length}
use Rattle.row_set.{proofs.Counts.{apart_ranges, blank, few_before, length-keys_more}, proofs.Places.range_at}
use Rattle.tick_table.proofs.places.KeyCursor.find.Goals as goal

pub overflow_sub-self : goal.overflow_sub-self
overflow_sub-self c =
    let s = c.loop-self.self-inside in
    (range_at 0 s.ranges.now c.loop-self.invariant.passing.apart s.passed blank (omega (arith, c.loop-self-test.true, c.loop-self.invariant.end))).ascends

pub overflow_add-self-in-loop-self : goal.overflow_add-self-in-loop-self
overflow_add-self-in-loop-self c =
    let s = c.loop-self.self-inside in
    let ranges = apart_ranges s.ranges.now c.loop-self.invariant.passing.apart in
    let lt : s.passed < length s.ranges.now = omega (arith, c.loop-self-test.true, c.loop-self.invariant.end) in
    omega (arith, c.loop-self.invariant.passing.count, length-keys_more s.passed blank s.ranges.now ranges.each lt, few_before (s.passed + 1) s.ranges.now ranges)

pub loop-self-preserved : goal.loop-self-preserved
loop-self-preserved c =
    let s = c.loop-self.self-inside in
    let passing = c.loop-self.invariant.passing in
    let lt : s.passed < length s.ranges.now = omega (arith, c.loop-self-test.true, c.loop-self.invariant.end) in
    record {
      same = c.loop-self.invariant.same;
      end = c.loop-self.invariant.end;
      passing = record {
        key_set = passing.key_set;
        held = passing.held;
        apart = passing.apart;
        within = omega (arith, lt);
        count = omega (arith, passing.count, length-keys_more s.passed blank s.ranges.now (apart_ranges s.ranges.now passing.apart).each lt);
      };
    }
