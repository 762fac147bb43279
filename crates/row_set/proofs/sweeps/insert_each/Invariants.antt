use Rattle.std.proofs.Common.{◌≡◌, ◌≤◌, ◌+◌, take, drop, vec_len, vec_capacity}
use Rattle.row_set.{specs.Gaps.{ArePassed, IsGap, around}, specs.Ranges.{AreApart, keys_of}, specs.Sets.united}
use Rattle.row_set.proofs.sweeps.insert_each.Given as goal

abbrev pub invariant-loop-index : goal.invariant-loop-index
invariant-loop-index l = record {
  gap : IsGap l.at l.ranges.items;
  apart : AreApart 0 (around l.at l.ranges.items);
  keys : keys_of (around l.at l.ranges.items) ≡ united (keys_of (take l.index l.others)) (keys_of (around l.fn.gap l.fn.ranges.items));
  passed : ArePassed (take l.at.start l.ranges.items) (drop l.index l.others);
  before : take l.fn.gap.start l.ranges.items ≡ take l.fn.gap.start l.fn.ranges.items;
  start : l.fn.gap.start ≤ l.at.start;
  growth : vec_len l.ranges + l.at.start + l.fn.gap.end ≤ vec_len l.fn.ranges + l.fn.gap.start + l.index + l.at.end;
  capacity : vec_capacity l.fn.ranges ≤ vec_capacity l.ranges;
}
