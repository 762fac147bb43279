use Rattle.std.proofs.Common.{◌-◌, ◌≤◌, length, take}
use Rattle.key_lists.specs.Keys.{without}
use Rattle.head_tail.proofs.places.position_of.Given as goal

abbrev pub invariant-loop-low : goal.invariant-loop-low
invariant-loop-low l = record {
  order : l.low ≤ l.high;
  within : l.high ≤ length l.keys;
  few : length (without l.others (take l.low l.keys)) ≤ l.staying;
  many : l.staying ≤ length (without l.others (take l.high l.keys));
}

abbrev pub decreases-loop-low : goal.decreases-loop-low
decreases-loop-low l = l.high - l.low
