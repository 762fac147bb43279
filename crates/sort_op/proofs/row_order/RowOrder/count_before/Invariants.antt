use Rattle.std.proofs.Common.{◌≡◌, ◌-◌, ◌≤◌, drop, false, length, take, true}
use Rattle.std.specs.List.{AllByRecursion}
use Rattle.sort_op.{specs.Entries.comes_before, specs.Ranks.{arrived, listed}}
use Rattle.sort_op.proofs.row_order.RowOrder.count_before.Given as goal

abbrev pub invariant-loop-low : goal.invariant-loop-low
invariant-loop-low l = record {
  order : l.low ≤ l.high;
  within : l.high ≤ length (listed l.self);
  before : AllByRecursion (λ entry. comes_before l.self.by entry (arrived l.self l.row) ≡ true) (take l.low (listed l.self));
  others : AllByRecursion (λ entry. comes_before l.self.by entry (arrived l.self l.row) ≡ false) (drop l.high (listed l.self));
}

abbrev pub decreases-loop-low : goal.decreases-loop-low
decreases-loop-low l = l.high - l.low
