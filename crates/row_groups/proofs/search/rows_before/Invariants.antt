use Rattle.std.proofs.Common.{◌-◌, ◌≡◌, ◌≤◌, true, false, length, take, drop}
use Rattle.std.specs.List.{AllByRecursion}
use Rattle.row_groups.specs.Slots.{is_before}
use Rattle.row_groups.proofs.search.rows_before.Given as goal

abbrev pub invariant-loop-low : goal.invariant-loop-low
invariant-loop-low l = record {
  order : l.low ≤ l.high;
  within : l.high ≤ length l.rows;
  before : AllByRecursion (λ slot. is_before l.place.handles.now l.place.table.now l.place.at l.place.key slot ≡ true) (take l.low l.rows);
  others : AllByRecursion (λ slot. is_before l.place.handles.now l.place.table.now l.place.at l.place.key slot ≡ false) (drop l.high l.rows);
}

abbrev pub decreases-loop-low : goal.decreases-loop-low
decreases-loop-low l = l.high - l.low
