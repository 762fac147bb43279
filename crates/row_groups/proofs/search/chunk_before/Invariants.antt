use Rattle.std.proofs.Common.{◌+◌, ◌-◌, ◌<◌, ◌≡◌, ◌≤◌, true, false, length, take, drop}
use Rattle.std.specs.List.{AllByRecursion}
use Rattle.chunk_list.specs.Chunked.{joined}
use Rattle.row_groups.specs.Slots.{is_before}
use Rattle.row_groups.proofs.search.chunk_before.Given as goal

abbrev pub invariant-loop-low : goal.invariant-loop-low
invariant-loop-low l = record {
  order : l.low ≤ l.high;
  within : l.high < length l.chunks;
  before : AllByRecursion (λ slot. is_before l.place.handles.now l.place.table.now l.place.at l.place.key slot ≡ true) (joined (take l.low l.chunks));
  others : AllByRecursion (λ slot. is_before l.place.handles.now l.place.table.now l.place.at l.place.key slot ≡ false) (joined (drop (l.high + 1) l.chunks));
}

abbrev pub decreases-loop-low : goal.decreases-loop-low
decreases-loop-low l = l.high - l.low
