use Rattle.std.proofs.Common.{◌-◌, ◌<◌, ◌≤◌, length, take, drop}
use Rattle.std.specs.List.{AllByRecursion}
use Rattle.row_handles.proofs.index.begun_by.Given as goal

abbrev pub invariant-loop-low : goal.invariant-loop-low
invariant-loop-low l = record {
  order : l.low ≤ l.high;
  within : l.high ≤ length l.blocks;
  begun : AllByRecursion (λ block. block.first ≤ l.key) (take l.low l.blocks);
  others : AllByRecursion (λ block. l.key < block.first) (drop l.high l.blocks);
}

abbrev pub decreases-loop-low : goal.decreases-loop-low
decreases-loop-low l = l.high - l.low
