use Rattle.std.proofs.Common.{◌≡◌, take}
use Rattle.source_changes.proofs.blocks.shift_by.Given as goal

abbrev pub invariant-loop-range : goal.invariant-loop-range
invariant-loop-range l = l.shift ≡ take l.range-index l.ranges
