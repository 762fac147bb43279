use Rattle.std.proofs.Common.{◌≡◌, take}
use Rattle.shift_data.specs.ShiftLists.{offset_by}
use Rattle.shift_data.proofs.shifts.ShiftData.offset.Given as goal

abbrev pub invariant-loop-range : goal.invariant-loop-range
invariant-loop-range l = l.ranges.items ≡ offset_by l.by (take l.range-index l.range-items)
