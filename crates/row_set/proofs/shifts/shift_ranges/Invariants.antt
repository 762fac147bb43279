use Rattle.std.proofs.Common.{◌-◌, map, slice_range}
use Rattle.row_set.{specs.Moves.shift, proofs.Spliced.IsSplicing}
use Rattle.row_set.proofs.shifts.shift_ranges.Given as goal

abbrev pub invariant-loop-index : goal.invariant-loop-index
invariant-loop-index l =
    IsSplicing l.fn.ranges l.from l.to (map (shift l.delta) (slice_range l.fn.ranges l.from l.to)) (l.index - l.from) l.index l.ranges
