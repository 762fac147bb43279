use Rattle.std.proofs.Common.{length}
use Rattle.shift_data.proofs.in_place.+move_ranges.Given as goal

abbrev pub decreases-move_ranges : goal.decreases-move_ranges
decreases-move_ranges l = length l.shifts.now
