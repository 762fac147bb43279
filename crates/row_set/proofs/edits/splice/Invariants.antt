use Rattle.std.proofs.Common.{◌≤◌, vec_capacity}
use Rattle.row_set.proofs.Spliced.{IsSplicing}
use Rattle.row_set.proofs.edits.splice.Given as goal

abbrev pub invariant-loop-range : goal.invariant-loop-range
invariant-loop-range l = IsSplicing l.initial.ranges.items l.from l.to l.others l.range-index l.at l.ranges.items × (vec_capacity l.initial.ranges ≤ vec_capacity l.ranges)
