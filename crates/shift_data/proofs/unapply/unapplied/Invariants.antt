use Rattle.std.proofs.Common.{◌≡◌, ◌-◌, ◌^◌, ◌≤◌, ◌++◌}
use Rattle.key_lists.specs.Keys.{without}
use Rattle.shift_data.{specs.Moves.unapplied, specs.Parts.from_on}
use Rattle.shift_data.proofs.unapply.unapplied.Given as goal

abbrev pub invariant-loop-part : goal.invariant-loop-part
invariant-loop-part l =
    (l.from ≤ 2 ^ 62) × (l.asked ++ unapplied l.shifts (from_on l.from (without l.left_out l.keys)) l.after ≡ unapplied l.shifts (without l.left_out l.keys) l.after)

abbrev pub decreases-loop-part : goal.decreases-loop-part
decreases-loop-part l = 2 ^ 62 - l.from
