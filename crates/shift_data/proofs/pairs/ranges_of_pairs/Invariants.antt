use Rattle.std.proofs.Common.{◌≡◌, ◌-◌, ◌^◌, ◌≤◌}
use Rattle.tick_model.specs.Shifts.{stretches, shifted}
use Rattle.shift_data.{specs.Moves.pairs_of, specs.Parts.from_on, specs.Stretches.built}
use Rattle.shift_data.proofs.pairs.ranges_of_pairs.Given as goal

abbrev pub invariant-loop-run : goal.invariant-loop-run
invariant-loop-run l =
    (l.old_from ≤ 2 ^ 62)
    × (built l.stretches.whole.items l.stretches.last (stretches (pairs_of (from_on l.old_from l.old) (from_on l.new_from l.new))) ≡ shifted (pairs_of l.old l.new))

abbrev pub decreases-loop-run : goal.decreases-loop-run
decreases-loop-run l = 2 ^ 62 - l.old_from
