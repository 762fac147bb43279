use Rattle.std.proofs.Common.{◌≡◌, ◌-◌, ◌^◌, ◌≤◌, map}
use Rattle.tick_model.specs.Shifts.{stretches}
use Rattle.key_lists.specs.Keys.{without}
use Rattle.shift_data.{specs.Moves.{canonical, pair_by}, specs.Parts.from_on, specs.Stretches.built}
use Rattle.shift_data.proofs.canonical.canonical_without.Given as goal

abbrev pub invariant-loop-part : goal.invariant-loop-part
invariant-loop-part l =
    (l.from ≤ 2 ^ 62) × (built l.stretches.whole.items l.stretches.last (stretches (map (pair_by l.shifts) (from_on l.from (without l.left_out l.keys)))) ≡ canonical l.shifts (without l.left_out l.keys))

abbrev pub decreases-loop-part : goal.decreases-loop-part
decreases-loop-part l = 2 ^ 62 - l.from
