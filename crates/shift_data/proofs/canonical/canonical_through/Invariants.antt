use Rattle.std.proofs.Common.{◌≡◌, ◌-◌, ◌^◌, ◌≤◌, map}
use Rattle.tick_model.specs.Shifts.{stretches}
use Rattle.shift_data.{specs.Moves.{canonical_through, pair_through}, specs.Parts.from_on, specs.Stretches.built}
use Rattle.shift_data.proofs.canonical.canonical_through.Given as goal

abbrev pub invariant-loop-part : goal.invariant-loop-part
invariant-loop-part l =
    (l.from ≤ 2 ^ 62) × (built l.stretches.whole.items l.stretches.last (stretches (map (pair_through l.shifts l.next) (from_on l.from l.survivors))) ≡ canonical_through l.shifts l.next l.survivors)

abbrev pub decreases-loop-part : goal.decreases-loop-part
decreases-loop-part l = 2 ^ 62 - l.from
