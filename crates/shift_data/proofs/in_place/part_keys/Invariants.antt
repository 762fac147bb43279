use Rattle.std.proofs.Common.{◌≡◌, ◌-◌, ◌^◌, ◌≤◌, ◌++◌}
use Rattle.tick_model.{specs.Rules.landed, specs.Shifts.delta_at}
use Rattle.shift_data.{specs.Movers.movers, specs.Parts.from_on, proofs.Onward.StandFor}
use Rattle.shift_data.proofs.in_place.part_keys.Given as goal

abbrev pub invariant-loop-part : goal.invariant-loop-part
invariant-loop-part l =
    (l.from ≤ 2 ^ 62)
    × (l.left ++ movers (delta_at l.shifts) (from_on l.from l.keys) ≡ movers (delta_at l.shifts) l.keys)
    × (l.came ++ landed l.shifts (movers (delta_at l.shifts) (from_on l.from l.keys)) ≡ landed l.shifts (movers (delta_at l.shifts) l.keys))
    × StandFor l.shifts l.keys l.from l.ranges l.runs

abbrev pub decreases-loop-part : goal.decreases-loop-part
decreases-loop-part l = 2 ^ 62 - l.from
