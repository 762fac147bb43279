use Rattle.std.proofs.Common.{◌≡◌, ◌-◌, ◌^◌, ◌≤◌}
use Rattle.std.{specs.Prelude.IfSome, specs.Option.ForSome}
use Rattle.key_lists.specs.Keys.{without}
use Rattle.tick_model.{specs.Shifts.delta_at, specs.Rules.{shift_fault_after, shift_fault}}
use Rattle.shift_data.{specs.Faults.IsPlaced, specs.Parts.from_on, proofs.PartFaults.last_of}
use Rattle.shift_data.proofs.order.broken.Given as goal

abbrev pub invariant-loop-part : goal.invariant-loop-part
invariant-loop-part l =
    (l.from ≤ 2 ^ 62)
    × ForSome l.before IsPlaced
    × IfSome l.before (λ part. delta_at l.shifts part.last ≡ part.delta)
    × (shift_fault_after l.limit l.shifts (last_of l.before) (from_on l.from (without l.left_out l.keys)) ≡ shift_fault l.limit l.shifts (without l.left_out l.keys))

abbrev pub decreases-loop-part : goal.decreases-loop-part
decreases-loop-part l = 2 ^ 62 - l.from
