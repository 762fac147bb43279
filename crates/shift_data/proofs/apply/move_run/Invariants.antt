use Rattle.std.proofs.Common.{◌≡◌, ◌+◌, ◌-◌, ◌≤◌, ◌++◌}
use Rattle.row_set.specs.Ranges.{keys_from, keys_in}
use Rattle.tick_model.specs.Rules.{landed}
use Rattle.shift_data.proofs.apply.move_run.Given as goal

abbrev pub invariant-loop-from : goal.invariant-loop-from
invariant-loop-from l =
    (l.run.first ≤ l.from)
    × (l.from ≤ l.run.last + 1)
    × (l.places ++ landed l.shifts (keys_from l.from l.run.last) ≡ l.initial.places ++ landed l.shifts (keys_in l.run))

abbrev pub decreases-loop-from : goal.decreases-loop-from
decreases-loop-from l = l.run.last + 1 - l.from
