use Rattle.std.proofs.Common.{drop, pos, ◌-ℤ◌}
use Rattle.merge_op.proofs.Ranged.{IsPut}
use Rattle.merge_op.proofs.shifts.put_shift.Given as goal

abbrev pub invariant-loop-range : goal.invariant-loop-range
invariant-loop-range l = IsPut l.input (drop l.range-index l.range-items) l.fn.shift l.shift l.start.before l.end l.from (pos l.start.now -ℤ pos l.start.before)
