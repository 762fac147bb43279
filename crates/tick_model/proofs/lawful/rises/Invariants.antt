use Rattle.std.proofs.Common.{◌≡◌, ◌-◌, drop}
use Rattle.tick_model.specs.Plans.{rises}
use Rattle.tick_model.proofs.lawful.rises.Given as goal

abbrev pub invariant-loop-i : goal.invariant-loop-i
invariant-loop-i l = rises (drop (l.i - 1) l.numbers) ≡ rises l.numbers
