use Rattle.std.proofs.Common.{◌≡◌, ◌-◌, drop}
use Rattle.tick_model.{specs.Tables.keys, specs.Plans.rises}
use Rattle.tick_model.proofs.sources.have_rising_keys.Given as goal

abbrev pub invariant-loop-i : goal.invariant-loop-i
invariant-loop-i l = rises (keys (drop (l.i - 1) l.rows)) ≡ rises (keys l.rows)
