use Rattle.std.proofs.Common.{◌≡◌, ◌-◌, ◌^◌, leb}
use Rattle.std.specs.Prelude.{find}
use Rattle.key_lists.specs.Keys.{without}
use Rattle.shift_data.proofs.parts.next_kept.Given as goal

abbrev pub invariant-loop-key : goal.invariant-loop-key
invariant-loop-key l =
    find (leb l.from) (without l.left_out l.keys) ≡ find (leb l.fn.from) (without l.left_out l.keys)

abbrev pub decreases-loop-key : goal.decreases-loop-key
decreases-loop-key l = 2 ^ 62 - l.from
