use Rattle.shift_data.proofs.Kept.{IsBound}
use Rattle.shift_data.proofs.parts.last_kept.Given as goal

abbrev pub invariant-loop-key : goal.invariant-loop-key
invariant-loop-key l = IsBound l.left_out l.keys l.fn.high l.high

abbrev pub decreases-loop-key : goal.decreases-loop-key
decreases-loop-key l = l.high
