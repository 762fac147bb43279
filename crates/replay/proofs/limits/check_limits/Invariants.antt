use Rattle.std.proofs.Common.{◌≡◌}
use Rattle.tick_model.specs.States.{state}
use Rattle.replay.proofs.PastLimits.{fault_from}
use Rattle.replay.proofs.limits.check_limits.Given as goal

-- none of the tables before this one is past its limit
abbrev pub invariant-loop-number : goal.invariant-loop-number
invariant-loop-number l = fault_from (state l.graph.run l.graph.step) l.published 0 ≡ fault_from (state l.graph.run l.graph.step) l.published l.number
