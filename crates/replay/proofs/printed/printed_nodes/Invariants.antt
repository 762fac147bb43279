use Rattle.std.proofs.Common.{◌≡◌, map, take}
use Rattle.replay.specs.Printed.{printed_of}
use Rattle.replay.proofs.printed.printed_nodes.Given as goal

abbrev pub invariant-loop-number : goal.invariant-loop-number
invariant-loop-number l = l.printed ≡ map (printed_of l.run) (take l.number-index l.run.plan.printed)
