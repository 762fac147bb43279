use Rattle.std.proofs.Common.{◌≡◌}
use Rattle.update_graph.proofs.shares.Shares.of.Given as goal

abbrev pub invariant-loop-share : goal.invariant-loop-share
invariant-loop-share l = l.all ≡ l.yielded
