use Rattle.std.proofs.Common.{◌≡◌, take}
use Rattle.replay.specs.Outcomes.{row_counts}
use Rattle.replay.proofs.rows.row_counts.Given as goal

abbrev pub invariant-loop-node : goal.invariant-loop-node
invariant-loop-node l = l.counts ≡ take l.node (row_counts l.graph.run l.graph.step)
