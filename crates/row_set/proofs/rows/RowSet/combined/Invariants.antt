use Rattle.std.proofs.Common.{◌-◌, ◌^◌}
use Rattle.row_set.proofs.Merged.{IsMerged}
use Rattle.row_set.proofs.rows.RowSet.combined.Given as goal

abbrev pub invariant-loop-at : goal.invariant-loop-at
invariant-loop-at l = IsMerged l.choice l.fn.self l.fn.other l.at l.first l.second l.kept

abbrev pub decreases-loop-at : goal.decreases-loop-at
decreases-loop-at l = 2 ^ 62 - l.at
