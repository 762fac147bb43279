use Rattle.std.proofs.Common.{◌≡◌, take, None}
use Rattle.std.specs.Prelude.{fold}
use Rattle.tick_model.specs.Agg.{column_of, with_cell}
use Rattle.plain_evaluator.proofs.sums.column_sum.Given as goal

abbrev pub invariant-loop-row : goal.invariant-loop-row
invariant-loop-row l = l.sum ≡ fold with_cell None (column_of (take l.row-index l.rows) l.column)
