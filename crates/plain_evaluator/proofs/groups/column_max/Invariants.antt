use Rattle.std.proofs.Common.{◌≡◌, take}
use Rattle.std.{specs.Prelude.{fold, None}, specs.Int.int_max}
use Rattle.tick_model.{specs.Extremes.with_present, specs.Agg.column_of}
use Rattle.plain_evaluator.proofs.groups.column_max.Given as goal

abbrev pub invariant-loop-row : goal.invariant-loop-row
invariant-loop-row l = l.greatest ≡ fold (with_present int_max) None (column_of (take l.row-index l.rows) l.column)
