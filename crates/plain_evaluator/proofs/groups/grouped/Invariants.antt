use Rattle.std.proofs.Common.{◌≡◌, map, filter, take}
use Rattle.tick_model.specs.Agg.{agg_row, is_first}
use Rattle.plain_evaluator.proofs.groups.grouped.Given as goal

abbrev pub invariant-loop-row : goal.invariant-loop-row
invariant-loop-row l = l.rows ≡ map (agg_row l.by l.aggs l.input.rows) (filter (is_first l.by l.input.rows) (take l.row-index l.input.rows))
