use Rattle.std.proofs.Common.{◌≡◌, ◌++◌, map, take}
use Rattle.tick_model.{specs.Tables.cell, specs.Agg.{key_cells, aggregate}}
use Rattle.plain_evaluator.proofs.groups.agg_row.Given as goal

abbrev pub invariant-loop-column : goal.invariant-loop-column
invariant-loop-column l = l.cells.items ≡ map (cell l.row.cells) (take l.column-index l.by)

abbrev pub invariant-loop-agg : goal.invariant-loop-agg
invariant-loop-agg l = l.cells.items ≡ key_cells l.by l.row.cells ++ map (aggregate l.group.items) (take l.agg-index l.aggs)
