use Rattle.std.proofs.Common.{◌≡◌, take}
use Rattle.tick_model.specs.Agg.{key_cells as cells_by}
use Rattle.agg_by.proofs.kept.AggIndex.has_same_cells.Given as goal

abbrev pub invariant-loop-column : goal.invariant-loop-column
invariant-loop-column l = cells_by (take l.column-index l.column-items) l.before ≡ cells_by (take l.column-index l.column-items) l.row
