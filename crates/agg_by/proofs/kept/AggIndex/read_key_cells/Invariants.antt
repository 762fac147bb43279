use Rattle.std.proofs.Common.{◌≡◌, take}
use Rattle.tick_model.specs.Agg.{key_cells}
use Rattle.agg_by.proofs.kept.AggIndex.read_key_cells.Given as goal

abbrev pub invariant-loop-column : goal.invariant-loop-column
invariant-loop-column l = l.cells.items ≡ key_cells (take l.column-index l.self.by) l.row
