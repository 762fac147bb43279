use Rattle.std.proofs.Common.{◌≡◌, ◌+◌, ◌++◌, map, take}
use Rattle.tick_model.specs.Tables.{cell, cells_at}
use Rattle.viewport.proofs.rows.put_cells.Given as goal

abbrev pub invariant-loop-column : goal.invariant-loop-column
invariant-loop-column g l = record {
  cells : l.cells.items ≡ l.fn.cells.items ++ map (cell (cells_at l.key l.table.new.rows)) (take l.column-index l.columns);
  reads : l.reads ≡ l.fn.reads + l.column-index;
}
