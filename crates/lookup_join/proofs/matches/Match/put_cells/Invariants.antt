use Rattle.std.proofs.Common.{◌≡◌, ◌+◌, ◌≤◌, ◌++◌, map, take}
use Rattle.lookup_join.specs.Taken.{cell_of}
use Rattle.lookup_join.proofs.matches.Match.put_cells.Given as goal

abbrev pub invariant-loop-column : goal.invariant-loop-column
invariant-loop-column g l = record {
  cells : l.cells.items ≡ l.fn.cells.items ++ map (cell_of l.right.old.rows l.right.new.rows l.self) (take l.column-index l.take);
  reads : l.reads ≤ l.fn.reads + l.column-index;
}
