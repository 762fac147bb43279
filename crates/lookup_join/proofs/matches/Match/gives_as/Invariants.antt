use Rattle.std.proofs.Common.{◌≡◌, ◌+◌, ◌*◌, ◌≤◌, drop, map}
use Rattle.lookup_join.specs.Taken.{cell_of}
use Rattle.tick_model.specs.Tables.{same_cells}
use Rattle.lookup_join.proofs.matches.Match.gives_as.Given as goal

abbrev pub invariant-loop-column : goal.invariant-loop-column
invariant-loop-column g l = record {
  same : same_cells (map (cell_of l.right.old.rows l.right.new.rows l.self) (drop l.column-index l.take)) (map (cell_of l.right.old.rows l.right.new.rows l.other) (drop l.column-index l.take))
      ≡ same_cells (map (cell_of l.right.old.rows l.right.new.rows l.self) l.take) (map (cell_of l.right.old.rows l.right.new.rows l.other) l.take);
  reads : l.reads ≤ l.fn.reads + 2 * l.column-index;
}
