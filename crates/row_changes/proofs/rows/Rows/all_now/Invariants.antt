use Rattle.std.proofs.Common.{◌≡◌, ◌+◌, ◌*◌, ◌≤◌, ◌++◌, length}
use Rattle.tick_table.specs.declared.version.Version.TheVariants.{Now}
use Rattle.row_changes.specs.Parts.{cells_under}
use Rattle.row_changes.proofs.rows.Rows.all_now.Given as goal

abbrev pub invariant-loop-key : goal.invariant-loop-key
invariant-loop-key g l = record {
  cells : l.cells.items ≡ l.fn.cells.items ++ cells_under (g.Self.Rows.table l.self Now) l.yielded;
  reads : l.reads ≤ l.fn.reads + g.Self.Rows.row_reads l.self * length l.yielded;
}
