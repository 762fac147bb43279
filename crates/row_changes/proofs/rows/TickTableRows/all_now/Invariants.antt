use Rattle.std.proofs.Common.{◌≡◌, ◌+◌, ◌*◌, ◌≤◌, ◌++◌, length}
use Rattle.row_changes.specs.Parts.{cells_under}
use Rattle.row_changes.proofs.rows.TickTableRows.all_now.Given as goal

abbrev pub invariant-loop-key : goal.invariant-loop-key
invariant-loop-key g l = record {
  same : l.reader ≡ l.self.new;
  cells : l.cells.items ≡ l.fn.cells.items ++ cells_under l.self.new l.yielded;
  reads : l.reads ≤ l.fn.reads + l.self.new.width * length l.yielded;
}
