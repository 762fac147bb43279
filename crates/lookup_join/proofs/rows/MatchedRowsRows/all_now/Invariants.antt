use Rattle.std.proofs.Common.{◌≡◌, ◌+◌, ◌*◌, ◌≤◌, ◌++◌, length}
use Rattle.lookup_join.specs.Matched.{matched_table}
use Rattle.row_changes.specs.Parts.{cells_under}
use Rattle.lookup_join.proofs.rows.MatchedRowsRows.all_now.Given as goal

abbrev pub invariant-loop-key : goal.invariant-loop-key
invariant-loop-key g l = record {
  left : l.left ≡ l.self.left.now.new;
  cells : l.cells.items ≡ l.fn.cells.items ++ cells_under (matched_table l.self.on.now l.self.pick l.self.take.now l.self.left.now.new l.self.right.now.new) l.yielded;
  reads : l.reads ≤ l.fn.reads + (l.self.left.now.new.width + length l.self.take.now) * length l.yielded;
}
