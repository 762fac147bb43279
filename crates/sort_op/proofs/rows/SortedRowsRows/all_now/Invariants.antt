use Rattle.std.proofs.Common.{◌≡◌, ◌+◌, ◌*◌, ◌≤◌, ◌++◌, length}
use Rattle.row_changes.specs.Parts.{cells_under}
use Rattle.tick_model.specs.Sort.{sort_table}
use Rattle.sort_op.proofs.rows.SortedRowsRows.all_now.Given as goal

abbrev pub invariant-loop-position : goal.invariant-loop-position
invariant-loop-position g l = record {
  input : l.input ≡ l.self.input.now.new;
  order : l.keys ≡ l.self.order.now;
  cells : l.cells.items ≡ l.fn.cells.items ++ cells_under (sort_table l.self.order.now.by l.self.input.now.new) l.yielded;
  reads : l.reads ≤ l.fn.reads + l.self.input.now.new.width * length l.yielded;
}
