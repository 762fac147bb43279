use Rattle.std.proofs.Common.{◌≡◌, ◌+◌, ◌++◌, length, List, ℕ}
use Rattle.sort_op.specs.Places.{left_from}
use Rattle.sort_op.proofs.row_order.RowOrder.remove_found.Given as goal

abbrev pub invariant-loop-position : goal.invariant-loop-position
invariant-loop-position l = record {
  removed : l.removed ≡ length l.yielded;
  count : length l.self.rows + l.removed ≡ length l.fn.self.rows;
  self : l.self ≡ record l.fn.self { rows = l.self.rows };
  left : (rest : List ℕ) → l.positions ≡ l.yielded ++ rest → left_from 0 l.positions l.fn.self.rows ≡ left_from l.removed rest l.self.rows;
}
