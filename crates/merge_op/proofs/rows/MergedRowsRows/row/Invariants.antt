use Rattle.std.proofs.Common.{◌≡◌, drop}
use Rattle.table_operator.specs.Inputs.{tables}
use Rattle.merge_op.proofs.Found.{IsAhead}
use Rattle.merge_op.proofs.rows.MergedRowsRows.row.Given as goal

abbrev pub invariant-loop-input : goal.invariant-loop-input
invariant-loop-input g l = record {
  ahead : IsAhead l.version (tables l.self.inputs.now) (tables (drop l.input-index l.self.inputs.now)) l.start l.key;
  cells : l.cells.items ≡ l.fn.cells.items;
  reads : l.reads ≡ l.fn.reads;
}
