use Rattle.std.proofs.Common.{◌≡◌, ◌+◌, ◌*◌, ◌≤◌, drop}
use Rattle.table_operator.specs.Inputs.{tables}
use Rattle.merge_op.specs.Merged.{rows_in}
use Rattle.merge_op.proofs.merging.rows_of.Given as goal

abbrev pub invariant-loop-input : goal.invariant-loop-input
invariant-loop-input l = record {
  counted : l.total + rows_in (tables (drop l.input-index l.inputs)) ≡ rows_in (tables l.inputs);
  few : l.total ≤ 4194304 * l.input-index;
}
