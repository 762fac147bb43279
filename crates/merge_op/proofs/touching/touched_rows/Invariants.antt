use Rattle.std.proofs.Common.{drop}
use Rattle.table_operator.specs.Inputs.{tables}
use Rattle.merge_op.proofs.Going.{IsGathered}
use Rattle.merge_op.proofs.touching.touched_rows.Given as goal

abbrev pub invariant-loop-input : goal.invariant-loop-input
invariant-loop-input l = IsGathered (tables l.inputs) (tables (drop l.input-index l.inputs)) l.start.before l.start.now l.gathered.removed l.gathered.added l.gathered.before l.gathered.now l.gathered.shift
