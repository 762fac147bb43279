use Rattle.std.proofs.Common.{◌≡◌, drop}
use Rattle.tick_model.specs.Agg.{same_group}
use Rattle.plain_evaluator.proofs.groups.same_group.Given as goal

abbrev pub invariant-loop-column : goal.invariant-loop-column
invariant-loop-column l = same_group (drop l.column-index l.by) l.row l.other ≡ same_group l.by l.row l.other
