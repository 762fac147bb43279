use Rattle.std.proofs.Common.{◌≡◌, filter, take}
use Rattle.tick_model.specs.Agg.{same_group}
use Rattle.plain_evaluator.proofs.groups.group_of.Given as goal

abbrev pub invariant-loop-other : goal.invariant-loop-other
invariant-loop-other l = l.group.items ≡ filter (same_group l.by l.row) (take l.other-index l.rows)
