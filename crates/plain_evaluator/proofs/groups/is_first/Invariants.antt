use Rattle.std.proofs.Common.{◌≡◌, drop}
use Rattle.tick_model.specs.Agg.{is_first}
use Rattle.plain_evaluator.proofs.groups.is_first.Given as goal

abbrev pub invariant-loop-other : goal.invariant-loop-other
invariant-loop-other l = is_first l.by (drop l.other-index l.rows) l.row ≡ is_first l.by l.rows l.row
