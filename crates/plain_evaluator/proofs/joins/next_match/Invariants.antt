use Rattle.std.proofs.Common.{◌≡◌, drop}
use Rattle.tick_model.specs.Join.{matches}
use Rattle.plain_evaluator.proofs.joins.next_match.Given as goal

abbrev pub invariant-loop-i : goal.invariant-loop-i
invariant-loop-i l = matches l.on (drop l.i l.rows) l.left ≡ matches l.on l.rows l.left
