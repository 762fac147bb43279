use Rattle.std.proofs.Common.{◌≡◌, drop}
use Rattle.tick_model.specs.Join.{agree}
use Rattle.plain_evaluator.proofs.joins.agree.Given as goal

abbrev pub invariant-loop-pair : goal.invariant-loop-pair
invariant-loop-pair l = agree (drop l.pair-index l.on) l.left l.right ≡ agree l.on l.left l.right
