use Rattle.std.proofs.Common.{◌≡◌, map, take}
use Rattle.tick_model.specs.Join.{matches, chosen, joined}
use Rattle.plain_evaluator.proofs.joins.joined.Given as goal

abbrev pub invariant-loop-row : goal.invariant-loop-row
invariant-loop-row l = l.rows ≡ map (joined l.take (λ row. chosen l.choice (matches l.on l.right.rows row))) (take l.row-index l.left.rows)
