use Rattle.std.proofs.Common.{◌≡◌, drop}
use Rattle.std.specs.Prelude.{filter_map}
use Rattle.tick_model.specs.Join.{matches, duplicate}
use Rattle.plain_evaluator.proofs.joins.first_duplicate.Given as goal

abbrev pub invariant-loop-row : goal.invariant-loop-row
invariant-loop-row l = filter_map (λ row. duplicate row (matches l.on l.right row)) (drop l.row-index l.left) ≡ filter_map (λ row. duplicate row (matches l.on l.right row)) l.left
