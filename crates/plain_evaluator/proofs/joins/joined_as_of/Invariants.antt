use Rattle.std.proofs.Common.{◌≡◌, map, take}
use Rattle.tick_model.{specs.Join.joined, specs.AsOf.{latest, not_later}}
use Rattle.plain_evaluator.proofs.joins.joined_as_of.Given as goal

abbrev pub invariant-loop-row : goal.invariant-loop-row
invariant-loop-row l = l.rows ≡ map (joined l.take (λ row. latest l.at.right (not_later l.on l.at l.right.rows row))) (take l.row-index l.left.rows)
