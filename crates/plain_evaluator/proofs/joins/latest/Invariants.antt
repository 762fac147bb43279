use Rattle.std.proofs.Common.{◌≡◌, take}
use Rattle.std.specs.Option.{option_copied}
use Rattle.tick_model.specs.AsOf.{latest, not_later}
use Rattle.plain_evaluator.proofs.joins.latest.Given as goal

abbrev pub invariant-loop-right : goal.invariant-loop-right
invariant-loop-right l = option_copied l.best ≡ latest l.at.right (not_later l.on l.at (take l.right-index l.rows) l.left)
