use Rattle.std.proofs.Common.{◌≡◌, map, take}
use Rattle.tick_model.specs.View.{view_row}
use Rattle.plain_evaluator.proofs.views.viewed.Given as goal

abbrev pub invariant-loop-row : goal.invariant-loop-row
invariant-loop-row l = l.rows ≡ map (view_row l.exprs) (take l.row-index l.input.rows)
