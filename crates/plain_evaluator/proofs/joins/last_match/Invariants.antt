use Rattle.std.proofs.Common.{◌≡◌, take}
use Rattle.std.specs.Option.{option_copied}
use Rattle.tick_model.{specs.Join.{matches, chosen}, specs.declared.plan.Choice.TheVariants.Last}
use Rattle.plain_evaluator.proofs.joins.last_match.Given as goal

abbrev pub invariant-loop-right : goal.invariant-loop-right
invariant-loop-right l = option_copied l.last ≡ chosen Last (matches l.on (take l.right-index l.rows) l.left)
