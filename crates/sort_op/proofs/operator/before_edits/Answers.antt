use Rattle.std.proofs.Common.{subst, sym}
use Rattle.row_set.specs.Sets.{IsKeySet}
use Rattle.sort_op.{specs.Entries.keys_in, specs.Places.AreUnder, specs.Ranks.listed}
use Rattle.sort_op.proofs.operator.before_edits.Goals as goal

pub returns-clause-crossing : goal.returns-clause-crossing
returns-clause-crossing c = subst (AreUnder (keys_in (listed c.args.order.now)) c.args.edits.now.leaving) (sym c.in_ok-places.ensures.crossing) c.in_ok-crossing.ensures.places

pub returns-clause-crossing_set : goal.returns-clause-crossing_set
returns-clause-crossing_set c = subst IsKeySet (sym c.in_ok-places.ensures.crossing) c.in_ok-crossing.ensures.set
