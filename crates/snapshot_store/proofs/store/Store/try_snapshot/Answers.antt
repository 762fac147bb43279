use Rattle.std.proofs.Common.{◌∙◌}
use Rattle.snapshot_store.proofs.Calls.{by_attempt, by_turn, moved_more}
use Rattle.snapshot_store.proofs.store.Store.try_snapshot.Goals as goal

pub loop-tried-preserved : goal.loop-tried-preserved
loop-tried-preserved c = record {
  own = c.attempt.ensures.own;
  moved = moved_more c.args.self.now.run c.args.number c.loop-tried.tried c.args.caller.now.looks c.loop-tried.caller c.attempt.new.caller c.attempt.result c.in_default.field-0 c.in_default.field-1 c.loop-tried.invariant.moved c.attempt.ensures.attempt c.in_default.is;
  refusals = c.attempt.ensures.refusals ∙ c.loop-tried.invariant.refusals;
}
