use Rattle.std.proofs.Common.{inl, inr}
use Rattle.steal_workers.proofs.hand.offer_node.Goals as goal

pub returns-then-push-clause-pushed : goal.returns-then-push-clause-pushed
returns-then-push-clause-pushed g c = inl (c.push.ensures.pushed c.if-push.true)

pub returns-clause-pushed : goal.returns-clause-pushed
returns-clause-pushed g c = inr (c.push.ensures.refused c.if-push.false)
