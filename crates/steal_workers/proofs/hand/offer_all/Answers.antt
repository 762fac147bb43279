use Rattle.std.proofs.Common.{rules}
use Rattle.steal_workers.proofs.Holding.{popped_held}
use Rattle.steal_workers.proofs.hand.offer_all.Goals as goal

pub offer_one-requires-clause-held : goal.offer_one-requires-clause-held
offer_one-requires-clause-held g c κs within = popped_held c.args.claims.now.plan c.loop-node.seat.view c.loop-node.found.nodes.items c.pop.new.self.nodes.items c.in-Some.node (search rules) c.loop-node.invariant.held
