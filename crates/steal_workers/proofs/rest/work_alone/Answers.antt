use Rattle.steal_workers.proofs.Holding.{found_held, none_kept_held}
use Rattle.steal_workers.proofs.rest.work_alone.Goals as goal

pub work_node-requires-clause-held : goal.work_node-requires-clause-held
work_node-requires-clause-held g c κs within = found_held c.args.claims.now.plan c.args.seat.now.view c.args.node c.new-kept.result.nodes.items c.new-kept.ensures c.requires.held

pub offer_all-requires-clause-held : goal.offer_all-requires-clause-held
offer_all-requires-clause-held g c κs within = none_kept_held c.args.claims.now.plan c.work_node.new.seat.view c.new-kept.result.nodes.items c.work_node.new.found.nodes.items c.new-kept.ensures c.in_ok-work_node.ensures.held
