use Rattle.std.proofs.Common.{rules}
use Rattle.steal_workers.proofs.Holding.{found_cases, popped_held}
use Rattle.steal_workers.proofs.hand.next_node.Goals as goal

pub returns-in-Some-clause-held : goal.returns-in-Some-clause-held
returns-in-Some-clause-held g c = popped_held c.args.claims.now.plan c.args.seat.now.view c.args.kept.now.nodes.items c.pop.new.self.nodes.items _ (search rules) c.requires.held

pub returns-in-None-clause-held : goal.returns-in-None-clause-held
returns-in-None-clause-held g c =
    found_cases c.args.claims.now.plan c.take_own.new.seat.view c.take_own.result c.pop.new.self.nodes.items (search rules) c.take_own.ensures.held
