use Rattle.steal_workers.proofs.Listing.{popped_below, popped_distinct, popped_fresh, popped_last}
use Rattle.steal_workers.proofs.ready.Ready.pop.Goals as goal

pub invariant_of-self : goal.invariant_of-self
invariant_of-self c = record {
  distinct = popped_distinct c.args.self.now.nodes.items c.pop.new.self.items c.pop.result c.pop.ensures.items c.args.self.now.distinct;
  below = popped_below c.args.self.now.nodes.items c.pop.new.self.items c.pop.result c.pop.ensures.items c.args.self.now.below;
}

pub returns-clause-fresh : goal.returns-clause-fresh
returns-clause-fresh c = popped_fresh c.args.self.now.nodes.items c.pop.new.self.items c.pop.result c.pop.ensures.items c.args.self.now.distinct

pub returns-clause-below : goal.returns-clause-below
returns-clause-below c = popped_last c.args.self.now.nodes.items c.pop.new.self.items c.pop.result c.pop.ensures.items c.args.self.now.below
