use Rattle.std.proofs.Common.{rules, ◌∙◌}
use Rattle.steal_workers.{proofs.Holding.{emptied_held, gone_on, off_held}, proofs.Listing.{apart_after, apart_before}}
use Rattle.steal_workers.proofs.hand.pass_on.Goals as goal

pub pass_node-requires-clause-held : goal.pass_node-requires-clause-held
pass_node-requires-clause-held g c κs within =
    let i = c.loop-node.invariant in
    off_held c.args.claims.now.plan c.loop-node.seat.view c.loop-node.kept.nodes.items c.loop-node.found.nodes.items c.pop.new.self.nodes.items _ (search rules) i.held

pub pass_node-requires-clause-apart : goal.pass_node-requires-clause-apart
pass_node-requires-clause-apart g c κs within =
    let i = c.loop-node.invariant in
    (apart_before c.loop-node.kept.nodes.items c.loop-node.found.nodes.items c.pop.new.self.nodes.items _ (search rules) i.apart, search rules)

pub loop-node-preserved : goal.loop-node-preserved
loop-node-preserved g c =
    let i = c.loop-node.invariant in
    record {
      of = c.pass_node.ensures.of;
      held = c.pass_node.ensures.held;
      apart = apart_after c.loop-node.kept.nodes.items c.loop-node.found.nodes.items c.pop.new.self.nodes.items c.in-Some.node (search rules) i.apart c.pass_node.new.kept.nodes.items (search rules) c.pass_node.ensures.kept;
      on = gone_on c.args.seat.now.view c.loop-node.seat.view c.pass_node.new.seat.view i.on c.pass_node.ensures.on;
      own = (c.pass_node.ensures.own.0 ∙ i.own.0, c.pass_node.ensures.own.1 ∙ i.own.1);
    }

pub returns-clause-held : goal.returns-clause-held
returns-clause-held g c =
    let i = c.loop-node.invariant in
    emptied_held c.args.claims.now.plan c.loop-node.seat.view c.loop-node.kept.nodes.items c.loop-node.found.nodes.items (search rules) i.held
