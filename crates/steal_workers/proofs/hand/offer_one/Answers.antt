use Rattle.steal_workers.{specs.Lists.IsListed, proofs.Holding.{offered_held, offered_on}, proofs.Listing.not_listed}
use Rattle.steal_workers.proofs.hand.offer_one.Goals as goal

pub returns-clause-held : goal.returns-clause-held
returns-clause-held g c =
    let rest = c.args.rest.now.nodes.items in
    offered_held c.args.claims.now.plan c.args.seat.now.view c.offer.new.seat.view c.args.node (IsListed rest) (not_listed rest c.args.node c.requires.fresh) c.requires.held c.offer.ensures.view

pub returns-clause-on : goal.returns-clause-on
returns-clause-on g c =
    let rest = c.args.rest.now.nodes.items in
    offered_on c.args.claims.now.plan c.args.seat.now.view c.offer.new.seat.view c.args.node (IsListed rest) (not_listed rest c.args.node c.requires.fresh) c.requires.held c.offer.ensures.view
