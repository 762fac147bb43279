use Rattle.steal_workers.{specs.Lists.IsListed, proofs.Holding.worked_held, proofs.Listing.not_listed}
use Rattle.steal_workers.proofs.hand.work_node.Goals as goal

pub returns-clause-held : goal.returns-clause-held
returns-clause-held g c =
    let kept = c.args.kept.now.nodes.items in
    let told = c.in_ok-work.ensures in
    worked_held c.args.claims.now.plan c.args.seat.now.view c.work.new.seat.view c.args.node c.work.new.ready.nodes.items (IsListed kept) (not_listed kept c.args.node c.requires.fresh)
    c.requires.held told.settled told.ready told.came told.others
