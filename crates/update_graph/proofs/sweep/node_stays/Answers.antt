use Rattle.std.proofs.Common.{subst, length}
use Rattle.update_graph.{specs.Stands.Stays, specs.Tags.Tag, proofs.Sweeping.is_tag}
use Rattle.update_graph.proofs.sweep.node_stays.Goals as goal

pub returns : goal.returns
returns c stays =
    let shares = c.args.shares.now in
    subst (λ (t : Tag). Stays t.run t.step t.node) (is_tag c.args.run.now c.args.step (length shares) c.args.node shares c.index-shares-node.result c.requires.shares c.requires.node c.index-shares-node.is) (c.stays.ensures stays)
