use Rattle.std.proofs.Common.{map, ◌+◌, ◌<◌, ◌∙◌, sym, ap, subst, length}
use Rattle.steal_workers.proofs.Holding.{has_mark}
use lib.ListN.{get_elem?}
use Rattle.graph_words.{specs.declared.table.Mark.TheVariants.Untaken, specs.Marks.at}
use Rattle.update_graph.{specs.Edges.froms_to, specs.Tags.tag, proofs.Claimed.{few_of_step, shares_taken, work_taken}, proofs.Handing.begun_is, proofs.WorkSent.sent}
use Rattle.update_graph.proofs.worker.begin_node.Goals as goal

pub take_shares-requires-clause-few : goal.take_shares-requires-clause-few
take_shares-requires-clause-few c = subst (λ l. length l < 4294967296) (sym c.requires.edges) (few_of_step c.args.run.now c.args.claims.now.plan c.requires.claims)

pub take_shares-requires-clause-has : goal.take_shares-requires-clause-has
take_shares-requires-clause-has c = has_mark (at c.args.seat.now.view.nodes c.args.node) Untaken c.requires.new.untaken tt

pub take_shares-requires-clause-untouched : goal.take_shares-requires-clause-untouched
take_shares-requires-clause-untouched c e x there is = (c.requires.new.untouched e x (ap (λ l. get_elem? l e) (sym c.requires.edges) ∙ there)).1 is

pub take_work-work-requires-clause-node : goal.take_work-work-requires-clause-node
take_work-work-requires-clause-node c κs = c.requires.node.0

pub take_work-work-requires-clause-whole : goal.take_work-work-requires-clause-whole
take_work-work-requires-clause-whole c κs = ap (λ l. at l c.args.node) c.in_ok-shares.ensures.taken.nodes ∙ c.requires.new.untaken

pub returns-clause-begun : goal.returns-clause-begun
returns-clause-begun c =
    begun_is c.args.claims.now.plan c.args.edges.now c.args.seat.now.view c.take_shares.new.seat.view c.take_work-work.new.seat.view c.args.node (length c.args.edges.now) c.requires.edges c.in_ok-shares.ensures.taken c.take_work-work.ensures.view

pub returns-clause-work : goal.returns-clause-work
returns-clause-work c = let t = c.take_work-work.ensures.tag in work_taken c.args.run.now c.args.claims.now.plan c.requires.claims c.take_work-work.result c.args.node t.0 t.1 t.2

pub returns-clause-shares : goal.returns-clause-shares
returns-clause-shares c =
    let plan = c.args.claims.now.plan in
    shares_taken c.args.run.now plan c.requires.claims c.in_ok-shares.shares c.args.node c.requires.node.1 (c.in_ok-shares.ensures.shares ∙ ap (λ l. map (tag plan.first.value.run (plan.first.value.step + 1)) (froms_to c.args.node l)) c.requires.edges)

pub take_work-work-requires-send-W : goal.take_work-work-requires-send-W
take_work-work-requires-send-W c κs = search sent depth 60 fits 20000
