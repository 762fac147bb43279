use Rattle.std.proofs.Common.{ap, subst, ◌∙◌, ◌<◌, ◌+◌, sym, length}
use Rattle.std.specs.Prelude.{filter}
use lib.ListN.{get_elem?}
use Rattle.graph_words.specs.Seats.{HasEachOnce}
use Rattle.update_graph.{specs.Tags.is_operator, proofs.Claimed.run_is, proofs.ClaimedWorks.works_back, proofs.Sweeping.{each_once, tickets_in_order}, proofs.WorkSent.sent}
use Rattle.update_graph.proofs.crew_step.end_step.Goals as goal

pub operators_in-requires : goal.operators_in-requires
operators_in-requires c i k there = subst (λ n. k < n) c.requires.claimed.nodes (c.in_ok-works.ensures.once.below i k (ap (λ l. get_elem? l i) (sym c.as_slice.ensures.value) ∙ there))

pub returns-clause-works : goal.returns-clause-works
returns-clause-works c =
    let run = c.args.context.now.run.now in
    let plan = c.args.claims.plan in
    works_back run (plan.first.value.step + 1) (length run.plan.nodes) c.in_ok-works.works.items (sym c.in_ok-works.works.ok.0 ∙ c.in_ok-works.ensures.len ∙ c.requires.claimed.nodes)
    (λ n w there. let t = c.in_ok-works.ensures.tags n w there in (t.0 ∙ run_is run plan c.requires.claimed, t.1, t.2))

pub returns-clause-follows : goal.returns-clause-follows
returns-clause-follows c n old new at_old at_new = c.in_ok-works.ensures.follows n new at_new old at_old

pub returns-clause-ran : goal.returns-clause-ran
returns-clause-ran c =
    each_once c.args.context.now.run.now c.in_ok-works.order.items c.in_ok-ran.ran.items (c.in_ok-ran.ensures ∙ ap (filter (is_operator c.args.context.now.run.now)) c.as_slice.ensures.value) (subst (λ n. HasEachOnce n c.in_ok-works.order.items) c.requires.claimed.nodes c.in_ok-works.ensures.once)

pub returns-clause-order : goal.returns-clause-order
returns-clause-order c =
    tickets_in_order c.args.context.now.run.now c.in_ok-works.order.items c.in_ok-ran.ran.items (c.in_ok-ran.ensures ∙ ap (filter (is_operator c.args.context.now.run.now)) c.as_slice.ensures.value) (λ e i j x there at_from at_to.
    let own = ap (λ l. get_elem? l e) c.requires.claimed.edges ∙ there in
    c.in_ok-works.ensures.inputs e i j x own (c.requires.late e x own) at_from at_to)

pub finish_in_order-requires-send-W : goal.finish_in_order-requires-send-W
finish_in_order-requires-send-W c κs = search sent depth 60 fits 20000
