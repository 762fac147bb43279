use Rattle.std.proofs.Common.{◌+◌, ◌<◌, ap, sym, ◌∙◌, refl, subst, arith, get_or, false}
use Rattle.std.proofs.lemmas.List.{get_or_default}
use Rattle.graph_words.{specs.Seats.IsSeatOf, specs.Views.first_view}
use Rattle.tick_model.specs.Evaluation.{is_source}
use Rattle.update_graph.{specs.Holdings.IsOpened, specs.Tags.no_node, proofs.Claimed.{node_within, operator_is}, proofs.FirstSeat.{opened_back, opened_first, opened_held, opened_skip}, proofs.Numbering.{next_source, no_next_source}, proofs.first_seat.open_sources.Goals.{then-is_source+in_ok-work+in_ok-open_source+in-None-1, then-is_source+in_ok-work+in_ok-open_source+in-Some-1, else-is_source}, proofs.WorkSent.sent}
use Rattle.update_graph.proofs.first_seat.open_sources.Goals as goal

pub loop-node-init : goal.loop-node-init
loop-node-init c = record {
  of = c.requires.of;
  opened = subst (λ v. IsOpened c.args.context.now.run.now c.args.claims.now.plan v 0 c.new-ready.result.nodes.items) (sym c.requires.first) (subst (IsOpened c.args.context.now.run.now c.args.claims.now.plan (first_view c.args.claims.now.plan) 0) (sym c.new-ready.ensures) (opened_first c.args.context.now.run.now c.args.claims.now.plan c.requires.claimed));
  place = refl;
}

pub loop-node-preserved : goal.loop-node-preserved
loop-node-preserved c =
    let run = c.args.context.now.run.now in
    let plan = c.args.claims.now.plan in
    let n = c.loop-node.node in
    let within : n < plan.nodes = omega (arith, c.loop-node-test.true, c.nodes-node-end.ensures) in
    let inside = node_within run plan c.requires.claimed n within in
    let there = c.index-nodes-node.is ∙ ap (λ l. get_or l n c.index-nodes-node.result) c.as_slice-nodes.ensures in
    let node = there ∙ get_or_default run.plan.nodes n c.index-nodes-node.result no_node inside in
    let xs = c.if-is_source.ready.nodes.items in
    elim c.if-is_source.branch [
      | then-is_source+in_ok-work+in_ok-open_source+in-None-1 w ↦ record {
        of = subst (λ s. IsSeatOf c.args.claims.now s) (sym w.seat-is) w.in_ok-open_source.ensures.of;
        opened =
            subst (λ s. IsOpened run plan s.view (n + 1) xs) (sym w.seat-is)
            (subst (λ r. IsOpened run plan w.open_source.new.seat.view (n + 1) r.nodes.items) (sym w.ready-is) w.in_ok-open_source.ensures.opened);
        place =
            w.place-is ∙ ap (λ k. k + 1) c.loop-node.invariant.place
            ∙ sym (next_source run.plan.nodes n inside (ap is_source (sym node) ∙ sym c.is_source.ensures ∙ w.if-is_source.true));
      }
      | then-is_source+in_ok-work+in_ok-open_source+in-Some-1 w ↦ record {
        of = subst (λ s. IsSeatOf c.args.claims.now s) (sym w.seat-is) w.in_ok-open_source.ensures.of;
        opened =
            subst (λ s. IsOpened run plan s.view (n + 1) xs) (sym w.seat-is)
            (subst (λ r. IsOpened run plan w.open_source.new.seat.view (n + 1) r.nodes.items) (sym w.ready-is) w.in_ok-open_source.ensures.opened);
        place =
            w.place-is ∙ ap (λ k. k + 1) c.loop-node.invariant.place
            ∙ sym (next_source run.plan.nodes n inside (ap is_source (sym node) ∙ sym c.is_source.ensures ∙ w.if-is_source.true));
      }
      | else-is_source w ↦ record {
        of = subst (λ s. IsSeatOf c.args.claims.now s) (sym w.seat-is) c.loop-node.invariant.of;
        opened =
            subst (λ s. IsOpened run plan s.view (n + 1) xs) (sym w.seat-is)
            (subst (λ r. IsOpened run plan c.loop-node.seat.view (n + 1) r.nodes.items) (sym w.ready-is)
            (opened_skip run plan c.requires.claimed c.loop-node.seat.view n c.loop-node.ready.nodes.items c.loop-node.invariant.opened (operator_is run n c.index-nodes-node.result false inside there (sym w.if-is_source.false ∙ c.is_source.ensures))));
        place = w.place-is ∙ c.loop-node.invariant.place ∙ sym (no_next_source run.plan.nodes n inside (ap is_source (sym node) ∙ sym c.is_source.ensures ∙ w.if-is_source.false));
      }
    ]

pub returns-clause-held : goal.returns-clause-held
returns-clause-held c =
    opened_held c.args.context.now.run.now c.args.claims.now.plan c.requires.claimed c.loop-node.seat.view c.loop-node.node c.loop-node.ready.nodes.items c.loop-node.invariant.opened (omega (arith, c.loop-node-test.false, c.nodes-node-end.ensures))

pub returns-clause-sources : goal.returns-clause-sources
returns-clause-sources c =
    opened_back c.args.context.now.run.now c.args.claims.now.plan c.requires.claimed c.loop-node.seat.view c.loop-node.node c.loop-node.ready.nodes.items c.loop-node.invariant.opened (omega (arith, c.loop-node-test.false, c.nodes-node-end.ensures))

pub nodes-node-end-requires-send-W : goal.nodes-node-end-requires-send-W
nodes-node-end-requires-send-W c κs = search sent depth 60 fits 20000
