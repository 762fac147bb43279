use Rattle.std.proofs.Common.{◌+◌, ◌<◌, ◌∙◌, sym, ap, subst, arith, length, get_or, map}
use Rattle.std.{proofs.lemmas.Bool.eqb-true, proofs.lemmas.List.take_all}
use Rattle.steal_workers.proofs.Holding.{has_mark}
use lib.ListN.{get_elem?}
use Rattle.graph_words.{specs.Marks.at, specs.Seats.Has}
use Rattle.update_graph.{specs.Edges.froms_to, specs.Tags.tag, proofs.ClaimedWorks.as_tag, proofs.Handing.{taken_more, taken_past, taking_none}, proofs.Walking.{along_end, along_first, along_next, along_past, next_passes, next_there, no_edge}, proofs.WorkSent.sent}
use Rattle.update_graph.proofs.worker.take_shares.Goals as goal

pub take_share-share-requires-clause-edge : goal.take_share-share-requires-clause-edge
take_share-share-requires-clause-edge c κs =
    let next = along_next c.inputs-numbers.result.now c.loop-number.number-index c.loop-number-test.true c.loop-number.invariant.along (taken_past _ _ _ _ _ _) in
    subst (λ l. get_or c.inputs-numbers.result.now c.loop-number.number-index 0 < length l) c.requires.edges next.within

pub take_share-share-requires-clause-to : goal.take_share-share-requires-clause-to
take_share-share-requires-clause-to c κs x there =
    let number = get_or c.inputs-numbers.result.now c.loop-number.number-index 0 in
    let next = along_next c.inputs-numbers.result.now c.loop-number.number-index c.loop-number-test.true c.loop-number.invariant.along (taken_past _ _ _ _ _ _) in
    let v = c.loop-number.seat.view in
    subst (λ m. Has v m) (sym (eqb-true x.to c.args.node (next_passes next x (ap (λ l. get_elem? l number) c.requires.edges ∙ there))))
    (has_mark (at v.nodes c.args.node) (at c.args.seat.now.view.nodes c.args.node) (ap (λ l. at l c.args.node) next.holds.0.nodes) c.requires.has)

pub take_share-share-requires-clause-fresh : goal.take_share-share-requires-clause-fresh
take_share-share-requires-clause-fresh c κs =
    let number = get_or c.inputs-numbers.result.now c.loop-number.number-index 0 in
    let next = along_next c.inputs-numbers.result.now c.loop-number.number-index c.loop-number-test.true c.loop-number.invariant.along (taken_past _ _ _ _ _ _) in
    let edge = get_or c.args.edges.now number no_edge in
    next.holds.0.later number (omega arith) ∙ c.requires.untouched number edge (next_there next) (eqb-true edge.to c.args.node next.passes)

pub loop-number-init : goal.loop-number-init
loop-number-init c = record {
  of = c.requires.of;
  along = along_first c.inputs-numbers.result.now c.inputs-numbers.ensures (taking_none c.args.edges.now c.args.seat.now.view c.args.node, c.new-shares.ensures);
}

pub loop-number-preserved : goal.loop-number-preserved
loop-number-preserved c =
    let number = get_or c.inputs-numbers.result.now c.loop-number.number-index 0 in
    let next = along_next c.inputs-numbers.result.now c.loop-number.number-index c.loop-number-test.true c.loop-number.invariant.along (taken_past _ _ _ _ _ _) in
    let edge = get_or c.args.edges.now number no_edge in
    let first = c.args.claims.now.plan.first.value in
    let t = c.take_share-share.ensures.tag edge (ap (λ l. get_elem? l number) (sym c.requires.edges) ∙ next_there next) in
    record {
      of = c.take_share-share.ensures.of;
      along = along_past next (taken_more c.args.edges.now c.args.seat.now.view c.args.node (tag first.run (first.step + 1)) _ c.take_share-share.new.seat.view _ _ c.take_share-share.result number next.within next.passes next.holds
          c.take_share-share.ensures.view (as_tag c.take_share-share.result first.run (first.step + 1) edge.from t.0 t.1 t.2) c.in_ok-push.ensures);
    }

pub returns-clause-taken : goal.returns-clause-taken
returns-clause-taken c =
    let end = along_end c.inputs-numbers.result.now c.loop-number.number-index c.loop-number-test.false c.loop-number.invariant.along (taken_past _ _ _ _ _ _) in
    end.0

pub returns-clause-shares : goal.returns-clause-shares
returns-clause-shares c =
    let end = along_end c.inputs-numbers.result.now c.loop-number.number-index c.loop-number-test.false c.loop-number.invariant.along (taken_past _ _ _ _ _ _) in
    let edges = c.args.edges.now in
    let first = c.args.claims.now.plan.first.value in
    end.1 ∙ ap (λ l. map (tag first.run (first.step + 1)) (froms_to c.args.node l)) (take_all (length edges) edges (omega arith))

pub take_share-share-requires-send-W : goal.take_share-share-requires-send-W
take_share-share-requires-send-W c κs = search sent depth 60 fits 20000
