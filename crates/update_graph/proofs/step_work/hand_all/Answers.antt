use Rattle.std.proofs.Common.{◌≡◌, ◌+◌, ◌<◌, ◌∙◌, sym, ap, ap₂, subst, arith, length, get_or}
use Rattle.std.proofs.lemmas.Bool.{eqb-true}
use Rattle.steal_workers.proofs.Holding.{has_mark}
use lib.ListN.{get_elem?}
use Rattle.graph_words.{specs.Marks.at, specs.declared.table.Mark.TheVariants.PutBack}
use Rattle.update_graph.{specs.Edges.{comes_from, numbers_of}, specs.Steps.IsHanding, specs.Tags.tag, proofs.CrewNodes.{handing_had, handing_more, handing_none, handing_past}, proofs.Walking.{along_end, along_first, along_next, along_past, next_passes, next_there, no_edge}}
use Rattle.update_graph.proofs.step_work.hand_all.Goals as goal

pub to-to-requires : goal.to-to-requires
to-to-requires c =
    let next = along_next c.outputs-numbers.result.now c.loop-number.number-index c.loop-number-test.true c.loop-number.invariant.along (handing_past _ _ _ _ _ _) in
    subst (λ l. get_or c.outputs-numbers.result.now c.loop-number.number-index 0 < length l) (sym c.requires.edges) next.within

pub hand_over-requires-clause-edge : goal.hand_over-requires-clause-edge
hand_over-requires-clause-edge c =
    let next = along_next c.outputs-numbers.result.now c.loop-number.number-index c.loop-number-test.true c.loop-number.invariant.along (handing_past _ _ _ _ _ _) in
    next.within

pub hand_over-requires-clause-to : goal.hand_over-requires-clause-to
hand_over-requires-clause-to c x there =
    let number = get_or c.outputs-numbers.result.now c.loop-number.number-index 0 in
    let own = ap (λ l. get_elem? l number) c.requires.edges ∙ there in
    let ends = c.requires.ends number x own in
    (sym (c.to-to.ensures x own), ends.0, ends.1)

pub hand_over-requires-clause-from : goal.hand_over-requires-clause-from
hand_over-requires-clause-from c x there =
    let next = along_next c.outputs-numbers.result.now c.loop-number.number-index c.loop-number-test.true c.loop-number.invariant.along (handing_past _ _ _ _ _ _) in
    let v = c.loop-number.seat.view in
    subst (λ m. at v.nodes m ≡ PutBack) (sym (eqb-true x.from c.args.node (next_passes next x there)))
    (next.holds.listing.stays c.args.node (has_mark (at c.args.seat.now.view.nodes c.args.node) PutBack c.requires.back tt) ∙ c.requires.back)

pub hand_over-requires-clause-fresh : goal.hand_over-requires-clause-fresh
hand_over-requires-clause-fresh c =
    let number = get_or c.outputs-numbers.result.now c.loop-number.number-index 0 in
    let next = along_next c.outputs-numbers.result.now c.loop-number.number-index c.loop-number-test.true c.loop-number.invariant.along (handing_past _ _ _ _ _ _) in
    let edge = get_or c.args.claims.now.plan.edges.items number no_edge in
    next.holds.listing.later number (omega arith) ∙ c.requires.untouched number edge (ap (λ l. get_elem? l number) c.requires.edges ∙ next_there next) (eqb-true edge.from c.args.node next.passes)

pub hand_over-requires-clause-share : goal.hand_over-requires-clause-share
hand_over-requires-clause-share c x there =
    let next = along_next c.outputs-numbers.result.now c.loop-number.number-index c.loop-number-test.true c.loop-number.invariant.along (handing_past _ _ _ _ _ _) in
    c.in_ok-copy.ensures ∙ c.requires.share ∙ ap₂ (λ r n. tag r (c.args.claims.now.plan.first.value.step + 1) n) c.requires.run (sym (eqb-true x.from c.args.node (next_passes next x there)))

pub hand_over-requires-clause-below : goal.hand_over-requires-clause-below
hand_over-requires-clause-below c =
    let number = get_or c.outputs-numbers.result.now c.loop-number.number-index 0 in
    let next = along_next c.outputs-numbers.result.now c.loop-number.number-index c.loop-number-test.true c.loop-number.invariant.along (handing_past _ _ _ _ _ _) in
    let edge = get_or c.args.claims.now.plan.edges.items number no_edge in
    let own = ap (λ l. get_elem? l number) c.requires.edges ∙ next_there next in
    subst (λ n. n < 256) (sym (c.to-to.ensures edge own)) (c.requires.below number edge own)

pub hand_over-requires-clause-listed : goal.hand_over-requires-clause-listed
hand_over-requires-clause-listed c =
    let next = along_next c.outputs-numbers.result.now c.loop-number.number-index c.loop-number-test.true c.loop-number.invariant.along (handing_past _ _ _ _ _ _) in
    handing_had _ _ _ _ _ _ _ next.holds c.requires.listed

pub loop-number-init : goal.loop-number-init
loop-number-init c = record {
  of = c.requires.of;
  along = along_first c.outputs-numbers.result.now (c.outputs-numbers.ensures ∙ ap (numbers_of (comes_from c.args.node) 0) c.requires.edges)
      (handing_none c.args.claims.now.plan c.args.seat.now.view c.args.node c.args.ready.now.nodes.items);
}

pub loop-number-preserved : goal.loop-number-preserved
loop-number-preserved c =
    let number = get_or c.outputs-numbers.result.now c.loop-number.number-index 0 in
    let next = along_next c.outputs-numbers.result.now c.loop-number.number-index c.loop-number-test.true c.loop-number.invariant.along (handing_past _ _ _ _ _ _) in
    let edge = get_or c.args.claims.now.plan.edges.items number no_edge in
    let own = ap (λ l. get_elem? l number) c.requires.edges ∙ next_there next in
    let ends = c.requires.ends number edge own in
    record {
      of = c.hand_over.ensures.of;
      along = along_past next (handing_more c.args.claims.now.plan c.args.seat.now.view c.args.node c.args.ready.now.nodes.items _ c.hand_over.new.seat.view number c.to-to.result edge _ c.hand_over.new.ready.nodes.items
          next.holds c.hand_over.ensures.over (next_there next) (eqb-true edge.from c.args.node next.passes) (sym (c.to-to.ensures edge own)) ends.0 ends.1);
    }

pub returns-clause-handed : goal.returns-clause-handed
returns-clause-handed c =
    subst (λ l. IsHanding c.args.claims.now.plan c.args.seat.now.view c.loop-number.seat.view c.args.node (length l) c.args.ready.now.nodes.items c.loop-number.ready.nodes.items) (sym c.requires.edges)
    (along_end c.outputs-numbers.result.now c.loop-number.number-index c.loop-number-test.false c.loop-number.invariant.along (handing_past _ _ _ _ _ _))
