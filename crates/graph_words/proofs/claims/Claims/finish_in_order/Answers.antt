use Rattle.std.proofs.Common.{ap, sym, ◌<◌, ◌+◌, ◌∙◌, arith, subst, length-set}
use Rattle.std.specs.Mem.Slots.{slots_len}
use lib.ListN.{get_elem?}
use mathlib.Core.Option.{some}
use Rattle.graph_words.{specs.Rule.{FollowsGiven, IsTagged, tags}, specs.Seats.HasEachOnce, proofs.Finals.{works_found, work_found, written_more, written_all, has_each_once, is_after_inputs, is_placed, ticket_below, flags_left, flags_gone, more_tagged}}
use Rattle.graph_words.proofs.claims.Claims.finish_in_order.Goals as goal

pub take-requires : goal.take-requires
take-requires g c =
    let inside : c.works.i < slots_len c.works.closed.slots = omega (arith, c.works-test.true, c.works.invariant.slots, c.close_with-closed.ensures.counts, c.self.invariant.counted, c.self.invariant.keyed.0) in
    (inside, c.works.invariant.filled c.works.i (omega arith) inside)

pub unreachable-requires : goal.unreachable-requires
unreachable-requires g c =
    let w = works_found _ _ _ _ _ _ _ c.close_with-closed.ensures.values.2 (rw (← c.self.view_is, ← c.seat.view_is) at c.requires.all)
    c.works.i (omega (arith, c.works-test.true, c.self.invariant.keyed.0)) c.take.result (ap (λ t. get_elem? t c.works.i) (sym c.works.invariant.items) ∙ c.take.ensures.value) in
    c.in_default.not-Done w.0 _ w.1

pub index_mut-requires : goal.index_mut-requires
index_mut-requires g c =
    let found = work_found _ _ _ _ _ _ _ c.close_with-closed.ensures.values.2 (rw (← c.self.view_is, ← c.seat.view_is) at c.requires.all)
    c.works.i (omega (arith, c.works-test.true, c.self.invariant.keyed.0)) c.take.result (ap (λ t. get_elem? t c.works.i) (sym c.works.invariant.items) ∙ c.take.ensures.value) c.in-Done.work c.in-Done.ticket c.in-Done.is in
    let below = ticket_below _ _ _ _ _ _ _ c.close_with-closed.ensures.values.2 (rw (← c.self.view_is, ← c.seat.view_is) at c.requires.all)
    c.works.i (omega (arith, c.works-test.true, c.self.invariant.keyed.0)) in
    omega (arith, found.1, below, c.works.order.ok, c.works.invariant.long, c.self.invariant.keyed.0)

pub works-preserved : goal.works-preserved
works-preserved g c =
    let at_i = ap (λ t. get_elem? t c.works.i) (sym c.works.invariant.items) ∙ c.take.ensures.value in
    let found = work_found _ _ _ _ _ _ _ c.close_with-closed.ensures.values.2 (rw (← c.self.view_is, ← c.seat.view_is) at c.requires.all)
    c.works.i (omega (arith, c.works-test.true, c.self.invariant.keyed.0)) c.take.result at_i c.in-Done.work c.in-Done.ticket c.in-Done.is in
    let tag = subst (λ k. IsTagged (tags g.W.Tagged.run g.W.Tagged.node g.W.Tagged.step g.W.Tagged.follows) (g.W.Tagged.run k.first.value) c.works.i (g.W.Tagged.step k.first.value + 1) c.in-Done.work) (ap (λ s. s.plan) c.self.view_is) found.0.0 in
    let follows = subst (λ k. FollowsGiven g.W.Tagged.follows k c.works.i c.in-Done.work) (ap (λ s. s.plan) c.self.view_is) found.0.1 in
    record {
      filled = flags_left _ _ _ _ _ c.take.ensures.others.1 c.take.ensures.others.2 c.works.invariant.filled;
      gone = flags_gone _ _ _ c.take.ensures.others.1 c.works.invariant.gone;
      items = c.take.ensures.others.0 ∙ c.works.invariant.items;
      slots = c.take.ensures.others.2 ∙ c.works.invariant.slots;
      count = omega (arith, c.push_reserved.ensures.len, c.works.invariant.count);
      room = omega (arith, c.push_reserved.ensures.capacity, c.works.invariant.room);
      within = omega arith;
      long = length-set c.works.order.items c.in-Done.ticket c.works.i ∙ c.works.invariant.long;
      written = written_more _ _ _ _ _ _ _ c.close_with-closed.ensures.values.2 (rw (← c.self.view_is, ← c.seat.view_is) at c.requires.all)
          c.works.order.items c.works.i c.in-Done.work c.in-Done.ticket (omega (arith, c.works-test.true, c.self.invariant.keyed.0)) (c.works.invariant.long ∙ c.self.invariant.keyed.0) (at_i ∙ ap some c.in-Done.is) c.works.invariant.written;
      tagged = more_tagged (λ n x. IsTagged (tags g.W.Tagged.run g.W.Tagged.node g.W.Tagged.step g.W.Tagged.follows) (g.W.Tagged.run c.args.self.plan.first.value) n (g.W.Tagged.step c.args.self.plan.first.value + 1) x)
          c.works.works.items c.push_reserved.new.self.items c.in-Done.work c.works.i c.push_reserved.ensures.items (omega (arith, c.works.works.ok, c.works.invariant.count)) tag c.works.invariant.tagged;
      follows = more_tagged (λ n x. FollowsGiven g.W.Tagged.follows c.args.self.plan n x)
          c.works.works.items c.push_reserved.new.self.items c.in-Done.work c.works.i c.push_reserved.ensures.items (omega (arith, c.works.works.ok, c.works.invariant.count)) follows c.works.invariant.follows;
    }

pub shares-preserved : goal.shares-preserved
shares-preserved g c = record {
  filled = flags_left _ _ _ _ _ c.take-in-shares.ensures.others.1 c.take-in-shares.ensures.others.2 c.shares.invariant.filled;
  gone = flags_gone _ _ _ c.take-in-shares.ensures.others.1 c.shares.invariant.gone;
}

pub returns-clause-once : goal.returns-clause-once
returns-clause-once g c =
    let written = written_all _ _ _ _ _ _ _ c.close_with-closed.ensures.values.2 (rw (← c.self.view_is, ← c.seat.view_is) at c.requires.all)
    c.works.order.items (λ n w q less. c.works.invariant.written n w q (omega (arith, less, c.works-test.false, c.self.invariant.keyed.0))) in
    let each = has_each_once _ _ _ _ _ _ _ c.close_with-closed.ensures.values.2 (rw (← c.self.view_is, ← c.seat.view_is) at c.requires.all)
    c.works.order.items (c.works.invariant.long ∙ c.self.invariant.keyed.0) written in
    subst (λ n. HasEachOnce n c.works.order.items) (ap (λ s. s.plan.nodes) c.self.view_is) each

pub returns-clause-tickets : goal.returns-clause-tickets
returns-clause-tickets g c =
    let written = written_all _ _ _ _ _ _ _ c.close_with-closed.ensures.values.2 (rw (← c.self.view_is, ← c.seat.view_is) at c.requires.all)
    c.works.order.items (λ n w q less. c.works.invariant.written n w q (omega (arith, less, c.works-test.false, c.self.invariant.keyed.0))) in
    let after = is_placed _ _ _ _ _ _ _ c.close_with-closed.ensures.values.2 (rw (← c.self.view_is, ← c.seat.view_is) at c.requires.all)
    c.works.order.items (c.works.invariant.long ∙ c.self.invariant.keyed.0) written in
    rw (← c.self.view_is, ← c.seat.view_is) after

pub returns-clause-inputs : goal.returns-clause-inputs
returns-clause-inputs g c =
    let written = written_all _ _ _ _ _ _ _ c.close_with-closed.ensures.values.2 (rw (← c.self.view_is, ← c.seat.view_is) at c.requires.all)
    c.works.order.items (λ n w q less. c.works.invariant.written n w q (omega (arith, less, c.works-test.false, c.self.invariant.keyed.0))) in
    let after = is_after_inputs _ _ _ _ _ _ _ c.close_with-closed.ensures.values.2 (rw (← c.self.view_is, ← c.seat.view_is) at c.requires.all)
    c.works.order.items (c.works.invariant.long ∙ c.self.invariant.keyed.0) written in
    rw (← c.self.view_is, ← c.seat.view_is) after
