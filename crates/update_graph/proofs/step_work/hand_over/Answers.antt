use Rattle.std.proofs.Common.{◌≡◌, sym, subst, get_or, Some, None, append-nil, ℕ, Bool}
use Rattle.graph_words.{specs.declared.graph.ClaimPlan.ClaimPlan, specs.declared.table.Mark.TheVariants.{Delivered, Unmarked}, specs.declared.table.SeatView.SeatView, specs.Marks.at, specs.Views.{IsUntouched, gets, mark_late, mark_out}}
use Rattle.steal_workers.proofs.Listing.{unlisted}
use Rattle.update_graph.{specs.Tags.Kept, proofs.Handing.{delivered_last, delivered_only, had_marked}, proofs.PlanEdges.item_there, proofs.Walking.no_edge, proofs.WorkSent.sent}
use Rattle.update_graph.proofs.step_work.hand_over.Goals as goal

-- the view after the delivery, where the edge goes to this node
view_to : (u v : SeatView Kept) (edge far to : ℕ) (made : Bool) → far ≡ to → v ≡ gets made far (mark_out (mark_late u edge Delivered) edge Delivered) → v ≡ gets made to (mark_out (mark_late u edge Delivered) edge Delivered)
view_to u v edge far to made is eq = subst (λ m. v ≡ gets made m (mark_out (mark_late u edge Delivered) edge Delivered)) is eq

fresh_to : (u : SeatView Kept) (far to : ℕ) → far ≡ to → at u.nodes far ≡ Unmarked → at u.nodes to ≡ Unmarked
fresh_to u far to is none = subst (λ m. at u.nodes m ≡ Unmarked) is none

clean_to : (plan : ClaimPlan Kept) (u : SeatView Kept) (far to : ℕ) → far ≡ to → IsUntouched plan u far → IsUntouched plan u to
clean_to plan u far to is clean = subst (λ m. IsUntouched plan u m) is clean

pub add-requires-clause-fresh : goal.add-requires-clause-fresh
add-requires-clause-fresh c =
    let plan = c.args.claims.now.plan in
    let u = c.args.seat.now.view in
    let x = get_or plan.edges.items c.args.edge no_edge in
    let here = item_there plan.edges.items c.args.edge no_edge c.requires.edge in
    let goes = (c.requires.to x here).0 in
    let fresh = fresh_to u x.to c.args.to goes (c.hand_on.ensures.fresh x here).0 in
    unlisted c.args.ready.now.nodes.items c.args.to (λ there. had_marked (at u.nodes c.args.to) (c.requires.listed c.args.to there) fresh)

pub returns-then-hand_on-clause-over : goal.returns-then-hand_on-clause-over
returns-then-hand_on-clause-over c =
    let plan = c.args.claims.now.plan in
    let u = c.args.seat.now.view in
    let v = c.hand_on.new.seat.view in
    let x = get_or plan.edges.items c.args.edge no_edge in
    let here = item_there plan.edges.items c.args.edge no_edge c.requires.edge in
    let goes = (c.requires.to x here).0 in
    let fresh = c.hand_on.ensures.fresh x here in
    record {
      found = Some c.args.to;
      delivered =
          delivered_last plan u v c.args.edge c.args.to c.hand_on.result (view_to u v c.args.edge x.to c.args.to c.hand_on.result goes (c.hand_on.ensures.view x here)) c.if-hand_on.true
          (fresh_to u x.to c.args.to goes fresh.0) (clean_to plan u x.to c.args.to goes fresh.1);
      listed = c.add.ensures;
    }

pub returns-else-hand_on-clause-over : goal.returns-else-hand_on-clause-over
returns-else-hand_on-clause-over c =
    let plan = c.args.claims.now.plan in
    let u = c.args.seat.now.view in
    let v = c.hand_on.new.seat.view in
    let x = get_or plan.edges.items c.args.edge no_edge in
    let here = item_there plan.edges.items c.args.edge no_edge c.requires.edge in
    let goes = (c.requires.to x here).0 in
    record {
      found = None;
      delivered = delivered_only plan u v c.args.edge c.args.to c.hand_on.result (view_to u v c.args.edge x.to c.args.to c.hand_on.result goes (c.hand_on.ensures.view x here)) c.if-hand_on.false;
      listed = sym (append-nil c.args.ready.now.nodes.items);
    }

pub hand_on-requires-send-W : goal.hand_on-requires-send-W
hand_on-requires-send-W c κs = search sent depth 60 fits 20000
