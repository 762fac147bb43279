use Rattle.std.proofs.Common.{◌≡◌, ◌<◌, ◌∙◌, sym, ap, subst, length}
use Rattle.std.specs.Prelude.{IfOk}
use lib.ListN.{get_elem?}
use Rattle.graph_words.specs.Models.{SeatModel}
use Rattle.update_graph.{specs.Crews.StepView, specs.Steps.{IsListing, IsWorked}, specs.Stands.Follows, specs.Tags.{Kept, Tag, named, tag}, proofs.Claimed.{few_of_step, next_tagged, operator_of_step, small_of_step, step_of_view, within_of_step}, proofs.CrewNodes.{handing_all, listed_came, listed_others, listed_settled}, proofs.Following.follows_taken, proofs.Handing.{begun_taken, worked_is}, proofs.WorkSent.sent}
use Rattle.steal_workers.{specs.Lists.IsListed, proofs.Listing.true_false}
use Rattle.update_graph.proofs.step_work.StepWorkNodeWorkWorkShare.work.Goals as goal

pub begin_node-requires-clause-node : goal.begin_node-requires-clause-node
begin_node-requires-clause-node g c =
    let plan = c.args.claims.now.plan in
    let step = step_of_view plan c.self.view_is c.self.invariant c.requires.meant.run c.requires.meant.step c.requires.meant.edges in
    (c.requires.node.within, within_of_step c.self.inside.context.now.run.now plan step c.args.node c.requires.node.input)

pub advanced-worked-requires-clause-node : goal.advanced-worked-requires-clause-node
advanced-worked-requires-clause-node g c =
    let plan = c.args.claims.now.plan in
    let step = step_of_view plan c.self.view_is c.self.invariant c.requires.meant.run c.requires.meant.step c.requires.meant.edges in
    within_of_step c.self.inside.context.now.run.now plan step c.args.node c.requires.node.input

pub advanced-worked-requires-clause-operator : goal.advanced-worked-requires-clause-operator
advanced-worked-requires-clause-operator g c =
    let plan = c.args.claims.now.plan in
    let step = step_of_view plan c.self.view_is c.self.invariant c.requires.meant.run c.requires.meant.step c.requires.meant.edges in
    operator_of_step c.self.inside.context.now.run.now plan step c.args.node c.requires.node.input

pub put_back-requires-clause-taken : goal.put_back-requires-clause-taken
put_back-requires-clause-taken g c κs = begun_taken c.args.claims.now.plan c.look.new.seat.view c.begin_node.new.seat.view c.args.node c.in_ok-work.ensures.begun

pub put_back-requires-clause-tag : goal.put_back-requires-clause-tag
put_back-requires-clause-tag g c κs =
    let plan = c.args.claims.now.plan in
    let step = step_of_view plan c.self.view_is c.self.invariant c.requires.meant.run c.requires.meant.step c.requires.meant.edges in
    let same = subst (λ found. IfOk found (λ (out : Kept × Tag). named out.0 ≡ tag c.self.inside.context.now.run.now c.self.inside.context.now.step c.args.node)) c.in_ok-next.was c.advanced-worked.ensures.work in
    next_tagged c.self.inside.context.now.run.now plan step c.in_ok-next.next c.args.node (same ∙ ap (λ k. tag c.self.inside.context.now.run.now k c.args.node) (sym (c.requires.meant.step ∙ sym (ap (λ (v : StepView). v.step) c.self.view_is))))

pub put_back-requires-clause-follows : goal.put_back-requires-clause-follows
put_back-requires-clause-follows g c κs =
    let follows = subst (λ found. IfOk found (λ (out : Kept × Tag). Follows c.in_ok-work.work out.0)) c.in_ok-next.was c.advanced-worked.ensures.follows in
    follows_taken c.args.claims.now.plan c.args.node c.in_ok-work.work c.in_ok-next.next c.in_ok-work.ensures.given follows

pub put_back-requires-send-W : goal.put_back-requires-send-W
put_back-requires-send-W g c κs = search sent depth 60 fits 20000

pub hand_all-requires-clause-few : goal.hand_all-requires-clause-few
hand_all-requires-clause-few g c =
    let plan = c.args.claims.now.plan in
    let step = step_of_view plan c.self.view_is c.self.invariant c.requires.meant.run c.requires.meant.step c.requires.meant.edges in
    let edges = c.requires.meant.edges ∙ sym (ap (λ (v : StepView). v.edges) c.self.view_is) in
    subst (λ l. length l < 4294967296) edges (few_of_step c.self.inside.context.now.run.now plan step)

pub hand_all-requires-clause-below : goal.hand_all-requires-clause-below
hand_all-requires-clause-below g c e x there =
    let plan = c.args.claims.now.plan in
    let step = step_of_view plan c.self.view_is c.self.invariant c.requires.meant.run c.requires.meant.step c.requires.meant.edges in
    let edges = c.requires.meant.edges ∙ sym (ap (λ (v : StepView). v.edges) c.self.view_is) in
    small_of_step c.self.inside.context.now.run.now plan step e x (ap (λ l. get_elem? l e) edges ∙ there)

pub hand_all-requires-clause-share : goal.hand_all-requires-clause-share
hand_all-requires-clause-share g c =
    let run = c.self.inside.context.now.run.now in
    subst (λ found. IfOk found (λ (out : Kept × Tag). out.1 ≡ tag run c.self.inside.context.now.step c.args.node)) c.in_ok-next.was c.advanced-worked.ensures.share
    ∙ ap (λ k. tag run k c.args.node) (sym (c.requires.meant.step ∙ sym (ap (λ (v : StepView). v.step) c.self.view_is)))

pub hand_all-requires-clause-back : goal.hand_all-requires-clause-back
hand_all-requires-clause-back g c =
    let plan = c.args.claims.now.plan in
    let worked = worked_is plan c.look.new.seat.view c.begin_node.new.seat.view c.put_back.new.seat.view c.args.node c.in_ok-work.ensures.begun c.put_back.ensures.view in
    worked.back

pub hand_all-requires-clause-listed : goal.hand_all-requires-clause-listed
hand_all-requires-clause-listed g c m there = absurd (true_false (sym (subst (λ l. IsListed l m) c.requires.empty there)))

pub returns-clause-settled : goal.returns-clause-settled
returns-clause-settled g c =
    let plan = c.args.claims.now.plan in
    let edges = c.requires.meant.edges ∙ sym (ap (λ (v : StepView). v.edges) c.self.view_is) in
    let worked = subst (λ (s : SeatModel Kept). IsWorked plan s.view c.put_back.new.seat.view c.args.node) c.look.ensures.same (worked_is plan c.look.new.seat.view c.begin_node.new.seat.view c.put_back.new.seat.view c.args.node c.in_ok-work.ensures.begun c.put_back.ensures.view) in
    let listing = subst (λ l. IsListing plan c.put_back.new.seat.view c.hand_all.new.seat.view c.args.node (length l) c.hand_all.new.ready.nodes.items) (sym edges) (handing_all plan c.put_back.new.seat.view c.args.node c.args.ready.now.nodes.items c.hand_all.new.seat.view (length c.self.inside.edges.now) c.hand_all.new.ready.nodes.items c.in_ok-hand_all.ensures.handed c.requires.empty) in
    listed_settled plan c.args.node c.args.seat.now.view c.put_back.new.seat.view c.hand_all.new.seat.view c.hand_all.new.ready.nodes.items c.requires.node worked listing

pub returns-clause-came : goal.returns-clause-came
returns-clause-came g c =
    let plan = c.args.claims.now.plan in
    let edges = c.requires.meant.edges ∙ sym (ap (λ (v : StepView). v.edges) c.self.view_is) in
    let worked = subst (λ (s : SeatModel Kept). IsWorked plan s.view c.put_back.new.seat.view c.args.node) c.look.ensures.same (worked_is plan c.look.new.seat.view c.begin_node.new.seat.view c.put_back.new.seat.view c.args.node c.in_ok-work.ensures.begun c.put_back.ensures.view) in
    let listing = subst (λ l. IsListing plan c.put_back.new.seat.view c.hand_all.new.seat.view c.args.node (length l) c.hand_all.new.ready.nodes.items) (sym edges) (handing_all plan c.put_back.new.seat.view c.args.node c.args.ready.now.nodes.items c.hand_all.new.seat.view (length c.self.inside.edges.now) c.hand_all.new.ready.nodes.items c.in_ok-hand_all.ensures.handed c.requires.empty) in
    listed_came plan c.args.node c.args.seat.now.view c.put_back.new.seat.view c.hand_all.new.seat.view c.hand_all.new.ready.nodes.items c.requires.node worked listing

pub returns-clause-others : goal.returns-clause-others
returns-clause-others g c =
    let plan = c.args.claims.now.plan in
    let edges = c.requires.meant.edges ∙ sym (ap (λ (v : StepView). v.edges) c.self.view_is) in
    let worked = subst (λ (s : SeatModel Kept). IsWorked plan s.view c.put_back.new.seat.view c.args.node) c.look.ensures.same (worked_is plan c.look.new.seat.view c.begin_node.new.seat.view c.put_back.new.seat.view c.args.node c.in_ok-work.ensures.begun c.put_back.ensures.view) in
    let listing = subst (λ l. IsListing plan c.put_back.new.seat.view c.hand_all.new.seat.view c.args.node (length l) c.hand_all.new.ready.nodes.items) (sym edges) (handing_all plan c.put_back.new.seat.view c.args.node c.args.ready.now.nodes.items c.hand_all.new.seat.view (length c.self.inside.edges.now) c.hand_all.new.ready.nodes.items c.in_ok-hand_all.ensures.handed c.requires.empty) in
    listed_others plan c.args.node c.args.seat.now.view c.put_back.new.seat.view c.hand_all.new.seat.view c.hand_all.new.ready.nodes.items c.requires.node worked listing

pub look-requires-send-W : goal.look-requires-send-W
look-requires-send-W g c κs = search sent depth 60 fits 20000
