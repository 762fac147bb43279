use Rattle.std.proofs.Common.{◌+◌, ◌<◌, ◌∙◌, sym, ap, subst, length}
use lib.ListN.{get_elem?}
use Rattle.graph_words.{specs.declared.table.Mark.TheVariants.{Taken, PutBack}, specs.Marks.at, proofs.Marks.at_put}
use Rattle.update_graph.{specs.Steps.IsHanding, specs.Tags.Tag, proofs.Claimed.{ends_claimed, few_claimed, run_is, small_of_step, step_of_claims}, proofs.FirstSeat.{next_unopened, opened_kept, opened_more}, proofs.Following.{source_follows, source_is}, proofs.WorkSent.sent}
use Rattle.update_graph.proofs.first_seat.open_source.Goals as goal

pub take_work-requires-clause-whole : goal.take_work-requires-clause-whole
take_work-requires-clause-whole c κs =
    (next_unopened c.args.run.now c.args.claims.now.plan c.requires.claimed c.args.seat.now.view c.args.node c.args.ready.now.nodes.items c.requires.opened c.requires.node c.requires.source).untaken

pub put_back-requires-clause-taken : goal.put_back-requires-clause-taken
put_back-requires-clause-taken c κs = ap (λ v. at v.nodes c.args.node) c.take_work.ensures.view ∙ at_put c.args.seat.now.view.nodes c.args.node Taken

pub put_back-requires-clause-tag : goal.put_back-requires-clause-tag
put_back-requires-clause-tag c κs = (
  ap (λ (t : Tag). t.run) c.requires.work ∙ sym (run_is c.args.run.now c.args.claims.now.plan c.requires.claimed),
  ap (λ (t : Tag). t.node) c.requires.work,
  ap (λ (t : Tag). t.step) c.requires.work,
)

pub put_back-requires-clause-follows : goal.put_back-requires-clause-follows
put_back-requires-clause-follows c κs old given = source_follows old c.args.work (source_is c.args.run.now (c.args.claims.now.plan.first.value.step + 1) c.args.node c.args.work c.requires.work c.requires.source)

pub hand_all-requires-clause-few : goal.hand_all-requires-clause-few
hand_all-requires-clause-few c = subst (λ l. length l < 4294967296) (sym c.requires.edges) (few_claimed c.args.run.now c.args.claims.now.plan c.requires.claimed)

pub hand_all-requires-clause-ends : goal.hand_all-requires-clause-ends
hand_all-requires-clause-ends c e x there = ends_claimed c.args.run.now c.args.claims.now.plan c.requires.claimed e x (ap (λ l. get_elem? l e) (sym c.requires.edges) ∙ there)

pub hand_all-requires-clause-below : goal.hand_all-requires-clause-below
hand_all-requires-clause-below c e x there =
    let run = c.args.run.now in
    let plan = c.args.claims.now.plan in
    small_of_step run plan (step_of_claims run plan c.requires.claimed) e x (ap (λ l. get_elem? l e) (sym c.requires.edges) ∙ there)

pub hand_all-requires-clause-back : goal.hand_all-requires-clause-back
hand_all-requires-clause-back c = ap (λ v. at v.nodes c.args.node) c.put_back.ensures.view ∙ at_put c.take_work.new.seat.view.nodes c.args.node PutBack

pub hand_all-requires-clause-untouched : goal.hand_all-requires-clause-untouched
hand_all-requires-clause-untouched c e x there is =
    ap (λ v. at v.outs e) c.put_back.ensures.view
    ∙ ap (λ v. at v.outs e) c.take_work.ensures.view
    ∙ ((next_unopened c.args.run.now c.args.claims.now.plan c.requires.claimed c.args.seat.now.view c.args.node c.args.ready.now.nodes.items c.requires.opened c.requires.node c.requires.source).untouched e x (ap (λ l. get_elem? l e) (sym c.requires.edges) ∙ there)).0 is

pub hand_all-requires-clause-run : goal.hand_all-requires-clause-run
hand_all-requires-clause-run c = sym (run_is c.args.run.now c.args.claims.now.plan c.requires.claimed)

pub hand_all-requires-clause-listed : goal.hand_all-requires-clause-listed
hand_all-requires-clause-listed c m there =
    opened_kept c.args.run.now c.args.claims.now.plan c.requires.claimed c.args.seat.now.view c.args.node c.args.ready.now.nodes.items c.requires.opened c.requires.source c.take_work.new.seat.view c.put_back.new.seat.view c.take_work.ensures.view c.put_back.ensures.view m there

pub returns-clause-opened : goal.returns-clause-opened
returns-clause-opened c =
    let plan = c.args.claims.now.plan in
    let xs = c.args.ready.now.nodes.items in
    let ys = c.hand_all.new.ready.nodes.items in
    let handing = subst (λ l. IsHanding plan c.put_back.new.seat.view c.hand_all.new.seat.view c.args.node (length l) xs ys) c.requires.edges c.in_ok-hand_all.ensures.handed in
    opened_more c.args.run.now plan c.requires.claimed c.args.node c.args.seat.now.view c.take_work.new.seat.view c.put_back.new.seat.view c.hand_all.new.seat.view xs ys c.requires.opened c.requires.source c.take_work.ensures.view c.put_back.ensures.view handing

pub take_work-requires-send-W : goal.take_work-requires-send-W
take_work-requires-send-W c κs = search sent depth 60 fits 20000

pub put_back-requires-send-W : goal.put_back-requires-send-W
put_back-requires-send-W c κs = search sent depth 60 fits 20000
