use Rattle.std.proofs.Common.{ap, sym, ◌∙◌, subst, ◌+◌, ◌-◌, arith, length, map}
use Rattle.std.{proofs.lemmas.Iterator.Adapters.YieldsList-from_vec, proofs.lemmas.Iterator.Consumers.{YieldsList-turn, YieldsList-end}, proofs.lemmas.List.{length_push, map-id}}
use Rattle.update_graph.{specs.Stands.{Follows, ForEach}, specs.Sweeps.IsSwept, specs.Tags.{named, tag}, proofs.ClaimedWorks.count_works, proofs.Following.{each_more, each_none}, proofs.Sweeping.is_named}
use Rattle.update_graph.proofs.in_order.advance_all.Goals as goal

pub advance_node-requires-clause-swept : goal.advance_node-requires-clause-swept
advance_node-requires-clause-swept g c κs within =
    let n = length c.loop-work.yielded in
    let count = count_works c.args.context.now.at.run.now c.args.context.now.at.step n c.loop-work.sweep.works.items c.loop-work.invariant.swept.works in
    subst (λ k. IsSwept c.args.context.now.at.run.now c.args.context.now.at.step k c.loop-work.sweep) (sym count) c.loop-work.invariant.swept

pub advance_node-requires-clause-node : goal.advance_node-requires-clause-node
advance_node-requires-clause-node g c κs within =
    let n = length c.loop-work.yielded in
    let count = count_works c.args.context.now.at.run.now c.args.context.now.at.step n c.loop-work.sweep.works.items c.loop-work.invariant.swept.works in
    let gives = c.into_iter-work-iterator.ensures.into_iter_gives in
    let turn = YieldsList-turn (YieldsList-from_vec {s = c.into_iter-work-iterator.result} c.args.works.items gives.0 (gives.1 ∙ c.args.works.ok.0)) c.loop-work.yielded c.loop-work.work-iterator c.loop-work.yielded_by c.next.result c.next.new.self c.in-Some.work c.in-Some.is c.next.ensures.steps in
    let all = count_works c.args.context.now.at.run.now (c.args.context.now.at.step - 1) (length c.args.context.now.at.run.now.plan.nodes) c.args.works.items c.requires.works in
    let less = turn.0 in
    omega arith

pub advance_node-requires-clause-work : goal.advance_node-requires-clause-work
advance_node-requires-clause-work g c κs within =
    let n = length c.loop-work.yielded in
    let count = count_works c.args.context.now.at.run.now c.args.context.now.at.step n c.loop-work.sweep.works.items c.loop-work.invariant.swept.works in
    let gives = c.into_iter-work-iterator.ensures.into_iter_gives in
    let turn = YieldsList-turn (YieldsList-from_vec {s = c.into_iter-work-iterator.result} c.args.works.items gives.0 (gives.1 ∙ c.args.works.ok.0)) c.loop-work.yielded c.loop-work.work-iterator c.loop-work.yielded_by c.next.result c.next.new.self c.in-Some.work c.in-Some.is c.next.ensures.steps in
    is_named c.args.context.now.at.run.now (c.args.context.now.at.step - 1) (length c.args.context.now.at.run.now.plan.nodes) n c.args.works.items c.in-Some.work c.requires.works turn.0 turn.1 ∙ ap (tag c.args.context.now.at.run.now (c.args.context.now.at.step - 1)) (sym count)

pub loop-work-init : goal.loop-work-init
loop-work-init g c = record {
  swept = record { works = ap (map named) c.new-sweep.ensures.works; shares = c.new-sweep.ensures.shares; ran = c.new-sweep.ensures.ran; sources = c.new-sweep.ensures.sources };
  follows = each_none Follows c.new-sweep.result.works.items;
}

pub loop-work-preserved : goal.loop-work-preserved
loop-work-preserved g c =
    let n = length c.loop-work.yielded in
    let count = count_works c.args.context.now.at.run.now c.args.context.now.at.step n c.loop-work.sweep.works.items c.loop-work.invariant.swept.works in
    record {
      swept = subst (λ k. IsSwept c.args.context.now.at.run.now c.args.context.now.at.step k c.advance_node.new.sweep) (ap (λ k. k + 1) count ∙ sym (length_push c.loop-work.yielded c.in-Some.work)) c.in_ok-advance_node.ensures.swept;
      follows = each_more Follows c.loop-work.yielded c.loop-work.sweep.works.items c.advance_node.new.sweep.works.items c.in-Some.work (sym count) c.loop-work.invariant.follows c.in_ok-advance_node.ensures.follows;
    }

pub returns-clause-swept : goal.returns-clause-swept
returns-clause-swept g c =
    let gives = c.into_iter-work-iterator.ensures.into_iter_gives in
    let ended = YieldsList-end (YieldsList-from_vec {s = c.into_iter-work-iterator.result} c.args.works.items gives.0 (gives.1 ∙ c.args.works.ok.0)) c.loop-work.yielded c.loop-work.work-iterator c.loop-work.yielded_by c.next.result c.next.new.self c.in-None.is c.next.ensures.steps in
    let all = count_works c.args.context.now.at.run.now (c.args.context.now.at.step - 1) (length c.args.context.now.at.run.now.plan.nodes) c.args.works.items c.requires.works in
    subst (λ k. IsSwept c.args.context.now.at.run.now c.args.context.now.at.step k c.loop-work.sweep) (ended.1 ∙ all) c.loop-work.invariant.swept

pub returns-clause-follows : goal.returns-clause-follows
returns-clause-follows g c =
    let gives = c.into_iter-work-iterator.ensures.into_iter_gives in
    let ended = YieldsList-end (YieldsList-from_vec {s = c.into_iter-work-iterator.result} c.args.works.items gives.0 (gives.1 ∙ c.args.works.ok.0)) c.loop-work.yielded c.loop-work.work-iterator c.loop-work.yielded_by c.next.result c.next.new.self c.in-None.is c.next.ensures.steps in
    subst (λ olds. ForEach Follows olds c.loop-work.sweep.works.items) (sym (map-id c.loop-work.yielded) ∙ ended.0) c.loop-work.invariant.follows
