use Rattle.std.proofs.Common.{sym, ◌∙◌, subst, length}
use Rattle.std.{proofs.lemmas.Iterator.Adapters.YieldsList-from_vec, proofs.lemmas.Iterator.Consumers.{YieldsList-so_far, YieldsList-turn}}
use Rattle.key_lists.proofs.Parts.{every_at}
use Rattle.source_changes.{specs.declared.taking.TakenBlocks.TakenBlocks, specs.Reads.step_reads, specs.Taking.{IsTaking, taking}, proofs.Turns.reads_within}
use Rattle.source_changes.proofs.changes.close_steps.Goals as goal

pub close-requires : goal.close-requires
close-requires g c =
    let gives = c.into_iter-step-iterator.ensures.into_iter_gives in
    let turn = YieldsList-turn (YieldsList-from_vec {s = c.into_iter-step-iterator.result} c.args.steps.items gives.0 (gives.1 ∙ c.args.steps.ok.0))
    c.loop-step.yielded c.loop-step.step-iterator c.loop-step.yielded_by c.next.result c.next.new.self c.in-Some.step c.in-Some.is c.next.ensures.steps in
    subst IsTaking (sym turn.1) (every_at IsTaking c.args.steps.items (length c.loop-step.yielded) c.in-Some.step turn.0 c.requires)

pub returns-in_err-change-clause-reads : goal.returns-in_err-change-clause-reads
returns-in_err-change-clause-reads g c =
    let items = c.args.steps.items in
    let gives = c.into_iter-step-iterator.ensures.into_iter_gives in
    let all = YieldsList-from_vec {s = c.into_iter-step-iterator.result} items gives.0 (gives.1 ∙ c.args.steps.ok.0) in
    let yielded = c.loop-step.yielded in
    let turn = YieldsList-turn all yielded c.loop-step.step-iterator c.loop-step.yielded_by c.next.result c.next.new.self c.in-Some.step c.in-Some.is c.next.ensures.steps in
    reads_within (λ (step : TakenBlocks). step_reads (taking step)) items yielded c.in-Some.step c.args.reads.now c.loop-step.reads c.close.new.reads
    (YieldsList-so_far all yielded c.loop-step.step-iterator c.loop-step.yielded_by) turn.0 turn.1 c.loop-step.invariant.reads c.close.ensures.reads

pub returns-in_err-push-clause-reads : goal.returns-in_err-push-clause-reads
returns-in_err-push-clause-reads g c =
    let items = c.args.steps.items in
    let gives = c.into_iter-step-iterator.ensures.into_iter_gives in
    let all = YieldsList-from_vec {s = c.into_iter-step-iterator.result} items gives.0 (gives.1 ∙ c.args.steps.ok.0) in
    let yielded = c.loop-step.yielded in
    let turn = YieldsList-turn all yielded c.loop-step.step-iterator c.loop-step.yielded_by c.next.result c.next.new.self c.in-Some.step c.in-Some.is c.next.ensures.steps in
    reads_within (λ (step : TakenBlocks). step_reads (taking step)) items yielded c.in-Some.step c.args.reads.now c.loop-step.reads c.close.new.reads
    (YieldsList-so_far all yielded c.loop-step.step-iterator c.loop-step.yielded_by) turn.0 turn.1 c.loop-step.invariant.reads c.close.ensures.reads

pub returns-in_err-push-2-clause-reads : goal.returns-in_err-push-2-clause-reads
returns-in_err-push-2-clause-reads g c =
    let items = c.args.steps.items in
    let gives = c.into_iter-step-iterator.ensures.into_iter_gives in
    let all = YieldsList-from_vec {s = c.into_iter-step-iterator.result} items gives.0 (gives.1 ∙ c.args.steps.ok.0) in
    let yielded = c.loop-step.yielded in
    let turn = YieldsList-turn all yielded c.loop-step.step-iterator c.loop-step.yielded_by c.next.result c.next.new.self c.in-Some.step c.in-Some.is c.next.ensures.steps in
    reads_within (λ (step : TakenBlocks). step_reads (taking step)) items yielded c.in-Some.step c.args.reads.now c.loop-step.reads c.close.new.reads
    (YieldsList-so_far all yielded c.loop-step.step-iterator c.loop-step.yielded_by) turn.0 turn.1 c.loop-step.invariant.reads c.close.ensures.reads
