use Rattle.std.proofs.Common.{◌≡◌, ◌+◌, ◌<◌, ◌≤◌, ◌∙◌, refl, sym, ap, subst, arith, length}
use Rattle.std.proofs.lemmas.Result.{err_from_is_err_and}
use Rattle.tick_io.specs.Counts.{Rose}
use Rattle.tick_laws.specs.Reached.{IsReached}
use Rattle.tick_model.specs.Spoiled.{good}
use Rattle.replay.{specs.Causes.IsCause, specs.Standing.IsGood, proofs.Exits.none_written, proofs.Prints.on_err, proofs.Spoils.{cause_ends, good_before_next, none_is}}
use Rattle.watched_run.{specs.Standing.IsWatchedAt, specs.ToCome.watch_until, proofs.Stood.{few_steps, node_of, table_of}, proofs.TextsTold.{all_told, goes_further, none_told, rests_at_end, some_told, stopped}}
use Rattle.watched_run.proofs.steps.watch_feed.Goals as goal

pub returns-in_err-hands-clause-prefix : goal.returns-in_err-hands-clause-prefix
returns-in_err-hands-clause-prefix g c =
    on_err c.from_residual.result (none_written (g.S.Sink.bytes c.args.out.now) (watch_until c.args.run.now c.args.watch.now (good c.args.run.now)))

pub returns-in_err-opening-clause-end : goal.returns-in_err-opening-clause-end
returns-in_err-opening-clause-end g c =
    let p = err_from_is_err_and c.from_residual-in_err-opening.result c.from_residual-in_err-opening.ensures.1 in
    let run = c.args.run.now in
    let outcome = c.in_err-opening.field-0.0 in
    rw (p.1, p.2) (λ told. stopped run 0 outcome (c.in_err-opening.ensures.cause told) (cause_ends run 0 outcome (omega arith) (λ k below. absurd (omega (arith, below))) (c.in_err-opening.ensures.cause told)))

pub returns-in_err-opening-clause-told : goal.returns-in_err-opening-clause-told
returns-in_err-opening-clause-told g c =
    let p = err_from_is_err_and c.from_residual-in_err-opening.result c.from_residual-in_err-opening.ensures.1 in
    rw (p.1, p.2) (λ told. none_told c.args.run.now c.args.watch.now c.in_err-opening.field-0.0 (g.S.Sink.bytes c.args.out.now) (g.S.Sink.bytes c.open.new.out) (c.in_err-opening.ensures.cause told) (c.in_err-opening.ensures.ended told))

pub returns-in_err-opening-clause-prefix : goal.returns-in_err-opening-clause-prefix
returns-in_err-opening-clause-prefix g c = on_err c.from_residual-in_err-opening.result c.in_err-opening.ensures.prefix

pub loop-step-init : goal.loop-step-init
loop-step-init g c = record { stands = c.in_ok-opening.ensures.stands; told = c.in_ok-opening.ensures.told; steady = c.in_ok-opening.ensures.steady }

pub advance-requires-clause-stands : goal.advance-requires-clause-stands
advance-requires-clause-stands g c κs within =
    let stands = c.loop-step.invariant.stands in
    subst (λ n. IsWatchedAt c.args.run.now c.args.watch.now n c.loop-step.watching) (sym stands.step_is) stands

pub advance-requires-clause-next : goal.advance-requires-clause-next
advance-requires-clause-next g c κs within = omega (arith, c.loop-step.invariant.stands.step_is, c.loop-step-test.true, c.len-step-end.ensures)

pub returns-in_err-watching-clause-end : goal.returns-in_err-watching-clause-end
returns-in_err-watching-clause-end g c =
    let run = c.args.run.now in
    let at = c.loop-step.invariant.stands in
    let n = c.loop-step._step in
    let p = err_from_is_err_and c.from_residual-in_err-watching.result c.from_residual-in_err-watching.ensures.1 in
    let outcome = c.in_err-watching.field-0.0 in
    rw (p.1, p.2) (λ told.
    let cause = subst (λ k. IsCause run (k + 1) outcome) at.step_is (c.in_err-watching.ensures.cause told) in
    stopped run (n + 1) outcome cause (cause_ends run (n + 1) outcome (omega (arith, c.loop-step-test.true, c.len-step-end.ensures)) (good_before_next run n at.good) cause))

pub returns-in_err-watching-clause-told : goal.returns-in_err-watching-clause-told
returns-in_err-watching-clause-told g c =
    let run = c.args.run.now in
    let watch = c.args.watch.now in
    let p = err_from_is_err_and c.from_residual-in_err-watching.result c.from_residual-in_err-watching.ensures.1 in
    rw (p.1, p.2) (λ told.
    all_told run watch (watch_until run watch (good run)) (g.S.Sink.bytes c.args.out.now) (g.S.Sink.bytes c.loop-step.out) c.loop-step.watching c.loop-step.invariant.told (g.S.Sink.bytes c.advance.new.out) _ refl (c.in_err-watching.ensures.ended told))

pub returns-in_err-watching-clause-prefix : goal.returns-in_err-watching-clause-prefix
returns-in_err-watching-clause-prefix g c =
    let run = c.args.run.now in
    let watch = c.args.watch.now in
    on_err c.from_residual-in_err-watching.result
    (some_told run watch (watch_until run watch (good run)) (g.S.Sink.bytes c.args.out.now) (g.S.Sink.bytes c.loop-step.out) c.loop-step.watching c.loop-step.invariant.told (g.S.Sink.bytes c.advance.new.out) _ refl c.in_err-watching.ensures.prefix)

pub returns-in_err-watching-clause-steady : goal.returns-in_err-watching-clause-steady
returns-in_err-watching-clause-steady g c =
    let p = err_from_is_err_and c.from_residual-in_err-watching.result c.from_residual-in_err-watching.ensures.1 in
    rw (p.1, p.2) (λ told. c.in_err-watching.ensures.steady told ∙ c.loop-step.invariant.steady)

pub loop-step-preserved : goal.loop-step-preserved
loop-step-preserved g c =
    let run = c.args.run.now in
    let watch = c.args.watch.now in
    let at = c.loop-step.invariant in
    let next = c.in_ok-watching.ensures in
    record {
      stands = subst (λ k. IsWatchedAt run watch (k + 1) c.in_ok-watching.watching) at.stands.step_is next.stands;
      told = goes_further run watch (watch_until run watch (good run)) (g.S.Sink.bytes c.args.out.now) (g.S.Sink.bytes c.loop-step.out) c.loop-step.watching at.told (g.S.Sink.bytes c.advance.new.out) c.in_ok-watching.watching next.told;
      steady = next.steady ∙ at.steady;
    }

pub table-requires : goal.table-requires
table-requires g c = node_of c.args.run.now c.args.watch.now c.requires.watch c.loop-step.watching.graph.run c.loop-step.invariant.stands.run_is

pub rest_told-requires-clause-reached : goal.rest_told-requires-clause-reached
rest_told-requires-clause-reached g c κs within =
    let at = c.loop-step.invariant.stands in
    subst (IsReached c.args.run.now) (sym at.here) at.good.reached

pub rest_told-requires-clause-few : goal.rest_told-requires-clause-few
rest_told-requires-clause-few g c κs within =
    let own = c.loop-step.watching.teller in
    few_steps c.args.run.now c.requires.lawful (own.last + own.since) (omega (arith, c.loop-step.invariant.stands.here, c.loop-step-test.false, c.loop-step.auto._step-end, c.len-step-end.ensures))

pub rest_told-requires-clause-table : goal.rest_told-requires-clause-table
rest_told-requires-clause-table g c κs within =
    let at = c.loop-step.invariant.stands in
    let own = c.loop-step.watching in
    table_of c.args.run.now c.requires.lawful c.args.watch.now c.requires.watch (own.teller.last + own.teller.since) (subst (IsReached c.args.run.now) (sym at.here) at.good.reached)
    own.graph.run own.graph.step c.table.result.now at.run_is (at.step_is ∙ sym at.here) c.table.ensures

pub returns-in_err-rest_told-clause-end : goal.returns-in_err-rest_told-clause-end
returns-in_err-rest_told-clause-end g c =
    let p = err_from_is_err_and c.from_residual-in_err-rest_told.result c.from_residual-in_err-rest_told.ensures.1 in
    rw (p.1, p.2) (λ told. absurd (c.in_err-rest_told.ensures.no_cause told))

pub returns-in_err-rest_told-clause-told : goal.returns-in_err-rest_told-clause-told
returns-in_err-rest_told-clause-told g c =
    let p = err_from_is_err_and c.from_residual-in_err-rest_told.result c.from_residual-in_err-rest_told.ensures.1 in
    rw (p.1, p.2) (λ told. absurd (c.in_err-rest_told.ensures.no_cause told))

pub returns-in_err-rest_told-clause-steady : goal.returns-in_err-rest_told-clause-steady
returns-in_err-rest_told-clause-steady g c =
    let p = err_from_is_err_and c.from_residual-in_err-rest_told.result c.from_residual-in_err-rest_told.ensures.1 in
    rw (p.1, p.2) (λ told. absurd (c.in_err-rest_told.ensures.no_cause told))

pub returns-in_err-rest_told-clause-prefix : goal.returns-in_err-rest_told-clause-prefix
returns-in_err-rest_told-clause-prefix g c =
    let run = c.args.run.now in
    let watch = c.args.watch.now in
    let at = c.loop-step.invariant in
    let own = c.loop-step.watching in
    let last : c.loop-step._step ≡ length run.batches = omega (arith, c.loop-step-test.false, c.loop-step.auto._step-end, c.len-step-end.ensures) in
    on_err c.from_residual-in_err-rest_told.result
    (some_told run watch (watch_until run watch (good run)) (g.S.Sink.bytes c.args.out.now) (g.S.Sink.bytes c.loop-step.out) own at.told (g.S.Sink.bytes c.rest_told.new.out) _
    (rests_at_end run watch own.teller.last own.teller.since (at.stands.here ∙ last) (subst (IsGood run) last at.stands.good)) c.in_err-rest_told.ensures.prefix)

pub returns-in_err-rest_told-clause-failed : goal.returns-in_err-rest_told-clause-failed
returns-in_err-rest_told-clause-failed g c is =
    let p = err_from_is_err_and c.from_residual-in_err-rest_told.result c.from_residual-in_err-rest_told.ensures.1 in
    subst (λ n. Rose n (g.S.Sink.failures c.rest_told.new.out)) c.loop-step.invariant.steady (c.in_err-rest_told.ensures.failed (cc))

pub returns-in_err-watching-clause-failed : goal.returns-in_err-watching-clause-failed
returns-in_err-watching-clause-failed g c is =
    let p = err_from_is_err_and c.from_residual-in_err-watching.result c.from_residual-in_err-watching.ensures.1 in
    subst (λ n. Rose n (g.S.Sink.failures c.advance.new.out)) c.loop-step.invariant.steady (c.in_err-watching.ensures.failed (cc))

pub returns-clause-done : goal.returns-clause-done
returns-clause-done g c =
    omega (arith, c.step.ensures.step, c.loop-step.invariant.stands.step_is, c.loop-step-test.false, c.loop-step.auto._step-end, c.len-step-end.ensures)

pub returns-clause-unspoiled : goal.returns-clause-unspoiled
returns-clause-unspoiled g c =
    let run = c.args.run.now in
    let last : c.loop-step._step ≡ length run.batches = omega (arith, c.loop-step-test.false, c.loop-step.auto._step-end, c.len-step-end.ensures) in
    none_is run (good_before_next run (length run.batches) (subst (IsGood run) last c.loop-step.invariant.stands.good))

pub returns-clause-ok : goal.returns-clause-ok
returns-clause-ok g c =
    let run = c.args.run.now in
    let watch = c.args.watch.now in
    let at = c.loop-step.invariant in
    let own = c.loop-step.watching in
    let last : c.loop-step._step ≡ length run.batches = omega (arith, c.loop-step-test.false, c.loop-step.auto._step-end, c.len-step-end.ensures) in
    all_told run watch (watch_until run watch (good run)) (g.S.Sink.bytes c.args.out.now) (g.S.Sink.bytes c.loop-step.out) own at.told (g.S.Sink.bytes c.rest_told.new.out) _
    (rests_at_end run watch own.teller.last own.teller.since (at.stands.here ∙ last) (subst (IsGood run) last at.stands.good)) c.in_ok-rest_told.ensures.whole

pub returns-clause-steady : goal.returns-clause-steady
returns-clause-steady g c = c.in_ok-rest_told.ensures.steady ∙ c.loop-step.invariant.steady
