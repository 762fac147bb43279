use Rattle.std.proofs.Common.{◌≡◌, ◌+◌, ◌++◌, ◌∙◌, [], refl, ap, sym, subst, arith, length, Some}
use Rattle.std.proofs.lemmas.Result.{err_from_is_err_and}
use Rattle.tick_io.specs.Counts.{Rose}
use Rattle.tick_laws.specs.Reached.{IsReached}
use Rattle.tick_model.specs.Texts.{records_text, step_records}
use Rattle.replay.{specs.Standing.{IsAt, IsWriterAt}, specs.ToCome.text_from, proofs.Exits.{all_after, begun_after, cause_stops, ended_after, nothing_appended, splits_after, step_after}, proofs.Prints.on_err, proofs.Spoils.{cause_ends, cause_spoils, cause_there, good_before_next, last_before}}
use Rattle.replay.proofs.steps.bring_to_end.Goals as goal

pub loop-step-init : goal.loop-step-init
loop-step-init g c = ([], sym (nothing_appended (g.S.Sink.bytes c.args.out.now)), refl, c.requires.stands, refl, c.requires.writer)

pub advance-requires-clause-stands : goal.advance-requires-clause-stands
advance-requires-clause-stands g c κs within =
    let stands = c.loop-step.invariant.3 in
    subst (λ n. IsAt c.args.run.now n c.loop-step.progress) (sym stands.step_is) stands

pub advance-requires-clause-next : goal.advance-requires-clause-next
advance-requires-clause-next g c κs within = omega (arith, c.loop-step.invariant.3.step_is, c.loop-step-test.true, c.len-step-end.ensures)

pub advance-requires-clause-writer : goal.advance-requires-clause-writer
advance-requires-clause-writer g c κs within =
    subst (λ n. IsWriterAt c.args.store.now n c.loop-step.writer) (sym c.loop-step.invariant.3.step_is) c.loop-step.invariant.5

pub returns-in_err-progress-clause-end : goal.returns-in_err-progress-clause-end
returns-in_err-progress-clause-end g c =
    let run = c.args.run.now in
    let at = c.loop-step.invariant in
    let n = c.loop-step._step in
    let p = err_from_is_err_and c.from_residual.result c.from_residual.ensures.1 in
    rw (p.1, p.2) (λ told.
    cause_ends run (n + 1) c.in_err-progress.field-0.0 (omega (arith, c.loop-step-test.true, c.len-step-end.ensures)) (good_before_next run n at.3.good)
    (cause_there run n c.loop-step.progress.graph.step c.in_err-progress.field-0.0 at.3.step_is (c.in_err-progress.ensures.cause told)))

pub returns-in_err-progress-clause-last : goal.returns-in_err-progress-clause-last
returns-in_err-progress-clause-last g c =
    let run = c.args.run.now in
    let at = c.loop-step.invariant in
    let n = c.loop-step._step in
    let p = err_from_is_err_and c.from_residual.result c.from_residual.ensures.1 in
    rw (p.1, p.2) (λ told.
    let stays : c.advance.new.writer.step ≡ n = c.in_err-progress.ensures.stays told ∙ at.3.step_is in
    record {
      good_is = last_before run n (cause_spoils run (n + 1) c.in_err-progress.field-0.0 (omega (arith, c.loop-step-test.true, c.len-step-end.ensures)) (good_before_next run n at.3.good)
          (cause_there run n c.loop-step.progress.graph.step c.in_err-progress.field-0.0 at.3.step_is (c.in_err-progress.ensures.cause told))) ∙ ap Some (sym stays);
      reached = subst (IsReached run) (sym stays) at.3.good.reached;
    })

pub returns-in_err-progress-clause-ended : goal.returns-in_err-progress-clause-ended
returns-in_err-progress-clause-ended g c =
    let run = c.args.run.now in
    let at = c.loop-step.invariant in
    let n = c.loop-step._step in
    let p = err_from_is_err_and c.from_residual.result c.from_residual.ensures.1 in
    rw (p.1, p.2) (λ told.
    ended_after run n c.loop-step.progress.graph.step at.3.step_is (g.S.Sink.bytes c.args.out.now) (g.S.Sink.bytes c.loop-step.out) at.0 (text_from run 1) at.1 at.2 (g.S.Sink.bytes c.advance.new.out)
    (c.in_err-progress.ensures.ended told)
    (ap (λ k. text_from run (k + 1)) at.3.step_is
    ∙ cause_stops run (n + 1) (omega (arith, c.loop-step-test.true, c.len-step-end.ensures)) c.in_err-progress.field-0.0 (good_before_next run n at.3.good)
    (cause_there run n c.loop-step.progress.graph.step c.in_err-progress.field-0.0 at.3.step_is (c.in_err-progress.ensures.cause told))))

pub returns-in_err-progress-clause-prefix : goal.returns-in_err-progress-clause-prefix
returns-in_err-progress-clause-prefix g c =
    let run = c.args.run.now in
    let at = c.loop-step.invariant in
    on_err c.from_residual.result
    (begun_after run c.loop-step._step c.loop-step.progress.graph.step at.3.step_is (g.S.Sink.bytes c.args.out.now) (g.S.Sink.bytes c.loop-step.out) at.0 (text_from run 1) at.1 at.2 (g.S.Sink.bytes c.advance.new.out)
    c.in_err-progress.ensures.prefix)

pub returns-in_err-progress-clause-failed : goal.returns-in_err-progress-clause-failed
returns-in_err-progress-clause-failed g c is =
    let p = err_from_is_err_and c.from_residual.result c.from_residual.ensures.1 in
    subst (λ n. Rose n (g.S.Sink.failures c.advance.new.out)) c.loop-step.invariant.4 (c.in_err-progress.ensures.failed (cc))

pub returns-in_err-progress-clause-never_falls : goal.returns-in_err-progress-clause-never_falls
returns-in_err-progress-clause-never_falls g c = omega (arith, c.loop-step.invariant.4, c.in_err-progress.ensures.never_falls)

pub returns-in_err-progress-clause-steady : goal.returns-in_err-progress-clause-steady
returns-in_err-progress-clause-steady g c =
    let p = err_from_is_err_and c.from_residual.result c.from_residual.ensures.1 in
    rw (p.1, p.2) (λ told. c.in_err-progress.ensures.steady told ∙ c.loop-step.invariant.4)

pub loop-step-preserved : goal.loop-step-preserved
loop-step-preserved g c =
    let run = c.args.run.now in
    let at = c.loop-step.invariant in
    let n = c.loop-step._step in
    let next = c.in_ok-progress.ensures in
    let stands = subst (λ k. IsAt run (k + 1) c.in_ok-progress.progress) at.3.step_is next.stands in (
      at.0 ++ records_text (step_records run (n + 1)),
      step_after run n c.loop-step.progress.graph.step at.3.step_is (g.S.Sink.bytes c.args.out.now) (g.S.Sink.bytes c.loop-step.out) at.0 (text_from run 1) at.1 at.2 (g.S.Sink.bytes c.advance.new.out) next.whole,
      splits_after run n c.loop-step.progress.graph.step at.3.step_is (g.S.Sink.bytes c.args.out.now) (g.S.Sink.bytes c.loop-step.out) at.0 (text_from run 1) at.1 at.2 (omega (arith, c.loop-step-test.true, c.len-step-end.ensures)) (good_before_next run (n + 1) stands.good),
      stands,
      next.steady ∙ at.4,
      subst (λ k. IsWriterAt c.args.store.now (k + 1) c.advance.new.writer) at.3.step_is next.writer,
    )

pub returns-clause-stands : goal.returns-clause-stands
returns-clause-stands g c =
    let at = c.loop-step.invariant in
    let last : c.loop-step._step ≡ length c.args.run.now.batches = omega (arith, c.loop-step-test.false, c.loop-step.auto._step-end, c.len-step-end.ensures) in
    subst (λ n. IsAt c.args.run.now n c.loop-step.progress) last at.3

pub returns-clause-writer : goal.returns-clause-writer
returns-clause-writer g c =
    omega (arith, c.loop-step.invariant.5.step_is, c.loop-step-test.false, c.loop-step.auto._step-end, c.len-step-end.ensures)

pub returns-clause-whole : goal.returns-clause-whole
returns-clause-whole g c =
    let at = c.loop-step.invariant in
    let last : c.loop-step._step ≡ length c.args.run.now.batches = omega (arith, c.loop-step-test.false, c.loop-step.auto._step-end, c.len-step-end.ensures) in
    all_after c.args.run.now c.loop-step._step c.loop-step.progress.graph.step at.3.step_is (g.S.Sink.bytes c.args.out.now) (g.S.Sink.bytes c.loop-step.out) at.0 (text_from c.args.run.now 1) at.1 at.2 last

pub returns-clause-never_falls : goal.returns-clause-never_falls
returns-clause-never_falls g c = omega (arith, c.loop-step.invariant.4)
