use Rattle.std.proofs.Common.{◌∙◌, sym, ap, subst, arith, refl}
use Rattle.std.{specs.Io.KnownBytes.append_known, proofs.lemmas.Result.err_from_is_err_and}
use Rattle.tick_io.specs.Written.{AppendsPrefix}
use Rattle.tick_model.specs.declared.feed.Run.{Run}
use Rattle.replay.{specs.Standing.{IsGood, IsWithin}, proofs.Exits.step_begun, proofs.Prints.{count_is, on_err, step_is}, proofs.Reaching.good_first, proofs.RecordCounts.{lawful_printed, length-updates_none}, proofs.Spoils.{good_before_next, past_is_cause, past_no_write, past_there, stop_is_cause, within_there}}
use Rattle.replay.proofs.progress.PrintedRun.open.Goals as goal

pub printed_nodes-requires : goal.printed_nodes-requires
printed_nodes-requires g c = (lawful_printed c.args.run.now.plan c.requires.plan).there

pub returns-in_err-graph-clause-cause : goal.returns-in_err-graph-clause-cause
returns-in_err-graph-clause-cause g c =
    let p = err_from_is_err_and c.from_residual-in_err-graph.result c.from_residual-in_err-graph.ensures.1 in
    rw (p.1, p.2) (stop_is_cause c.args.run.now 0 c.in_err-graph.field-0.0 c.in_err-graph.ensures.cause)

pub returns-in_err-check_limits-clause-cause : goal.returns-in_err-check_limits-clause-cause
returns-in_err-check_limits-clause-cause g c =
    let p = err_from_is_err_and c.from_residual-in_err-check_limits.result c.from_residual-in_err-check_limits.ensures.1 in
    let made = c.in_ok-graph.ensures in
    rw (p.1, p.2) (λ told. past_is_cause c.args.run.now 0 c.in_err-check_limits.field-0.0 refl made.nodes (past_there c.args.run.now 0 _ _ c.in_err-check_limits.field-0.0 made.run made.step c.in_err-check_limits.ensures.past))

pub returns-in_err-records-clause-prefix : goal.returns-in_err-records-clause-prefix
returns-in_err-records-clause-prefix g c =
    let run = c.args.run.now in
    let made = c.in_ok-graph.ensures in
    let good = good_first run made.nodes (within_there run 0 _ _ made.run made.step c.in_ok-check_limits.ensures.within) in
    on_err c.from_residual-in_err-records.result
    (step_begun run 0 (omega arith) (g.S.Sink.bytes c.args.out.now) (g.S.Sink.bytes c.write_step.new.out) (good_before_next run 0 good)
    (subst (AppendsPrefix (g.S.Sink.bytes c.args.out.now) (g.S.Sink.bytes c.write_step.new.out)) (step_is run 0 _ _ made.run made.step) c.in_err-records.ensures.err))

pub returns-clause-stands : goal.returns-clause-stands
returns-clause-stands g c =
    let run = c.args.run.now in
    let made = c.in_ok-graph.ensures in
    record {
      run_is = made.run;
      step_is = made.step;
      good = good_first run made.nodes (within_there run 0 _ _ made.run made.step c.in_ok-check_limits.ensures.within);
      printed_are = c.in_ok-printed.ensures;
      records_are = count_is run 0 _ _ _ made.run made.step c.in_ok-records.ensures.count ∙ sym (length-updates_none run);
    }

pub returns-clause-whole : goal.returns-clause-whole
returns-clause-whole g c =
    c.in_ok-records.ensures.whole ∙ ap (append_known (g.S.Sink.bytes c.args.out.now)) (step_is c.args.run.now 0 _ _ c.in_ok-graph.ensures.run c.in_ok-graph.ensures.step)

pub returns-in_err-check_limits-clause-failed : goal.returns-in_err-check_limits-clause-failed
returns-in_err-check_limits-clause-failed g c is =
    let p = err_from_is_err_and c.from_residual-in_err-check_limits.result c.from_residual-in_err-check_limits.ensures.1 in
    absurd (past_no_write c.in_ok-graph.graph.run c.in_ok-graph.graph.step c.in_err-check_limits.field-0.0 c.in_err-check_limits.ensures.past (cc))
