use Rattle.std.proofs.Common.{◌≡◌, ◌+◌, ◌^◌, ◌<◌, ◌∙◌, ap, subst, arith, rules, length}
use Rattle.std.{specs.Io.KnownBytes.append_known, proofs.lemmas.Result.err_from_is_err_and}
use Rattle.tick_io.specs.Written.{AppendsPrefix}
use Rattle.tick_model.specs.Texts.{step_records}
use Rattle.replay.{specs.ToCome.text_from, proofs.Exits.{none_written, step_begun}, proofs.Prints.{count_is, on_err, step_is}, proofs.RecordCounts.{length-updates_more, updates_few}, proofs.Spoils.good_before_next}
use Rattle.replay.proofs.progress.PrintedRun.advance.Goals as goal

pub returns-in_err-more-clause-prefix : goal.returns-in_err-more-clause-prefix
returns-in_err-more-clause-prefix g c =
    let run = c.args.run.now in
    let step = c.args.self.graph.step in
    on_err c.from_residual-in_err-more.result
    (step_begun run (step + 1) (omega (arith, c.requires.next)) (g.S.Sink.bytes c.args.out.now) (g.S.Sink.bytes c.write_step.new.out) (good_before_next run (step + 1) c.in_ok-graph.ensures.good)
    (subst (AppendsPrefix (g.S.Sink.bytes c.args.out.now) (g.S.Sink.bytes c.write_step.new.out)) (step_is run (step + 1) _ _ c.in_ok-graph.ensures.run c.in_ok-graph.ensures.step) c.in_err-more.ensures.err))

pub overflow_add-result : goal.overflow_add-result
overflow_add-result g c =
    let run = c.args.run.now in
    let step = c.args.self.graph.step in
    let few = updates_few run c.requires.lawful (step + 1) (omega (arith, c.requires.next)) c.in_ok-graph.ensures.good.reached in
    let more : c.in_ok-more.more ≡ length (step_records run (step + 1)) = count_is run (step + 1) _ _ c.in_ok-more.more c.in_ok-graph.ensures.run c.in_ok-graph.ensures.step c.in_ok-more.ensures.count in
    let small : c.args.self.records + c.in_ok-more.more < 2 ^ 64 = omega (arith, few, length-updates_more run step, c.requires.stands.records_are, more) in
    search rules

pub returns-clause-stands : goal.returns-clause-stands
returns-clause-stands g c =
    let run = c.args.run.now in
    let step = c.args.self.graph.step in
    let more : c.in_ok-more.more ≡ length (step_records run (step + 1)) = count_is run (step + 1) _ _ c.in_ok-more.more c.in_ok-graph.ensures.run c.in_ok-graph.ensures.step c.in_ok-more.ensures.count in
    record {
      run_is = c.in_ok-graph.ensures.run;
      step_is = c.in_ok-graph.ensures.step;
      good = c.in_ok-graph.ensures.good;
      printed_are = c.requires.stands.printed_are;
      records_are = omega (arith, length-updates_more run step, c.requires.stands.records_are, more);
    }

pub returns-clause-whole : goal.returns-clause-whole
returns-clause-whole g c =
    c.in_ok-more.ensures.whole ∙ ap (append_known (g.S.Sink.bytes c.args.out.now)) (step_is c.args.run.now (c.args.self.graph.step + 1) _ _ c.in_ok-graph.ensures.run c.in_ok-graph.ensures.step)

pub returns-in_err-graph-clause-failed : goal.returns-in_err-graph-clause-failed
returns-in_err-graph-clause-failed g c is =
    let p = err_from_is_err_and c.from_residual.result c.from_residual.ensures.1 in
    absurd (c.in_err-graph.ensures.no_write (cc))

pub returns-in_err-graph-clause-prefix : goal.returns-in_err-graph-clause-prefix
returns-in_err-graph-clause-prefix g c =
    on_err c.from_residual.result (none_written (g.S.Sink.bytes c.args.out.now) (text_from c.args.run.now (c.args.self.graph.step + 1)))
