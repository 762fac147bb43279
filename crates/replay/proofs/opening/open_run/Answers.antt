use Rattle.std.proofs.Common.{◌≡◌, ◌∙◌, ap, sym, subst, arith, List}
use Rattle.tick_model.{specs.Texts.{records_text, step_records}, specs.declared.plan.Published.Published}
use Rattle.replay.{specs.Opened.IsStarted, specs.Snapshots.callers_of, proofs.Exits.{all_written, step_begun}, proofs.Prints.on_err, proofs.Spoils.good_before_next}
use Rattle.replay.proofs.opening.open_run.Goals as goal

pub published-requires-clause-within : goal.published-requires-clause-within
published-requires-clause-within g c = c.in_ok-progress.ensures.stands.good.within 0 (omega arith)

pub returns-in_err-publication-clause-prefix : goal.returns-in_err-publication-clause-prefix
returns-in_err-publication-clause-prefix g c =
    let run = c.args.run.now in
    on_err c.from_residual-in_err-publication.result
    (step_begun run 0 (omega arith) (g.S.Sink.bytes c.args.out.now) (g.S.Sink.bytes c.open.new.out) (good_before_next run 0 c.in_ok-progress.ensures.stands.good)
    (all_written (g.S.Sink.bytes c.args.out.now) (g.S.Sink.bytes c.open.new.out) (records_text (step_records run 0)) c.in_ok-progress.ensures.whole))

pub returns-clause-opened : goal.returns-clause-opened
returns-clause-opened g c = record {
  stands = c.in_ok-progress.ensures.stands;
  started = subst (λ callers. IsStarted c.args.run.now callers c.in_ok-publication.publication) (c.caller_count-callers.ensures ∙ ap (λ (tables : List Published). callers_of tables c.args.knobs.now.callers) c.as_slice.ensures) c.in_ok-publication.ensures;
}
