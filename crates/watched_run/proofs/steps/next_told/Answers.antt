use Rattle.std.proofs.Common.{◌≡◌, ◌+◌, ◌++◌, ◌<◌, ◌≤◌, ◌∙◌, refl, suc, sym, ap, ap₂, subst, arith}
use Rattle.std.specs.Io.KnownBytes.{append_known}
use Rattle.tick_io.{specs.Written.AppendsPrefix, proofs.Prefixes.prefix_longer}
use Rattle.tick_laws.specs.Reached.{IsReached}
use Rattle.tick_model.specs.Texts.{records_text}
use Rattle.replay.{proofs.Exits.none_written, proofs.Prints.on_err}
use Rattle.watched_run.{specs.Messages.message_records, specs.ToCome.text_from, proofs.Stood.{few_steps, node_of, table_of, tick_of_node}, proofs.TextsTold.{due, goes_nowhere, waits}}
use Rattle.watched_run.proofs.steps.next_told.Goals as goal

pub table-table-requires : goal.table-table-requires
table-table-requires g c = node_of c.args.run.now c.args.watch.now c.requires.watch c.args.graph.run c.requires.run

pub pass-requires-clause-reached : goal.pass-requires-clause-reached
pass-requires-clause-reached g c =
    let here : c.args.graph.step ≡ c.args.teller.last + suc c.args.teller.since = omega (arith, c.requires.next) in
    subst (IsReached c.args.run.now) here c.requires.good.reached

pub pass-requires-clause-table : goal.pass-requires-clause-table
pass-requires-clause-table g c =
    let here : c.args.graph.step ≡ c.args.teller.last + suc c.args.teller.since = omega (arith, c.requires.next) in
    tick_of_node c.args.run.now c.args.watch.now c.requires.watch (c.args.teller.last + suc c.args.teller.since) c.args.graph.run c.args.graph.step c.table-table.result.now c.requires.run here c.table-table.ensures

pub returns-in_err-passed-clause-prefix : goal.returns-in_err-passed-clause-prefix
returns-in_err-passed-clause-prefix g c =
    on_err c.from_residual.result (none_written (g.S.Sink.bytes c.args.out.now) (text_from c.args.run.now c.args.watch.now c.args.teller.last c.args.teller.since))

pub returns-then-passed-watch-clause-stands : goal.returns-then-passed-watch-clause-stands
returns-then-passed-watch-clause-stands g c = record {
  run_is = c.requires.run;
  step_is = refl;
  good = c.requires.good;
  tells = c.in_ok-passed.ensures.stands;
  here = omega (arith, c.in_ok-passed.ensures.last, c.in_ok-passed.ensures.since, c.requires.next);
  not_due = c.if-passed-watch.true;
}

pub returns-then-passed-watch-clause-told : goal.returns-then-passed-watch-clause-told
returns-then-passed-watch-clause-told g c =
    let run = c.args.run.now in
    let watch = c.args.watch.now in
    let own = c.args.teller in
    goes_nowhere run watch (text_from run watch own.last own.since) (g.S.Sink.bytes c.args.out.now) (record { graph = c.args.graph; teller = c.in_ok-passed.passed })
    (waits run watch own.last own.since c.args.graph.step c.requires.next c.requires.within c.requires.good (omega (arith, c.in_ok-passed.ensures.since, c.if-passed-watch.true))
    ∙ ap₂ (text_from run watch) (sym c.in_ok-passed.ensures.last) (sym c.in_ok-passed.ensures.since))

pub message-requires-clause-reached : goal.message-requires-clause-reached
message-requires-clause-reached g c κs within =
    let here : c.args.graph.step ≡ c.in_ok-passed.passed.last + c.in_ok-passed.passed.since = omega (arith, c.in_ok-passed.ensures.last, c.in_ok-passed.ensures.since, c.requires.next) in
    subst (IsReached c.args.run.now) here c.requires.good.reached

pub message-requires-clause-few : goal.message-requires-clause-few
message-requires-clause-few g c κs within =
    few_steps c.args.run.now c.requires.lawful (c.in_ok-passed.passed.last + c.in_ok-passed.passed.since) (omega (arith, c.in_ok-passed.ensures.last, c.in_ok-passed.ensures.since, c.requires.next, c.requires.within))

pub message-requires-clause-table : goal.message-requires-clause-table
message-requires-clause-table g c κs within =
    let here : c.args.graph.step ≡ c.in_ok-passed.passed.last + c.in_ok-passed.passed.since = omega (arith, c.in_ok-passed.ensures.last, c.in_ok-passed.ensures.since, c.requires.next) in
    table_of c.args.run.now c.requires.lawful c.args.watch.now c.requires.watch (c.in_ok-passed.passed.last + c.in_ok-passed.passed.since) (subst (IsReached c.args.run.now) here c.requires.good.reached)
    c.args.graph.run c.args.graph.step c.table-table.result.now c.requires.run here c.table-table.ensures

pub returns-in_err-told-clause-prefix : goal.returns-in_err-told-clause-prefix
returns-in_err-told-clause-prefix g c =
    let run = c.args.run.now in
    let watch = c.args.watch.now in
    let own = c.args.teller in
    let old = g.S.Sink.bytes c.args.out.now in
    let new = g.S.Sink.bytes c.message.new.out in
    let now : own.since + 1 ≡ watch.every = omega (arith, c.in_ok-passed.ensures.since, c.if-passed-watch.false, c.requires.not_due) in
    let same = ap₂ (λ last since. records_text (message_records run watch last since)) c.in_ok-passed.ensures.last c.in_ok-passed.ensures.since in
    on_err c.from_residual-in_err-told.result
    (subst (AppendsPrefix old new) (sym (due run watch own.last own.since c.args.graph.step c.requires.next c.requires.within c.requires.good now))
    (prefix_longer old new (records_text (message_records run watch own.last (own.since + 1))) (text_from run watch (own.last + (own.since + 1)) 0)
    (subst (AppendsPrefix old new) same c.in_err-told.ensures.prefix)))

pub returns-clause-stands : goal.returns-clause-stands
returns-clause-stands g c = record {
  run_is = c.requires.run;
  step_is = refl;
  good = c.requires.good;
  tells = c.in_ok-told.ensures.stands;
  here = omega (arith, c.in_ok-told.ensures.last, c.in_ok-told.ensures.since, c.in_ok-passed.ensures.last, c.in_ok-passed.ensures.since, c.requires.next);
  not_due = omega (arith, c.in_ok-told.ensures.since, c.requires.watch.some_steps);
}

pub returns-clause-told : goal.returns-clause-told
returns-clause-told g c =
    let run = c.args.run.now in
    let watch = c.args.watch.now in
    let own = c.args.teller in
    let now : own.since + 1 ≡ watch.every = omega (arith, c.in_ok-passed.ensures.since, c.if-passed-watch.false, c.requires.not_due) in
    let same = ap₂ (λ last since. records_text (message_records run watch last since)) c.in_ok-passed.ensures.last c.in_ok-passed.ensures.since in
    record {
      text = records_text (message_records run watch own.last (own.since + 1));
      written = c.in_ok-told.ensures.whole ∙ ap (append_known (g.S.Sink.bytes c.args.out.now)) same;
      rest =
          ap₂ (λ last since. records_text (message_records run watch own.last (own.since + 1)) ++ text_from run watch last since)
          (c.in_ok-told.ensures.last ∙ ap₂ (λ last since. last + since) c.in_ok-passed.ensures.last c.in_ok-passed.ensures.since) c.in_ok-told.ensures.since
          ∙ sym (due run watch own.last own.since c.args.graph.step c.requires.next c.requires.within c.requires.good now);
    }
