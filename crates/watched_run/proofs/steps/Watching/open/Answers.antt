use Rattle.std.proofs.Common.{◌+◌, ◌<◌, ◌++◌, ◌∙◌, ap₂, arith}
use Rattle.std.proofs.lemmas.Result.{err_from_is_err_and}
use Rattle.tick_model.{specs.Spoiled.good, specs.Texts.records_text}
use Rattle.replay.{proofs.Exits.none_written, proofs.Prints.on_err}
use Rattle.watched_run.{specs.Messages.first_records, specs.ToCome.{text_from, watch_until}, proofs.TextsTold.{first_begun, opens}, proofs.Stood.{node_of, table_of}}
use Rattle.watched_run.proofs.steps.Watching.open.Goals as goal

pub table-table-requires : goal.table-table-requires
table-table-requires g c = node_of c.args.run.now c.args.watch.now c.requires.watch c.in_ok-graph.graph.run c.in_ok-graph.ensures.run

pub start-requires-clause-reached : goal.start-requires-clause-reached
start-requires-clause-reached g c κs within = c.in_ok-graph.ensures.good.reached

pub start-requires-clause-table : goal.start-requires-clause-table
start-requires-clause-table g c κs within =
    table_of c.args.run.now c.requires.lawful c.args.watch.now c.requires.watch 0 c.in_ok-graph.ensures.good.reached c.in_ok-graph.graph.run c.in_ok-graph.graph.step c.table-table.result.now c.in_ok-graph.ensures.run c.in_ok-graph.ensures.step c.table-table.ensures

pub returns-in_err-graph-clause-prefix : goal.returns-in_err-graph-clause-prefix
returns-in_err-graph-clause-prefix g c =
    on_err c.from_residual.result (none_written (g.S.Sink.bytes c.args.out.now) (watch_until c.args.run.now c.args.watch.now (good c.args.run.now)))

pub returns-in_err-graph-clause-failed : goal.returns-in_err-graph-clause-failed
returns-in_err-graph-clause-failed g c is =
    let p = err_from_is_err_and c.from_residual.result c.from_residual.ensures.1 in
    absurd (c.in_err-graph.ensures.no_write (cc))

pub returns-in_err-teller-clause-prefix : goal.returns-in_err-teller-clause-prefix
returns-in_err-teller-clause-prefix g c =
    on_err c.from_residual-in_err-teller.result
    (first_begun c.args.run.now c.args.watch.now (g.S.Sink.bytes c.args.out.now) (g.S.Sink.bytes c.start.new.out) c.in_ok-graph.ensures.good c.in_err-teller.ensures.prefix)

pub returns-in_err-teller-clause-cause : goal.returns-in_err-teller-clause-cause
returns-in_err-teller-clause-cause g c =
    let p = err_from_is_err_and c.from_residual-in_err-teller.result c.from_residual-in_err-teller.ensures.1 in
    rw (p.1, p.2) (λ told. absurd (c.in_err-teller.ensures.no_cause told))

pub returns-in_err-teller-clause-ended : goal.returns-in_err-teller-clause-ended
returns-in_err-teller-clause-ended g c =
    let p = err_from_is_err_and c.from_residual-in_err-teller.result c.from_residual-in_err-teller.ensures.1 in
    rw (p.1, p.2) (λ told. absurd (c.in_err-teller.ensures.no_cause told))

pub returns-clause-stands : goal.returns-clause-stands
returns-clause-stands g c = record {
  run_is = c.in_ok-graph.ensures.run;
  step_is = c.in_ok-graph.ensures.step;
  good = c.in_ok-graph.ensures.good;
  tells = c.in_ok-teller.ensures.stands;
  here = omega (arith, c.in_ok-teller.ensures.last, c.in_ok-teller.ensures.since);
  not_due = omega (arith, c.in_ok-teller.ensures.since, c.requires.watch.some_steps);
}

pub returns-clause-told : goal.returns-clause-told
returns-clause-told g c =
    let run = c.args.run.now in
    let watch = c.args.watch.now in
    record {
      text = records_text (first_records run watch);
      written = c.in_ok-teller.ensures.whole;
      rest = ap₂ (λ last since. records_text (first_records run watch) ++ text_from run watch last since) c.in_ok-teller.ensures.last c.in_ok-teller.ensures.since ∙ opens run watch c.in_ok-graph.ensures.good;
    }
