use Rattle.std.proofs.Common.{◌≡◌, ◌∙◌, ap, arith, sym, subst, List}
use Rattle.std.specs.Io.KnownBytes.{append_known}
use Rattle.tick_io.proofs.RisingCounts.{rose_earlier}
use Rattle.tick_model.specs.Spoiled.{good}
use Rattle.replay.{specs.declared.readers.KeptSnapshot.KeptSnapshot, specs.Snapshots.{AreTaking, all_steps}, specs.Wholes.{WritesRest, rest_from}, proofs.Spoils.cause_ends, proofs.WholeTexts.{all_after_opening, no_text_at_opening, none_at_opening, some_after_opening, some_updates, text_after_opening}}
use Rattle.replay.proofs.run.run_kept.Goals as goal

pub returns-in-Ok-clause-ended : goal.returns-in-Ok-clause-ended
returns-in-Ok-clause-ended g c =
    let run = c.args.run.now in
    let knobs = c.args.knobs.now in
    let old = g.S.Sink.bytes c.args.out.now in
    let mid = g.S.Sink.bytes c.open_run.new.out in
    let new = g.S.Sink.bytes c.run_opened.new.out in
    let good = c.in-Ok.ensures.opened.stands.good in
    let rest = c.run_opened.ensures.ended in
    record {
      end = rest.end;
      whole = λ told. all_after_opening run knobs good old mid new c.in-Ok.ensures.whole (rest.whole told);
      prefix = some_after_opening run knobs good old mid new c.in-Ok.ensures.whole rest.prefix;
      failed = λ is. rose_earlier (g.S.Sink.failures c.args.out.now) (g.S.Sink.failures c.open_run.new.out) (g.S.Sink.failures c.run_opened.new.out) c.in-Ok.ensures.never_falls (rest.failed is);
      never_falls = omega (arith, c.in-Ok.ensures.never_falls, rest.never_falls);
      steady = λ told. rest.steady told ∙ c.in-Ok.ensures.steady;
    }

pub returns-in-Ok-clause-kept : goal.returns-in-Ok-clause-kept
returns-in-Ok-clause-kept g c = λ told.
    text_after_opening c.args.run.now c.args.knobs.now c.in-Ok.ensures.opened.stands.good (g.S.Sink.bytes c.args.out.now) (g.S.Sink.bytes c.open_run.new.out) (g.S.Sink.bytes c.run_opened.new.out) c.in-Ok.ensures.whole
    (all_steps c.run_opened.result.snapshots) (c.run_opened.ensures.kept told)

pub returns-in-Err-clause-ended : goal.returns-in-Err-clause-ended
returns-in-Err-clause-ended g c =
    let run = c.args.run.now in
    let knobs = c.args.knobs.now in
    let outcome = c.in-Err.outcome in
    let old = g.S.Sink.bytes c.args.out.now in
    let new = g.S.Sink.bytes c.open_run.new.out in
    record {
      end = λ told. cause_ends run 0 outcome (omega arith) (λ k below. absurd (omega (arith, below))) (c.in-Err.ensures.cause told);
      whole = λ told. subst (WritesRest run knobs 0 old) (sym (c.in-Err.ensures.ended told)) (none_at_opening run knobs outcome old (c.in-Err.ensures.cause told));
      prefix = some_updates run knobs 0 old new c.in-Err.ensures.prefix;
      failed = λ is. c.in-Err.ensures.failed (cc);
      never_falls = c.in-Err.ensures.never_falls;
      steady = λ told. c.in-Err.ensures.steady told;
    }

pub returns-in-Err-clause-kept : goal.returns-in-Err-clause-kept
returns-in-Err-clause-kept g c = λ told.
    let old = g.S.Sink.bytes c.args.out.now in
    c.in-Err.ensures.ended told
    ∙ no_text_at_opening c.args.run.now c.args.knobs.now c.in-Err.outcome old (c.in-Err.ensures.cause told)
    ∙ ap (λ (all : List (List KeptSnapshot)). append_known old (rest_from c.args.run.now 0 (good c.args.run.now) (all_steps all))) (sym c.new.ensures)

pub returns-in-Err-clause-tried : goal.returns-in-Err-clause-tried
returns-in-Err-clause-tried g c = subst (AreTaking c.args.knobs.now.attempts) (sym c.new.ensures) tt
