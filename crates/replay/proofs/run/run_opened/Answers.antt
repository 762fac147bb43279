use Rattle.std.proofs.Common.{◌≡◌, ◌≤◌, ◌∙◌, ap, sym, subst, arith, rules, length}
use Rattle.tick_io.proofs.RisingCounts.{rose_earlier}
use Rattle.replay.{specs.Outcomes.{IsEnd, IsTold}, specs.Snapshots.{AreTaking, EachReader, HasRead, IsReader, all_steps}, proofs.KeptInEnd.written_back, proofs.WholeTexts.{all_after_updates, some_after_updates, some_updates, text_after_updates}}
use Rattle.replay.proofs.run.run_opened.Goals as goal

pub run_beside-outcome-requires-clause-readers : goal.run_beside-outcome-requires-clause-readers
run_beside-outcome-requires-clause-readers g c κs within =
    let publication = c.args.opened.publication in
    subst (EachReader (λ number. IsReader publication.store c.args.knobs.now.attempts number 0)) (sym c.as_mut_slice.ensures.value) (c.requires.opened.started.read c.args.knobs.now.attempts)

pub returns-then-not-is_told-clause-ended : goal.returns-then-not-is_told-clause-ended
returns-then-not-is_told-clause-ended g c =
    let ran = c.run_beside-outcome.ensures.ran in
    let untold : IsTold c.run_beside-outcome.result → ⊥ = search rules in
    record {
      end = λ told. absurd (untold told);
      whole = λ told. absurd (untold told);
      prefix = some_updates c.args.run.now c.args.knobs.now 1 (g.S.Sink.bytes c.args.out.now) (g.S.Sink.bytes c.run_beside-outcome.new.out) ran.prefix;
      failed = ran.failed;
      never_falls = ran.never_falls;
      steady = λ told. absurd (untold told);
    }

pub returns-then-not-is_told-clause-kept : goal.returns-then-not-is_told-clause-kept
returns-then-not-is_told-clause-kept g c = λ told.
    let untold : IsTold c.run_beside-outcome.result → ⊥ = search rules in
    absurd (untold told)

pub returns-then-not-is_told-clause-tried : goal.returns-then-not-is_told-clause-tried
returns-then-not-is_told-clause-tried g c = subst (AreTaking c.args.knobs.now.attempts) (sym c.new.ensures) tt

pub ended-requires-clause-read : goal.ended-requires-clause-read
ended-requires-clause-read g c κs within =
    let readers = c.args.opened.publication.readers in
    let new = c.run_beside-outcome.new.readers in
    let long : length new ≡ length readers.items = omega (arith, ap length c.as_mut_slice.ensures.value, c.run_beside-outcome.auto.readers) in
    subst (EachReader (λ number. HasRead c.args.opened.publication.store c.args.knobs.now.attempts number c.args.knobs.now.snaps)) (sym (written_back readers.len new readers.items long readers.ok.0)) c.run_beside-outcome.ensures.read

pub returns-clause-ended : goal.returns-clause-ended
returns-clause-ended g c =
    let run = c.args.run.now in
    let knobs = c.args.knobs.now in
    let ran = c.run_beside-outcome.ensures.ran in
    let told : IsTold c.run_beside-outcome.result = search rules in
    let last = c.run_beside-outcome.new.writer.step in
    let old = g.S.Sink.bytes c.args.out.now in
    let mid = g.S.Sink.bytes c.run_beside-outcome.new.out in
    let new = g.S.Sink.bytes c.ended.new.out in
    record {
      end = λ still. subst (IsEnd run) (sym (c.ended.ensures.same still)) (ran.end told);
      whole = λ still. all_after_updates run knobs 1 last (ran.last_is told).good_is old mid new (ran.whole told) (c.ended.ensures.whole still);
      prefix = some_after_updates run knobs 1 last (ran.last_is told).good_is old mid new (ran.whole told) c.ended.ensures.prefix;
      failed = λ is. rose_earlier (g.S.Sink.failures c.args.out.now) (g.S.Sink.failures c.run_beside-outcome.new.out) (g.S.Sink.failures c.ended.new.out) ran.never_falls (c.ended.ensures.failed is);
      never_falls = omega (arith, ran.never_falls, c.ended.ensures.never_falls);
      steady = λ still. c.ended.ensures.steady still ∙ ran.steady told;
    }

pub returns-clause-kept : goal.returns-clause-kept
returns-clause-kept g c = λ still.
    let ran = c.run_beside-outcome.ensures.ran in
    let told : IsTold c.run_beside-outcome.result = search rules in
    text_after_updates c.args.run.now c.args.knobs.now 1 c.run_beside-outcome.new.writer.step (ran.last_is told).good_is (g.S.Sink.bytes c.args.out.now) (g.S.Sink.bytes c.run_beside-outcome.new.out) (g.S.Sink.bytes c.ended.new.out) (ran.whole told)
    (all_steps c.ended.result.snapshots) (c.ended.ensures.kept still)
