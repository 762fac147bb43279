use Rattle.std.proofs.Common.{◌≡◌, ◌≤◌, ◌<◌, ◌∙◌, ap, arith, subst, sym, List}
use Rattle.std.specs.Io.KnownBytes.{append_known}
use Rattle.replay.{specs.declared.readers.KeptSnapshot.KeptSnapshot, specs.Kept.kept_words, specs.Outcomes.{last_written, text_until}, specs.Snapshots.{AreTaking, all_steps}, proofs.WholeTexts.{all_text, end_is_verdict, no_text, told_is_complete, wrote_no_prefix, wrote_none, wrote_some, wrote_whole}}
use Rattle.replay.proofs.run.replay_feed.Goals as goal

pub returns-then-words-gt-MOST_WORDS-clause-prefix : goal.returns-then-words-gt-MOST_WORDS-clause-prefix
returns-then-words-gt-MOST_WORDS-clause-prefix g c =
    wrote_no_prefix c.args.run.now c.args.knobs.now (g.S.Sink.bytes c.args.out.now) (omega (arith, c.if-words-gt-MOST_WORDS.true, c.kept_words-words.ensures))

pub returns-then-words-gt-MOST_WORDS-clause-whole : goal.returns-then-words-gt-MOST_WORDS-clause-whole
returns-then-words-gt-MOST_WORDS-clause-whole g c = λ told.
    wrote_none c.args.run.now c.args.knobs.now (g.S.Sink.bytes c.args.out.now) (omega (arith, c.if-words-gt-MOST_WORDS.true, c.kept_words-words.ensures))

pub returns-then-words-gt-MOST_WORDS-clause-kept : goal.returns-then-words-gt-MOST_WORDS-clause-kept
returns-then-words-gt-MOST_WORDS-clause-kept g c = λ told.
    let old = g.S.Sink.bytes c.args.out.now in
    no_text c.args.run.now c.args.knobs.now old (omega (arith, c.if-words-gt-MOST_WORDS.true, c.kept_words-words.ensures))
    ∙ ap (λ (all : List (List KeptSnapshot)). append_known old (text_until c.args.run.now (last_written c.args.run.now c.args.knobs.now) (all_steps all))) (sym c.new.ensures)

pub returns-then-words-gt-MOST_WORDS-clause-tried : goal.returns-then-words-gt-MOST_WORDS-clause-tried
returns-then-words-gt-MOST_WORDS-clause-tried g c = subst (AreTaking c.args.knobs.now.attempts) (sym c.new.ensures) tt

pub returns-clause-verdict : goal.returns-clause-verdict
returns-clause-verdict g c = λ told.
    end_is_verdict c.args.run.now c.args.knobs.now c.run_kept.result.outcome (omega (arith, c.if-words-gt-MOST_WORDS.false, c.kept_words-words.ensures)) (c.run_kept.ensures.ended.end told)

pub returns-clause-whole : goal.returns-clause-whole
returns-clause-whole g c = λ told.
    wrote_whole c.args.run.now c.args.knobs.now (g.S.Sink.bytes c.args.out.now) (g.S.Sink.bytes c.run_kept.new.out) (omega (arith, c.if-words-gt-MOST_WORDS.false, c.kept_words-words.ensures)) (c.run_kept.ensures.ended.whole told)

pub returns-clause-prefix : goal.returns-clause-prefix
returns-clause-prefix g c =
    wrote_some c.args.run.now c.args.knobs.now (g.S.Sink.bytes c.args.out.now) (g.S.Sink.bytes c.run_kept.new.out) (omega (arith, c.if-words-gt-MOST_WORDS.false, c.kept_words-words.ensures)) c.run_kept.ensures.ended.prefix

pub returns-clause-complete : goal.returns-clause-complete
returns-clause-complete g c = λ steady.
    told_is_complete c.args.run.now c.args.knobs.now c.run_kept.result.outcome
    (λ told. end_is_verdict c.args.run.now c.args.knobs.now c.run_kept.result.outcome (omega (arith, c.if-words-gt-MOST_WORDS.false, c.kept_words-words.ensures)) (c.run_kept.ensures.ended.end told))
    (λ is. steady (c.run_kept.ensures.ended.failed is))

pub returns-clause-kept : goal.returns-clause-kept
returns-clause-kept g c = λ told.
    all_text c.args.run.now c.args.knobs.now (g.S.Sink.bytes c.args.out.now) (g.S.Sink.bytes c.run_kept.new.out) (omega (arith, c.if-words-gt-MOST_WORDS.false, c.kept_words-words.ensures))
    (all_steps c.run_kept.result.snapshots) (c.run_kept.ensures.kept told)
