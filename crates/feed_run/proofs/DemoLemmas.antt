-- A made run in memory: it has no spoiled step, its summary is that of the definition, and its snapshots have few words.
use Rattle.std.proofs.Common.{◌≡◌, ◌≤◌, ◌+◌, ◌*◌, ℕ, length, None, sym, ap, ◌∙◌, subst, arith}
use Rattle.std.{proofs.Math.Nat.mul-le-mul, proofs.lemmas.List.FromFn.length-map-range_with_len}
use Rattle.tick_model.{specs.declared.feed.Run.Run, specs.Spoiled.first_spoiled, specs.Texts.summary_text}
use Rattle.feed_reader.specs.Assembled.{plain_run}
use Rattle.made_run.{specs.Run.made, specs.Steps.batch_after}
use Rattle.replay.{specs.declared.outcome.Knobs.Knobs, specs.Kept.{kept_words, largest_words, most_words}}
use Rattle.feed_run.{proofs.PlainRuns.first_spoiled_plain, proofs.PlainTexts.summary_plain}

one_more : (snaps : ℕ) → snaps ≤ 64 → snaps + 1 ≤ 65
one_more snaps few = omega (arith, few)

times_few : (calls : ℕ) → calls ≤ 1040 → calls * 321 ≤ 16777216
times_few calls few = omega (arith, few)

-- a made run in memory
module _ (steps : ℕ) (run : Run) (is : plain_run run ≡ made steps) where
  pub made_unspoiled : first_spoiled (made steps) ≡ None → first_spoiled run ≡ None
  made_unspoiled none = sym (first_spoiled_plain run) ∙ ap first_spoiled is ∙ none

  pub made_last : length run.batches ≡ steps
  made_last = ap (λ (own : Run). length own.batches) is ∙ length-map-range_with_len batch_after 0 steps

  pub made_summary : summary_text run steps ≡ summary_text (made steps) steps
  made_summary = sym (summary_plain run steps) ∙ ap (λ (own : Run). summary_text own steps) is

  -- the largest published table of a made run has 321 words
  largest : largest_words run.plan.published ≡ 321
  largest = ap (λ (own : Run). largest_words own.plan.published) is

  pub few_words : (knobs : Knobs) → knobs.callers ≤ 16 → knobs.snaps ≤ 64 → kept_words run knobs ≤ most_words
  few_words knobs callers snaps =
      let calls = mul-le-mul {n₁ = knobs.callers} {m₁ = knobs.snaps + 1} {n₂ = 16} {m₂ = 65} callers (one_more knobs.snaps snaps) in
      subst (λ words. knobs.callers * (knobs.snaps + 1) * words ≤ most_words) (sym largest) (times_few (knobs.callers * (knobs.snaps + 1)) calls)
