-- The text that is still to come, step by step.
use Rattle.std.proofs.Common.{◌≡◌, refl, sym, ap, ◌∙◌, ℕ, zero, suc, ◌+◌, ◌-◌, ◌<◌, ◌≤◌, ◌++◌, arith, inl, inr, true, false, true≢false, length, List, [], Option, Some, None}
use Rattle.std.{specs.Prelude.{is_some, flat_map, unwrap_or}, specs.List.range_with_len, proofs.lemmas.Bool.cases_lt, proofs.lemmas.Grind.flat_map-append}
use Rattle.key_lists.proofs.Every.{found_passes}
use Rattle.tick_laws.proofs.GoodSteps.{first_within}
use Rattle.tick_model.{specs.declared.feed.Run.Run, specs.Spoiled.{first_spoiled, spoiled_by, step_before}, specs.Texts.{record_text, records_text, step_records}}
use Rattle.replay.{specs.ToCome.{good_steps, good_updates, text_from, updates_until}, proofs.Spoils.AreGoodBefore}

module _ (run : Run) where
  abbrev steps_text : ℕ → ℕ → List ℕ
  steps_text first count = records_text (flat_map (step_records run) (range_with_len first count))

  -- steps before which none is spoiled are among the good ones
  pub good_before : (step : ℕ) → step ≤ length run.batches + 1 → AreGoodBefore run step → step ≤ good_steps run
  good_before step within before = go (first_spoiled run) refl
    where
      go : (o : Option ℕ) → first_spoiled run ≡ o → step ≤ unwrap_or o (length run.batches + 1)
      go None e = within
      go (Some m) e =
          elim (cases_lt m step) [
            | inl below ↦
                absurd (true≢false (sym (found_passes (λ k. is_some (spoiled_by run k)) (range_with_len 0 (length run.batches + 1)) m e) ∙ ap is_some (before m below)))
            | inr past ↦ past
          ]

  good_within : good_steps run ≤ length run.batches + 1
  good_within = go (first_spoiled run) refl
    where
      go : (o : Option ℕ) → first_spoiled run ≡ o → unwrap_or o (length run.batches + 1) ≤ length run.batches + 1
      go None e = omega arith
      go (Some m) e = let within = first_within (λ k. is_some (spoiled_by run k)) 0 (length run.batches + 1) m e in omega (arith, within)

  -- a good step, and those after it
  pub text_next : (step : ℕ) → step < good_steps run → text_from run step ≡ records_text (step_records run step) ++ text_from run (step + 1)
  text_next step less =
      let one_more : good_steps run - step ≡ suc (good_steps run - (step + 1)) = omega (arith, less) in
      ap (steps_text step) one_more
      ∙ flat_map-append record_text (step_records run step) (flat_map (step_records run) (range_with_len (step + 1) (good_steps run - (step + 1))))

  -- past the last good step nothing is to come
  pub text_past : (step : ℕ) → good_steps run ≤ step → text_from run step ≡ []
  text_past step past =
      let none : good_steps run - step ≡ 0 = omega (arith, past) in
      ap (steps_text step) none

  pub text_ends : (step : ℕ) → first_spoiled run ≡ Some step → text_from run step ≡ []
  text_ends step first = text_past step (omega (arith, ap (λ (o : Option ℕ). unwrap_or o (length run.batches + 1)) first))

  pub text_ends_after : text_from run (length run.batches + 1) ≡ []
  text_ends_after = text_past (length run.batches + 1) good_within

  -- from the opening on it is the text of all good steps
  pub text_whole : text_from run 0 ≡ good_updates run
  text_whole = go (first_spoiled run)
    where
      go : (o : Option ℕ) → steps_text 0 (unwrap_or o (length run.batches + 1) - 0) ≡ updates_until run (step_before (length run.batches) o)
      go None = let all : length run.batches + 1 - 0 ≡ length run.batches + 1 = omega arith in ap (steps_text 0) all
      go (Some zero) = refl
      go (Some (suc step)) = let all : suc step - 0 ≡ step + 1 = omega arith in ap (steps_text 0) all
