-- What was written where a run ends before its last step.
use Rattle.std.proofs.Common.{◌≡◌, refl, sym, ap, ◌∙◌, subst, ℕ, ◌+◌, ◌≤◌, ◌++◌, arith, append_assoc, length, List, [], Option, Some, None}
use Rattle.std.{specs.Io.KnownBytes.append_known, proofs.lemmas.List.{append-nil, take_all}}
use Rattle.tick_io.{specs.Written.AppendsPrefix, proofs.Prefixes.{append_known-append_known, prefix_after, prefix_longer}}
use Rattle.tick_model.{specs.declared.feed.Run.Run, specs.Texts.{records_text, step_records}}
use Rattle.replay.{specs.declared.outcome.Outcome.Outcome, specs.Causes.IsCause, specs.ToCome.text_from, proofs.Spoils.{AreGoodBefore, cause_spoils}, proofs.TextsToCome.{good_before, text_ends, text_ends_after, text_next}}

-- nothing was written
pub nothing_appended : (bytes : Option (List ℕ)) → append_known bytes [] ≡ bytes
nothing_appended None = refl
nothing_appended (Some bytes) = ap (λ (known : List ℕ). Some known) (append-nil bytes)

pub none_written : (bytes : Option (List ℕ)) (text : List ℕ) → AppendsPrefix bytes bytes text
none_written bytes text = (0, omega arith, sym (nothing_appended bytes))

-- a text that was written whole is a prefix of itself
pub all_written : (old new : Option (List ℕ)) (text : List ℕ) → new ≡ append_known old text → AppendsPrefix old new text
all_written old new text whole = (length text, omega arith, whole ∙ ap (append_known old) (sym (take_all (length text) text (omega arith))))

module _ (run : Run) (step : ℕ) (within : step ≤ length run.batches) where
  -- where the step is spoiled, nothing more is to come
  pub cause_stops : (outcome : Outcome) → AreGoodBefore run step → IsCause run step outcome → text_from run step ≡ []
  cause_stops outcome before is = text_ends run step (cause_spoils run step outcome within before is)

  -- a step that is good is the first of what is to come
  pub step_comes : AreGoodBefore run (step + 1) → text_from run step ≡ records_text (step_records run step) ++ text_from run (step + 1)
  step_comes before =
      let good = good_before run (step + 1) (omega (arith, within)) before in
      text_next run step (omega (arith, good))

  pub step_begun : (old new : Option (List ℕ)) → AreGoodBefore run (step + 1) → AppendsPrefix old new (records_text (step_records run step)) → AppendsPrefix old new (text_from run step)
  step_begun old new before prefix =
      subst (AppendsPrefix old new) (sym (step_comes before)) (prefix_longer old new (records_text (step_records run step)) (text_from run (step + 1)) prefix)

-- the steps up to one are printed, and the text of those after it is still to come
module _ (run : Run) (step at : ℕ) (stands : at ≡ step) (old mid : Option (List ℕ)) (done all : List ℕ) (written : mid ≡ append_known old done) (splits : done ++ text_from run (step + 1) ≡ all) where
  splits_there : done ++ text_from run (at + 1) ≡ all
  splits_there = ap (λ n. done ++ text_from run (n + 1)) stands ∙ splits

  -- nothing more was written, and nothing was to come
  pub ended_after : (new : Option (List ℕ)) → new ≡ mid → text_from run (at + 1) ≡ [] → new ≡ append_known old all
  ended_after new same none =
      same ∙ written ∙ ap (append_known old) (sym (append-nil done) ∙ ap (λ rest. done ++ rest) (sym none) ∙ splits_there)

  pub begun_after : (new : Option (List ℕ)) → AppendsPrefix mid new (text_from run (at + 1)) → AppendsPrefix old new all
  begun_after new prefix = subst (AppendsPrefix old new) splits_there (prefix_after old mid new done (text_from run (at + 1)) written prefix)

  pub step_after : (new : Option (List ℕ)) → new ≡ append_known mid (records_text (step_records run (at + 1))) → new ≡ append_known old (done ++ records_text (step_records run (step + 1)))
  step_after new more =
      more ∙ ap (λ n. append_known mid (records_text (step_records run (n + 1)))) stands
      ∙ ap (λ known. append_known known (records_text (step_records run (step + 1)))) written
      ∙ append_known-append_known old done (records_text (step_records run (step + 1)))

  pub splits_after : step + 1 ≤ length run.batches → AreGoodBefore run (step + 1 + 1) → (done ++ records_text (step_records run (step + 1))) ++ text_from run (step + 1 + 1) ≡ all
  splits_after within before =
      append_assoc done (records_text (step_records run (step + 1))) (text_from run (step + 1 + 1))
      ∙ ap (λ rest. done ++ rest) (sym (step_comes run (step + 1) within before)) ∙ splits

  pub all_after : step ≡ length run.batches → mid ≡ append_known old all
  all_after last =
      written ∙ ap (append_known old)
      (sym (append-nil done) ∙ ap (λ rest. done ++ rest) (sym (ap (λ n. text_from run (n + 1)) last ∙ text_ends_after run)) ∙ splits)
