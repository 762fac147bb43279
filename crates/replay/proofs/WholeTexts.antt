-- The whole text of a run: the updates of the good steps, and the snapshots of a choice.
use Rattle.std.proofs.Common.{◌≡◌, refl, sym, ap, ◌∙◌, subst, ℕ, zero, suc, ◌+◌, ◌<◌, ◌≤◌, ◌++◌, append_assoc, arith, length, le-ltb, lt-ltb, List, [], ◌∷◌, Option, Some, None, replicate}
use Rattle.std.{specs.Prelude.{nat_lt, unwrap_or}, specs.Io.KnownBytes.append_known, proofs.lemmas.Bool.{cond-true, cond-false}}
use Rattle.tick_io.{specs.Written.AppendsPrefix, proofs.Prefixes.{append_known-append_known, prefix_after, prefix_longer}}
use Rattle.tick_model.{specs.declared.feed.Run.Run, specs.Choices.IsChoice, specs.Spoiled.{first_spoiled, good, step_before}, specs.Texts.{records_text, snapshots_text, step_records, updates_text}}
use Rattle.replay.{specs.declared.outcome.Knobs.Knobs, specs.declared.outcome.Outcome.Outcome, specs.declared.outcome.Outcome.TheVariants.{Done, Memory, Kept, Feed, Node, Publish, Write}, specs.Causes.IsCause, specs.Kept.{kept_words, most_words}, specs.Outcomes.{IsComplete, IsEnd, IsLawfulChoice, IsTold, IsVerdict, WritesPrefix, WritesWhole, last_written, text_until}, specs.Standing.{IsGood, IsLast}, specs.ToCome.{good_steps, text_from, updates_until}, specs.Wholes.{AddsPrefix, AddsWhole, WritesRest, WritesSome, rest_from}, proofs.ChoicesMade.may_be_last, proofs.Exits.{none_written, nothing_appended, step_comes}, proofs.Spoils.{AreGoodBefore, cause_spoils, good_before_next, none_good}, proofs.TextsToCome.{good_before, text_past, text_whole}}

-- an outcome of the steps is the verdict where the words are few
pub end_is_verdict : (run : Run) (knobs : Knobs) (outcome : Outcome) → kept_words run knobs ≤ most_words → IsEnd run outcome → IsVerdict run knobs outcome
end_is_verdict run knobs (Done step records rows) few end = (few, end)
end_is_verdict run knobs Memory few end = absurd end
end_is_verdict run knobs (Kept words) few end = absurd end
end_is_verdict run knobs (Feed step number fault) few end = (few, end)
end_is_verdict run knobs (Node step node kind) few end = (few, end)
end_is_verdict run knobs (Publish step number rows limit) few end = (few, end)
end_is_verdict run knobs Write few end = absurd end

pub told_is_complete : (run : Run) (knobs : Knobs) (outcome : Outcome) → (IsTold outcome → IsVerdict run knobs outcome) → (outcome ≡ Write → ⊥) → IsComplete run knobs outcome
told_is_complete run knobs (Done step records rows) told unfailed = told tt
told_is_complete run knobs Memory told unfailed = tt
told_is_complete run knobs (Kept words) told unfailed = told tt
told_is_complete run knobs (Feed step number fault) told unfailed = told tt
told_is_complete run knobs (Node step node kind) told unfailed = told tt
told_is_complete run knobs (Publish step number rows limit) told unfailed = told tt
told_is_complete run knobs Write told unfailed = absurd (unfailed refl)

module _ (run : Run) (knobs : Knobs) where
  -- with few words the texts are written up to the last good step, with many none is
  few_written : kept_words run knobs ≤ most_words → last_written run knobs ≡ good run
  few_written few = cond-false (nat_lt most_words (kept_words run knobs)) None (good run) (le-ltb most_words (kept_words run knobs) few)

  many_written : most_words < kept_words run knobs → last_written run knobs ≡ None
  many_written many = cond-true (nat_lt most_words (kept_words run knobs)) None (good run) (lt-ltb most_words (kept_words run knobs) many)

  rest_is_all : (choice : List (List ℕ)) → rest_from run 0 (good run) choice ≡ text_until run (good run) choice
  rest_is_all choice = go (good run) refl
    where
      go : (last : Option ℕ) → good run ≡ last → rest_from run 0 last choice ≡ text_until run last choice
      go None is = refl
      go (Some last) is = ap (λ text. text ++ snapshots_text run choice) (text_whole run ∙ ap (updates_until run) is)

  module _ (old new : Option (List ℕ)) where
    pub all_text : kept_words run knobs ≤ most_words → (choice : List (List ℕ)) → new ≡ append_known old (rest_from run 0 (good run) choice) → new ≡ append_known old (text_until run (last_written run knobs) choice)
    all_text few choice written = written ∙ ap (append_known old) (rest_is_all choice ∙ ap (λ last. text_until run last choice) (sym (few_written few)))

    pub wrote_whole : kept_words run knobs ≤ most_words → WritesRest run knobs 0 old new → WritesWhole run knobs old new
    wrote_whole few rest = record {
      choice = rest.choice;
      lawful = subst (λ last. IsLawfulChoice knobs last rest.choice) (sym (few_written few)) rest.lawful;
      written = all_text few rest.choice rest.written;
    }

    pub wrote_some : kept_words run knobs ≤ most_words → WritesSome run knobs 0 old new → WritesPrefix run knobs old new
    wrote_some few rest = record {
      choice = rest.choice;
      lawful = subst (λ last. IsLawfulChoice knobs last rest.choice) (sym (few_written few)) rest.lawful;
      written = subst (AppendsPrefix old new) (rest_is_all rest.choice ∙ ap (λ last. text_until run last rest.choice) (sym (few_written few))) rest.written;
    }

  pub no_text : (old : Option (List ℕ)) → most_words < kept_words run knobs → old ≡ append_known old (text_until run (last_written run knobs) [])
  no_text old many = sym (ap (λ last. append_known old (text_until run last [])) (many_written many) ∙ nothing_appended old)

  pub wrote_none : (old : Option (List ℕ)) → most_words < kept_words run knobs → WritesWhole run knobs old old
  wrote_none old many = record {
    choice = [];
    lawful = subst (λ last. IsLawfulChoice knobs last []) (sym (many_written many)) refl;
    written = no_text old many;
  }

  pub wrote_no_prefix : (old : Option (List ℕ)) → most_words < kept_words run knobs → WritesPrefix run knobs old old
  wrote_no_prefix old many = record {
    choice = [];
    lawful = subst (λ last. IsLawfulChoice knobs last []) (sym (many_written many)) refl;
    written = none_written old (text_until run (last_written run knobs) []);
  }

  -- a prefix of the updates
  first_of : (last : ℕ) (o : Option ℕ) → step_before last o ≡ None → o ≡ Some 0
  first_of last None is = absurd (cc)
  first_of last (Some zero) is = refl
  first_of last (Some (suc step)) is = absurd (cc)

  none_to_come : (step : ℕ) → good run ≡ None → text_from run step ≡ []
  none_to_come step none =
      let first = first_of (length run.batches) (first_spoiled run) none in
      text_past run step (omega (arith, ap (λ (o : Option ℕ). unwrap_or o (length run.batches + 1)) first))

  pub some_updates : (step : ℕ) (old new : Option (List ℕ)) → AppendsPrefix old new (text_from run step) → WritesSome run knobs step old new
  some_updates step old new prefix = go (good run) refl
    where
      at : (last : Option ℕ) → good run ≡ last → (choice : List (List ℕ)) → IsLawfulChoice knobs last choice → AppendsPrefix old new (rest_from run step last choice) → WritesSome run knobs step old new
      at last is choice lawful written = record {
        choice = choice;
        lawful = subst (λ (l : Option ℕ). IsLawfulChoice knobs l choice) (sym is) lawful;
        written = subst (λ (l : Option ℕ). AppendsPrefix old new (rest_from run step l choice)) (sym is) written;
      }

      go : (last : Option ℕ) → good run ≡ last → WritesSome run knobs step old new
      go None is = at None is [] refl (subst (AppendsPrefix old new) (none_to_come step is) prefix)
      go (Some last) is =
          let choice = replicate knobs.callers (replicate (knobs.snaps + 1) last) in
          at (Some last) is choice (may_be_last knobs.callers knobs.snaps last) (prefix_longer old new (text_from run step) (snapshots_text run choice) prefix)

  -- after the updates, the snapshots
  module _ (step last : ℕ) (is : good run ≡ Some last) (old mid new : Option (List ℕ)) (written : mid ≡ append_known old (text_from run step)) where
    pub text_after_updates : (choice : List (List ℕ)) → new ≡ append_known mid (snapshots_text run choice) → new ≡ append_known old (rest_from run step (good run) choice)
    text_after_updates choice more =
        more ∙ ap (λ known. append_known known (snapshots_text run choice)) written ∙ append_known-append_known old (text_from run step) (snapshots_text run choice)
        ∙ ap (λ (l : Option ℕ). append_known old (rest_from run step l choice)) (sym is)

    pub all_after_updates : AddsWhole run knobs last mid new → WritesRest run knobs step old new
    all_after_updates more = record {
      choice = more.choice;
      lawful = subst (λ (l : Option ℕ). IsLawfulChoice knobs l more.choice) (sym is) more.lawful;
      written = text_after_updates more.choice more.written;
    }

    pub some_after_updates : AddsPrefix run knobs last mid new → WritesSome run knobs step old new
    some_after_updates more = record {
      choice = more.choice;
      lawful = subst (λ (l : Option ℕ). IsLawfulChoice knobs l more.choice) (sym is) more.lawful;
      written = subst (λ (l : Option ℕ). AppendsPrefix old new (rest_from run step l more.choice)) (sym is)
          (prefix_after old mid new (text_from run step) (snapshots_text run more.choice) written more.written);
    }

  -- after the opening, the other steps
  module _ (good_is : IsGood run 0) (old mid new : Option (List ℕ)) (written : mid ≡ append_known old (records_text (step_records run 0))) where
    opening_splits : (last : Option ℕ) → good run ≡ last → (choice : List (List ℕ)) → records_text (step_records run 0) ++ rest_from run 1 last choice ≡ rest_from run 0 last choice
    opening_splits None is choice =
        let first = first_of (length run.batches) (first_spoiled run) is in
        absurd (omega (arith, good_before run 1 (omega arith) (good_before_next run 0 good_is), ap (λ (o : Option ℕ). unwrap_or o (length run.batches + 1)) first))
    opening_splits (Some last) is choice =
        sym (append_assoc (records_text (step_records run 0)) (text_from run 1) (snapshots_text run choice))
        ∙ ap (λ text. text ++ snapshots_text run choice) (sym (step_comes run 0 (omega arith) (good_before_next run 0 good_is)))

    pub text_after_opening : (choice : List (List ℕ)) → new ≡ append_known mid (rest_from run 1 (good run) choice) → new ≡ append_known old (rest_from run 0 (good run) choice)
    text_after_opening choice rest =
        rest ∙ ap (λ known. append_known known (rest_from run 1 (good run) choice)) written
        ∙ append_known-append_known old (records_text (step_records run 0)) (rest_from run 1 (good run) choice)
        ∙ ap (append_known old) (opening_splits (good run) refl choice)

    pub all_after_opening : WritesRest run knobs 1 mid new → WritesRest run knobs 0 old new
    all_after_opening rest = record {
      choice = rest.choice;
      lawful = rest.lawful;
      written = text_after_opening rest.choice rest.written;
    }

    pub some_after_opening : WritesSome run knobs 1 mid new → WritesSome run knobs 0 old new
    some_after_opening rest = record {
      choice = rest.choice;
      lawful = rest.lawful;
      written = subst (AppendsPrefix old new) (opening_splits (good run) refl rest.choice)
          (prefix_after old mid new (records_text (step_records run 0)) (rest_from run 1 (good run) rest.choice) written rest.written);
    }

  -- where the opening is spoiled nothing is written
  none_good_at : (outcome : Outcome) → IsCause run 0 outcome → good run ≡ None
  none_good_at outcome cause = none_good run (cause_spoils run 0 outcome (omega arith) (λ k below. absurd (omega (arith, below))) cause)

  pub no_text_at_opening : (outcome : Outcome) (old : Option (List ℕ)) → IsCause run 0 outcome → old ≡ append_known old (rest_from run 0 (good run) [])
  no_text_at_opening outcome old cause = sym (ap (λ (l : Option ℕ). append_known old (rest_from run 0 l [])) (none_good_at outcome cause) ∙ nothing_appended old)

  pub none_at_opening : (outcome : Outcome) (old : Option (List ℕ)) → IsCause run 0 outcome → WritesRest run knobs 0 old old
  none_at_opening outcome old cause =
      record { choice = []; lawful = subst (λ (l : Option ℕ). IsLawfulChoice knobs l []) (sym (none_good_at outcome cause)) refl; written = no_text_at_opening outcome old cause }
