-- What is written of the messages, step by step.
use Rattle.std.proofs.Common.{◌≡◌, refl, sym, ap, ◌∙◌, subst, ℕ, zero, suc, ◌+◌, ◌<◌, ◌≤◌, ◌++◌, add-one, append_assoc, arith, length, List, [], Option, Some, None}
use Rattle.std.{specs.Prelude.unwrap_or, specs.Io.KnownBytes.append_known}
use Rattle.tick_io.{specs.Written.AppendsPrefix, proofs.Prefixes.{append_known-append_known, prefix_after, prefix_longer}}
use Rattle.tick_model.{specs.declared.feed.Run.Run, specs.Spoiled.{first_spoiled, good, step_before}, specs.Texts.records_text}
use Rattle.replay.{specs.declared.outcome.Outcome.Outcome, specs.declared.outcome.Outcome.TheVariants.{Done, Memory, Kept, Feed, Node, Publish, Write}, specs.Causes.IsCause, specs.Outcomes.IsEnd, specs.Standing.IsGood, specs.ToCome.good_steps, proofs.Exits.nothing_appended, proofs.Spoils.{AreGoodBefore, cause_spoils, good_before_next, none_good, none_is}, proofs.TextsToCome.good_before}
use Rattle.watched_run.{specs.declared.steps.Watching.Watching, specs.declared.watch.Watch.Watch, specs.Messages.{first_records, message_records, watch_text}, specs.Standing.GoesOn, specs.Stopped.IsStopped, specs.ToCome.{rest_text, text_from, watch_until}, proofs.Gaps.{text_due, text_rests, text_waits, text_whole}}

-- what spoils a step is no end of all steps
pub stopped : (run : Run) (step : ℕ) (outcome : Outcome) → IsCause run step outcome → IsEnd run outcome → IsStopped run outcome
stopped run step (Done at records rows) cause end = absurd cause
stopped run step Memory cause end = end
stopped run step (Kept words) cause end = end
stopped run step (Feed at number fault) cause end = end
stopped run step (Node at node kind) cause end = end
stopped run step (Publish at number rows limit) cause end = end
stopped run step Write cause end = end

module _ (run : Run) (watch : Watch) where
  -- a step that is good
  module _ (last more step : ℕ) (is : step ≡ last + more + 1) (within : step ≤ length run.batches) (good_is : IsGood run step) where
    one_left : suc (last + more) < good_steps run
    one_left =
        let left = good_before run (step + 1) (omega (arith, within)) (good_before_next run step good_is) in
        omega (arith, left, is)

    pub waits : more + 1 < watch.every → text_from run watch last more ≡ text_from run watch last (more + 1)
    waits wait = text_waits run watch last more one_left (omega (arith, wait)) ∙ ap (text_from run watch last) (sym (add-one more))

    pub due : more + 1 ≡ watch.every → text_from run watch last more ≡ records_text (message_records run watch last (more + 1)) ++ text_from run watch (last + (more + 1)) 0
    due now =
        text_due run watch last more one_left (sym (add-one more) ∙ now)
        ∙ ap (λ n. records_text (message_records run watch last n) ++ text_from run watch (last + n) 0) (sym (add-one more))

  -- past the last good step
  pub rests_before : (last more step : ℕ) (outcome : Outcome) → last + more ≡ step → step < length run.batches → IsGood run step → IsCause run (step + 1) outcome → text_from run watch last more ≡ rest_text run watch last more
  rests_before last more step outcome is within good_is cause =
      let first = cause_spoils run (step + 1) outcome (omega (arith, within)) (good_before_next run step good_is) cause in
      let count : good_steps run ≡ step + 1 = ap (λ (o : Option ℕ). unwrap_or o (length run.batches + 1)) first in
      text_rests run watch last more (omega (arith, count, is))

  pub rests_at_end : (last more : ℕ) → last + more ≡ length run.batches → IsGood run (length run.batches) → text_from run watch last more ≡ rest_text run watch last more
  rests_at_end last more is good_is =
      let count : good_steps run ≡ length run.batches + 1 = ap (λ (o : Option ℕ). unwrap_or o (length run.batches + 1)) (none_is run (good_before_next run (length run.batches) good_is)) in
      text_rests run watch last more (omega (arith, count, is))

  -- from the opening on these are all messages
  pub opens : IsGood run 0 → records_text (first_records run watch) ++ text_from run watch 0 0 ≡ watch_until run watch (good run)
  opens good_is = go (first_spoiled run) refl
    where
      go : (o : Option ℕ) → first_spoiled run ≡ o → records_text (first_records run watch) ++ text_from run watch 0 0 ≡ watch_until run watch (step_before (length run.batches) o)
      go None e = sym (text_whole run watch (length run.batches) (ap (λ (o : Option ℕ). unwrap_or o (length run.batches + 1)) e ∙ add-one (length run.batches)))
      go (Some zero) e =
          let some = good_before run 1 (omega arith) (good_before_next run 0 good_is) in
          absurd (omega (arith, some, ap (λ (o : Option ℕ). unwrap_or o (length run.batches + 1)) e))
      go (Some (suc step)) e = sym (text_whole run watch step (ap (λ (o : Option ℕ). unwrap_or o (length run.batches + 1)) e))

  pub none_told : (outcome : Outcome) (old new : Option (List ℕ)) → IsCause run 0 outcome → new ≡ old → new ≡ append_known old (watch_until run watch (good run))
  none_told outcome old new cause same =
      let none = none_good run (cause_spoils run 0 outcome (omega arith) (λ k below. absurd (omega (arith, below))) cause) in
      same ∙ sym (nothing_appended old) ∙ ap (λ (o : Option ℕ). append_known old (watch_until run watch o)) (sym none)

  -- a prefix of the first message
  pub first_begun : (old new : Option (List ℕ)) → IsGood run 0 → AppendsPrefix old new (records_text (first_records run watch)) → AppendsPrefix old new (watch_until run watch (good run))
  first_begun old new good_is prefix =
      subst (AppendsPrefix old new) (opens good_is) (prefix_longer old new (records_text (first_records run watch)) (text_from run watch 0 0) prefix)

  -- a part of the text was written
  module _ (all : List ℕ) (old mid : Option (List ℕ)) (one : Watching) (so_far : GoesOn run watch all old mid one) where
    abbrev left : List ℕ
    left = text_from run watch one.teller.last one.teller.since

    pub goes_further : (new : Option (List ℕ)) (next : Watching) → GoesOn run watch left mid new next → GoesOn run watch all old new next
    goes_further new next more = record {
      text = so_far.text ++ more.text;
      written = more.written ∙ ap (λ known. append_known known more.text) so_far.written ∙ append_known-append_known old so_far.text more.text;
      rest = append_assoc so_far.text more.text (text_from run watch next.teller.last next.teller.since) ∙ ap (λ text. so_far.text ++ text) more.rest ∙ so_far.rest;
    }

    pub all_told : (new : Option (List ℕ)) (text : List ℕ) → left ≡ text → new ≡ append_known mid text → new ≡ append_known old all
    all_told new text is whole =
        whole ∙ ap (append_known mid) (sym is) ∙ ap (λ known. append_known known left) so_far.written
        ∙ append_known-append_known old so_far.text left ∙ ap (append_known old) so_far.rest

    pub some_told : (new : Option (List ℕ)) (text : List ℕ) → left ≡ text → AppendsPrefix mid new text → AppendsPrefix old new all
    some_told new text is prefix =
        subst (AppendsPrefix old new) so_far.rest
        (prefix_after old mid new so_far.text left so_far.written (subst (AppendsPrefix mid new) (sym is) prefix))

  pub goes_nowhere : (all : List ℕ) (old : Option (List ℕ)) (watching : Watching) → all ≡ text_from run watch watching.teller.last watching.teller.since → GoesOn run watch all old old watching
  goes_nowhere all old watching is = record { text = []; written = sym (nothing_appended old); rest = sym is }
