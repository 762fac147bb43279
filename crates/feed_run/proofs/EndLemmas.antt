-- How a run ends, and the text that goes with it.
use Rattle.std.proofs.Common.{◌≡◌, ◌≤◌, ℕ, ◌+◌, List, ◌++◌, Bool, true, false, cond, ltb, Option, Some, None, refl, sym, ap, ◌∙◌, subst, inl, inr, length, [], ◌∷◌}
use Rattle.std.{specs.Prelude.{is_some, option_map}, specs.Io.KnownBytes.append_known, specs.List.range_with_len}
use Rattle.key_lists.proofs.Every.{found_passes}
use Rattle.tick_io.{specs.Counts.Rose, specs.Written.AppendsPrefix, proofs.RisingCounts.rose_earlier, proofs.Prefixes.{append_known-append_known, prefix_after, prefix_longer}}
use Rattle.tick_model.{specs.declared.feed.Run.Run, specs.Spoiled.{Cause, first_spoiled, spoiled_by, step_before, good}, specs.Texts.{record_text, done_record}}
use Rattle.replay.{specs.declared.outcome.Knobs.Knobs, specs.Kept.{kept_words, most_words}, specs.Outcomes.{IsFirstSpoiled, IsLawfulChoice, WritesPrefix, WritesWhole, last_written, text_until}}
use Rattle.feed_run.{specs.Answers.{Ends, EndsByRun}, specs.Verdicts.{Verdict, Kept, Spoiled, Done, steps_verdict, run_verdict, status_of}, specs.Wholes.{kept_record, cause_record, whole, IsLawful}}

-- a record was written after what was written before
pub ends_after : (status : ℕ) (before record_of all : List ℕ) (later failed : Type 0) (old mid new : Option (List ℕ)) (answer : ℕ) → all ≡ before ++ record_of → mid ≡ append_known old before → (later → failed) → Ends status record_of later mid new answer → Ends status all failed old new answer
ends_after status before record_of all later failed old mid new answer is written wider (inl (same, whole_of)) =
    inl (same, whole_of ∙ ap (λ known. append_known known record_of) written ∙ append_known-append_known old before record_of ∙ ap (append_known old) (sym is))
ends_after status before record_of all later failed old mid new answer is written wider (inr (inl (one, prefix))) =
    inr (inl (one, subst (AppendsPrefix old new) (sym is) (prefix_after old mid new before record_of written prefix)))
ends_after status before record_of all later failed old mid new answer is written wider (inr (inr (ten, fails, prefix))) =
    inr (inr (ten, wider fails, subst (AppendsPrefix old new) (sym is) (prefix_after old mid new before record_of written prefix)))

-- a verdict of a run: its text is what the run writes, and then these fields
pub record Tells (run : Run) (knobs : Knobs) (of : Verdict) (fields : List (List ℕ)) : Type 0 where
  pub verdict : run_verdict run knobs ≡ Some of
  pub text : (choice : List (List ℕ)) → whole of choice ≡ text_until run (last_written run knobs) choice ++ record_text fields
  pub lawful : (choice : List (List ℕ)) → IsLawfulChoice knobs (last_written run knobs) choice → IsLawful of choice

module _ (run : Run) (knobs : Knobs) where
  abbrev too_many : Bool
  too_many = ltb most_words (kept_words run knobs)

  -- by the last step that is written
  tells_until : (of : Verdict) (fields : List (List ℕ)) (last : Option ℕ) → last_written run knobs ≡ last → run_verdict run knobs ≡ Some of → ((choice : List (List ℕ)) → whole of choice ≡ text_until run last choice ++ record_text fields) → ((choice : List (List ℕ)) → IsLawfulChoice knobs last choice → IsLawful of choice) → Tells run knobs of fields
  tells_until of fields last is verdict text lawful = record {
    verdict = verdict;
    text = λ choice. text choice ∙ ap (λ own. text_until run own choice ++ record_text fields) (sym is);
    lawful = λ choice may. lawful choice (subst (λ own. IsLawfulChoice knobs own choice) is may);
  }

  -- too many words would be kept
  pub tells_kept : too_many ≡ true → Tells run knobs (Kept (kept_words run knobs)) (kept_record (kept_words run knobs))
  tells_kept many =
      tells_until (Kept (kept_words run knobs)) (kept_record (kept_words run knobs)) None
      (ap (λ b. cond b None (good run)) many)
      (ap (λ b. cond b (Some (Kept (kept_words run knobs))) (steps_verdict run knobs (first_spoiled run))) many)
      (λ choice. refl) (λ choice may. may)

  -- they would not, and the steps tell
  verdict_of_steps : too_many ≡ false → run_verdict run knobs ≡ steps_verdict run knobs (first_spoiled run)
  verdict_of_steps few = ap (λ b. cond b (Some (Kept (kept_words run knobs))) (steps_verdict run knobs (first_spoiled run))) few

  last_good : too_many ≡ false → last_written run knobs ≡ good run
  last_good few = ap (λ b. cond b None (good run)) few

  pub tells_done : (step : ℕ) → too_many ≡ false → first_spoiled run ≡ None → step ≡ length run.batches → Tells run knobs (Done run knobs step) (done_record step)
  tells_done step few unspoiled last =
      tells_until (Done run knobs step) (done_record step) (Some step)
      (last_good few ∙ ap (step_before (length run.batches)) unspoiled ∙ ap Some (sym last))
      (verdict_of_steps few ∙ ap (steps_verdict run knobs) unspoiled ∙ ap (λ own. Some (Done run knobs own)) (sym last))
      (λ choice. refl) (λ choice may. may)

  pub tells_spoiled : (step : ℕ) (cause : Cause) → too_many ≡ false → IsFirstSpoiled run step cause → Tells run knobs (Spoiled run knobs step cause) (cause_record run step cause)
  tells_spoiled step cause few is =
      tells_until (Spoiled run knobs step cause) (cause_record run step cause) (good run) (last_good few)
      (verdict_of_steps few ∙ ap (steps_verdict run knobs) is.first ∙ ap (option_map (Spoiled run knobs step)) is.by)
      (λ choice. refl) (λ choice may. may)

-- each run has a verdict
pub there : {X : Type 0} (o : Option X) → is_some o ≡ true → (x : X) × (o ≡ Some x)
there None e = cc
there (Some x) e = (x, refl)

pub record HasVerdict (run : Run) (knobs : Knobs) : Type 0 where
  pub of : Verdict
  pub fields : List (List ℕ)
  pub tells : Tells run knobs of fields

steps_tell : (run : Run) (knobs : Knobs) → ltb most_words (kept_words run knobs) ≡ false → HasVerdict run knobs
steps_tell run knobs few =
    (elim (first_spoiled run) as (λ o. first_spoiled run ≡ o → HasVerdict run knobs) [
      | None ↦ λ e. record { of = Done run knobs (length run.batches); fields = done_record (length run.batches); tells = tells_done run knobs (length run.batches) few e refl }
      | Some step ↦ λ e.
          let by = there (spoiled_by run step) (found_passes (λ n. is_some (spoiled_by run n)) (range_with_len 0 (length run.batches + 1)) step e) in
          record { of = Spoiled run knobs step by.0; fields = cause_record run step by.0; tells = tells_spoiled run knobs step by.0 few (record { first = e; by = by.1 }) }
    ]) refl

has_verdict : (run : Run) (knobs : Knobs) → HasVerdict run knobs
has_verdict run knobs =
    (elim (ltb most_words (kept_words run knobs)) as (λ b. ltb most_words (kept_words run knobs) ≡ b → HasVerdict run knobs) [
      | true ↦ λ many. record { of = Kept (kept_words run knobs); fields = kept_record (kept_words run knobs); tells = tells_kept run knobs many }
      | false ↦ λ few. steps_tell run knobs few
    ]) refl

module _ {S : Type 0} (bytes : S → Option (List ℕ)) (failures : S → ℕ) (run : Run) (knobs : Knobs) (first mid last joined : S) (answer result : ℕ) where
  -- a record was written after what the run wrote
  pub ends_recorded : (of : Verdict) (fields : List (List ℕ)) → Tells run knobs of fields → WritesWhole run knobs (bytes first) (bytes mid) → failures first ≤ failures mid → Ends (status_of of) (record_text fields) (Rose (failures mid) (failures last)) (bytes mid) (bytes last) answer → joined ≡ last → result ≡ answer → EndsByRun run knobs (Rose (failures first) (failures joined)) (bytes first) (bytes joined) result
  ends_recorded of fields tells wrote rising ends out status =
      subst (λ (s : S). EndsByRun run knobs (Rose (failures first) (failures s)) (bytes first) (bytes s) result) (sym out)
      (subst (λ (n : ℕ). EndsByRun run knobs (Rose (failures first) (failures last)) (bytes first) (bytes last) n) (sym status) (
        of,
        tells.verdict,
        (
          wrote.choice,
          tells.lawful wrote.choice wrote.lawful,
          ends_after (status_of of) (text_until run (last_written run knobs) wrote.choice) (record_text fields) (whole of wrote.choice) (Rose (failures mid) (failures last)) (Rose (failures first) (failures last)) (bytes first) (bytes mid) (bytes last) answer (tells.text wrote.choice) wrote.written (rose_earlier (failures first) (failures mid) (failures last) rising) ends,
        ),
      ))

  -- the run ended before its last record
  pub ends_short : joined ≡ mid → result ≡ 1 → WritesPrefix run knobs (bytes first) (bytes mid) → EndsByRun run knobs (Rose (failures first) (failures joined)) (bytes first) (bytes joined) result
  ends_short out one wrote =
      let has = has_verdict run knobs in
      subst (λ (s : S). EndsByRun run knobs (Rose (failures first) (failures s)) (bytes first) (bytes s) result) (sym out) (
        has.of,
        has.tells.verdict,
        (
          wrote.choice,
          has.tells.lawful wrote.choice wrote.lawful,
          inr (inl (one, subst (AppendsPrefix (bytes first) (bytes mid)) (sym (has.tells.text wrote.choice)) (prefix_longer (bytes first) (bytes mid) (text_until run (last_written run knobs) wrote.choice) (record_text has.fields) wrote.written))),
        ),
      )

  pub ends_failed : joined ≡ mid → result ≡ 10 → Rose (failures first) (failures mid) → WritesPrefix run knobs (bytes first) (bytes mid) → EndsByRun run knobs (Rose (failures first) (failures joined)) (bytes first) (bytes joined) result
  ends_failed out ten fails wrote =
      let has = has_verdict run knobs in
      subst (λ (s : S). EndsByRun run knobs (Rose (failures first) (failures s)) (bytes first) (bytes s) result) (sym out) (
        has.of,
        has.tells.verdict,
        (
          wrote.choice,
          has.tells.lawful wrote.choice wrote.lawful,
          inr (inr (ten, fails, subst (AppendsPrefix (bytes first) (bytes mid)) (sym (has.tells.text wrote.choice)) (prefix_longer (bytes first) (bytes mid) (text_until run (last_written run knobs) wrote.choice) (record_text has.fields) wrote.written))),
        ),
      )
