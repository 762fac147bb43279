-- The verdict on a run and its text are the same wherever its formulas lie.
use Rattle.std.proofs.Common.{◌≡◌, ℕ, List, ◌∷◌, [], ◌++◌, true, false, cond, ltb, Option, Some, None, refl, sym, ap, ◌∙◌, subst}
use Rattle.std.{specs.Fmt.decimal, specs.Prelude.{codes, option_map}}
use Rattle.tick_model.{specs.declared.feed.Run.Run, specs.Spoiled.{Cause, ByBatch, ByNode, ByPublication, first_spoiled, spoiled_by, good}, specs.Texts.{record_text, updates_text, snapshots_text, done_record, published_node}}
use Rattle.feed_reader.specs.Assembled.{plain_run}
use Rattle.replay.{specs.declared.outcome.Knobs.Knobs, specs.Kept.{kept_words, most_words}, specs.Outcomes.{IsLawfulChoice, limit_at, text_until}}
use Rattle.feed_run.{specs.FaultWords.node_fields, specs.Verdicts.{Verdict, Refused, Summary, Kept, Spoiled, Done, Unnamed, WatchSpoiled, WatchDone, steps_verdict, run_verdict, status_of, watched_steps_verdict}, specs.Wholes.{cause_record, whole, IsLawful}, proofs.PlainRuns.{first_spoiled_plain, spoiled_plain, good_plain, name_plain, updates_plain}, proofs.PlainTexts.snapshots_plain, proofs.PlainWatches.{until_plain, watch_plain}}
use Rattle.watched_run.{specs.declared.watch.Watch.Watch, specs.ToCome.watch_until}

-- a verdict, without where the formulas of its run lie
abbrev pub plainly : Verdict → Verdict
plainly (Refused refusal) = Refused refusal
plainly (Summary steps) = Summary steps
plainly (Kept words) = Kept words
plainly (Spoiled run knobs step cause) = Spoiled (plain_run run) knobs step cause
plainly (Done run knobs step) = Done (plain_run run) knobs step
plainly (Unnamed name) = Unnamed name
plainly (WatchSpoiled run watch step cause) = WatchSpoiled (plain_run run) watch step cause
plainly (WatchDone run watch step) = WatchDone (plain_run run) watch step

plainly_spoiled : (run : Run) (knobs : Knobs) (step : ℕ) (cause : Option Cause) → option_map (Spoiled (plain_run run) knobs step) cause ≡ option_map plainly (option_map (Spoiled run knobs step) cause)
plainly_spoiled run knobs step None = refl
plainly_spoiled run knobs step (Some cause) = refl

steps_plain : (run : Run) (knobs : Knobs) (first : Option ℕ) → steps_verdict (plain_run run) knobs first ≡ option_map plainly (steps_verdict run knobs first)
steps_plain run knobs None = refl
steps_plain run knobs (Some step) = ap (λ (of : ℕ → Option Cause). option_map (Spoiled (plain_run run) knobs step) (of step)) (spoiled_plain run) ∙ plainly_spoiled run knobs step (spoiled_by run step)

pub verdict_plain : (run : Run) (knobs : Knobs) → run_verdict (plain_run run) knobs ≡ option_map plainly (run_verdict run knobs)
verdict_plain run knobs =
    elim (ltb most_words (kept_words run knobs)) as (λ b. cond b (Some (Kept (kept_words run knobs))) (steps_verdict (plain_run run) knobs (first_spoiled (plain_run run))) ≡ option_map plainly (cond b (Some (Kept (kept_words run knobs))) (steps_verdict run knobs (first_spoiled run)))) [
      | true ↦ refl
      | false ↦ ap (steps_verdict (plain_run run) knobs) (first_spoiled_plain run) ∙ steps_plain run knobs (first_spoiled run)
    ]

-- of a watched run
plainly_watch_spoiled : (run : Run) (watch : Watch) (step : ℕ) (cause : Option Cause) → option_map (WatchSpoiled (plain_run run) watch step) cause ≡ option_map plainly (option_map (WatchSpoiled run watch step) cause)
plainly_watch_spoiled run watch step None = refl
plainly_watch_spoiled run watch step (Some cause) = refl

watched_steps_plain : (run : Run) (watch : Watch) (first : Option ℕ) → watched_steps_verdict (plain_run run) watch first ≡ option_map plainly (watched_steps_verdict run watch first)
watched_steps_plain run watch None = refl
watched_steps_plain run watch (Some step) = ap (λ (of : ℕ → Option Cause). option_map (WatchSpoiled (plain_run run) watch step) (of step)) (spoiled_plain run) ∙ plainly_watch_spoiled run watch step (spoiled_by run step)

pub watched_plain : (run : Run) (watch : Watch) → watched_steps_verdict (plain_run run) watch (first_spoiled (plain_run run)) ≡ option_map plainly (watched_steps_verdict run watch (first_spoiled run))
watched_plain run watch = ap (watched_steps_verdict (plain_run run) watch) (first_spoiled_plain run) ∙ watched_steps_plain run watch (first_spoiled run)

cause_plain : (run : Run) (step : ℕ) (cause : Cause) → cause_record (plain_run run) step cause ≡ cause_record run step cause
cause_plain run step (ByBatch number rule) = refl
cause_plain run step (ByNode node fault) =
    ap (λ (name : ℕ → List ℕ). codes "fault" ∷ codes "8" ∷ codes "node" ∷ decimal step ∷ name node ∷ node_fields fault) (name_plain run)
cause_plain run step (ByPublication number rows) =
    ap (λ (name : ℕ → List ℕ). codes "fault" ∷ codes "9" ∷ codes "publish" ∷ decimal step ∷ name (published_node run.plan.published number) ∷ decimal rows ∷ decimal (limit_at run number) ∷ []) (name_plain run)

texts_plain : (run : Run) (last : Option ℕ) (choice : List (List ℕ)) → text_until (plain_run run) last choice ≡ text_until run last choice
texts_plain run None choice = refl
texts_plain run (Some last) choice =
    ap (λ (of : ℕ → List ℕ). of last ++ snapshots_text (plain_run run) choice) (updates_plain run)
    ∙ ap (λ snapshots. updates_text run last ++ snapshots) (snapshots_plain run choice)

pub whole_plain : (of : Verdict) (choice : List (List ℕ)) → whole (plainly of) choice ≡ whole of choice
whole_plain (Refused refusal) choice = refl
whole_plain (Summary steps) choice = refl
whole_plain (Kept words) choice = refl
whole_plain (Spoiled run knobs step cause) choice =
    ap (λ last. text_until (plain_run run) last choice ++ record_text (cause_record (plain_run run) step cause)) (good_plain run)
    ∙ ap (λ texts. texts ++ record_text (cause_record (plain_run run) step cause)) (texts_plain run (good run) choice)
    ∙ ap (λ fields. text_until run (good run) choice ++ record_text fields) (cause_plain run step cause)
whole_plain (Done run knobs step) choice = ap (λ texts. texts ++ record_text (done_record step)) (texts_plain run (Some step) choice)
whole_plain (Unnamed name) choice = refl
whole_plain (WatchSpoiled run watch step cause) choice =
    ap (λ last. watch_until (plain_run run) watch last ++ record_text (cause_record (plain_run run) step cause)) (good_plain run)
    ∙ ap (λ text. text ++ record_text (cause_record (plain_run run) step cause)) (until_plain run watch (good run))
    ∙ ap (λ fields. watch_until run watch (good run) ++ record_text fields) (cause_plain run step cause)
whole_plain (WatchDone run watch step) choice = ap (λ text. text ++ record_text (done_record step)) (watch_plain run watch step)

pub lawful_plain : (of : Verdict) (choice : List (List ℕ)) → IsLawful of choice → IsLawful (plainly of) choice
lawful_plain (Refused refusal) choice may = may
lawful_plain (Summary steps) choice may = may
lawful_plain (Kept words) choice may = may
lawful_plain (Spoiled run knobs step cause) choice may = subst (λ last. IsLawfulChoice knobs last choice) (sym (good_plain run)) may
lawful_plain (Done run knobs step) choice may = may
lawful_plain (Unnamed name) choice may = may
lawful_plain (WatchSpoiled run watch step cause) choice may = may
lawful_plain (WatchDone run watch step) choice may = may

pub status_plain : (of : Verdict) → status_of (plainly of) ≡ status_of of
status_plain (Refused refusal) = refl
status_plain (Summary steps) = refl
status_plain (Kept words) = refl
status_plain (Spoiled run knobs step cause) = refl
status_plain (Done run knobs step) = refl
status_plain (Unnamed name) = refl
status_plain (WatchSpoiled run watch step cause) = refl
status_plain (WatchDone run watch step) = refl
