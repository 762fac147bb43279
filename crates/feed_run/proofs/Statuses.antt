-- The statuses that there are.
use Rattle.std.proofs.Common.{◌≡◌, refl, sym, subst, ℕ, ◌≤◌, ◌⊎◌, inl, inr, arith, Bool, true, false, cond, List, length, Option, Some, None}
use Rattle.std.{specs.Prelude.{nat_lt, option_map}, proofs.lemmas.Option.same_Some}
use Rattle.tick_model.{specs.declared.feed.Run.Run, specs.Spoiled.{Cause, ByBatch, ByNode, ByPublication, first_spoiled, spoiled_by}, specs.Texts.record_text}
use Rattle.command_words.{specs.declared.command.Command.Command, specs.declared.command.Task.Task, specs.declared.command.Task.TheVariants.Watch as WatchTask, specs.Commands.command}
use Rattle.replay.{specs.declared.outcome.Knobs.Knobs, specs.Kept.{kept_words, most_words}}
use Rattle.feed_run.{specs.declared.refusal.Refusal.Refusal, specs.declared.refusal.Refusal.TheVariants.{Usage, Script, Table, Feed}, specs.declared.refusal.LoadStop.LoadStop, specs.declared.refusal.LoadStop.TheVariants.{Memory, Unread, Refused as Stopped}, specs.Answers.{Answers, Ends, EndsBy, EndsByRun, EndsByStop}, specs.Headline.{AsksForWatch, IsStatus, IsTaskStatus, IsWatch}, specs.Verdicts.{Verdict, Refused, Summary, Kept, Spoiled, Done, Unnamed, WatchSpoiled, WatchDone, refusal_status, run_verdict, status_of, steps_verdict}, specs.Wholes.{refusal_record, unread_record, whole}}

-- the statuses of verdicts: none is that of a fault, and one is that of a watched run alone
pub record IsVerdictStatus (status : ℕ) : Type 0 where
  pub most : (status ≤ 10) ⊎ (status ≡ 12)
  pub not_one : status ≡ 1 → ⊥
  pub not_three : status ≡ 3 → ⊥
  pub not_ten : status ≡ 10 → ⊥

refusal_few : (refusal : Refusal) → refusal_status refusal ≤ 10
refusal_few Usage = omega arith
refusal_few (Script line kind) = omega arith
refusal_few (Table source number kind) = omega arith
refusal_few (Feed number kind) = omega arith

pub verdict_status : (told : Verdict) → IsVerdictStatus (status_of told)
verdict_status (Refused Usage) = record { most = inl (omega arith); not_one = λ e. cc; not_three = λ e. cc; not_ten = λ e. cc }
verdict_status (Refused (Script line kind)) = record { most = inl (omega arith); not_one = λ e. cc; not_three = λ e. cc; not_ten = λ e. cc }
verdict_status (Refused (Table source number kind)) = record { most = inl (omega arith); not_one = λ e. cc; not_three = λ e. cc; not_ten = λ e. cc }
verdict_status (Refused (Feed number kind)) = record { most = inl (omega arith); not_one = λ e. cc; not_three = λ e. cc; not_ten = λ e. cc }
verdict_status (Summary steps) = record { most = inl (omega arith); not_one = λ e. cc; not_three = λ e. cc; not_ten = λ e. cc }
verdict_status (Kept words) = record { most = inl (omega arith); not_one = λ e. cc; not_three = λ e. cc; not_ten = λ e. cc }
verdict_status (Spoiled run knobs step (ByBatch number rule)) = record { most = inl (omega arith); not_one = λ e. cc; not_three = λ e. cc; not_ten = λ e. cc }
verdict_status (Spoiled run knobs step (ByNode node fault)) = record { most = inl (omega arith); not_one = λ e. cc; not_three = λ e. cc; not_ten = λ e. cc }
verdict_status (Spoiled run knobs step (ByPublication number rows)) = record { most = inl (omega arith); not_one = λ e. cc; not_three = λ e. cc; not_ten = λ e. cc }
verdict_status (Done run knobs step) = record { most = inl (omega arith); not_one = λ e. cc; not_three = λ e. cc; not_ten = λ e. cc }
verdict_status (Unnamed name) = record { most = inr refl; not_one = λ e. cc; not_three = λ e. cc; not_ten = λ e. cc }
verdict_status (WatchSpoiled run watch step (ByBatch number rule)) = record { most = inl (omega arith); not_one = λ e. cc; not_three = λ e. cc; not_ten = λ e. cc }
verdict_status (WatchSpoiled run watch step (ByNode node fault)) = record { most = inl (omega arith); not_one = λ e. cc; not_three = λ e. cc; not_ten = λ e. cc }
verdict_status (WatchSpoiled run watch step (ByPublication number rows)) = record { most = inl (omega arith); not_one = λ e. cc; not_three = λ e. cc; not_ten = λ e. cc }
verdict_status (WatchDone run watch step) = record { most = inl (omega arith); not_one = λ e. cc; not_three = λ e. cc; not_ten = λ e. cc }

-- a verdict of a run that is not watched
spoiled_few : (run : Run) (knobs : Knobs) (step : ℕ) (cause : Cause) → status_of (Spoiled run knobs step cause) ≤ 10
spoiled_few run knobs step (ByBatch number rule) = omega arith
spoiled_few run knobs step (ByNode node fault) = omega arith
spoiled_few run knobs step (ByPublication number rows) = omega arith

cause_few : (run : Run) (knobs : Knobs) (step : ℕ) (cause : Option Cause) (of : Verdict) → option_map (Spoiled run knobs step) cause ≡ Some of → status_of of ≤ 10
cause_few run knobs step None of e = cc
cause_few run knobs step (Some cause) of e = subst (λ (own : Verdict). status_of own ≤ 10) (same_Some (Spoiled run knobs step cause) of e) (spoiled_few run knobs step cause)

steps_few : (run : Run) (knobs : Knobs) (first : Option ℕ) (of : Verdict) → steps_verdict run knobs first ≡ Some of → status_of of ≤ 10
steps_few run knobs None of e = subst (λ (own : Verdict). status_of own ≤ 10) (same_Some (Done run knobs (length run.batches)) of e) (omega arith)
steps_few run knobs (Some step) of e = cause_few run knobs step (spoiled_by run step) of e

run_few : (run : Run) (knobs : Knobs) (of : Verdict) → run_verdict run knobs ≡ Some of → status_of of ≤ 10
run_few run knobs of e =
    (elim (nat_lt most_words (kept_words run knobs)) as (λ b. cond b (Some (Kept (kept_words run knobs))) (steps_verdict run knobs (first_spoiled run)) ≡ Some of → status_of of ≤ 10) [
      | true ↦ λ e. subst (λ (own : Verdict). status_of own ≤ 10) (same_Some (Kept (kept_words run knobs)) of e) (omega arith)
      | false ↦ λ e. steps_few run knobs (first_spoiled run) of e
    ]) e

module _ (failed : Type 0) (old new : Option (List ℕ)) (answer : ℕ) where
  ends_few : (status : ℕ) (text : List ℕ) → status ≤ 10 → Ends status text failed old new answer → answer ≤ 10
  ends_few status text few (inl (same, written)) = omega (arith, same, few)
  ends_few status text few (inr (inl (one, prefix))) = omega (arith, one)
  ends_few status text few (inr (inr (ten, fails, prefix))) = omega (arith, ten)

  pub run_status : (run : Run) (knobs : Knobs) → EndsByRun run knobs failed old new answer → answer ≤ 10
  run_status run knobs (of, verdict, (choice, lawful, ends)) = ends_few (status_of of) (whole of choice) (run_few run knobs of verdict) ends

  pub stop_status : (stop : LoadStop) → EndsByStop stop failed old new answer → answer ≤ 10
  stop_status Memory ends = omega (arith, ends.0)
  stop_status (Unread name) ends = ends_few 3 (record_text (unread_record name)) (omega arith) ends
  stop_status (Stopped refusal) ends = ends_few (refusal_status refusal) (record_text (refusal_record refusal)) (refusal_few refusal) ends

  pub summary_status : (steps : ℕ) → EndsBy (Summary steps) failed old new answer → answer ≤ 10
  summary_status steps (choice, lawful, ends) = ends_few 0 (whole (Summary steps) choice) (omega arith) ends

  -- of any verdict
  pub any_status : (told : Bool) (verdict : Option Verdict) (unread read : List ℕ → Type 0) → Answers told verdict unread read failed old new answer → (answer ≤ 10) ⊎ (answer ≡ 12)
  any_status told verdict unread read (inl (of, is, (choice, lawful, inl (status, written)))) = subst (λ n. (n ≤ 10) ⊎ (n ≡ 12)) (sym status) (verdict_status of).most
  any_status told verdict unread read (inl (of, is, (choice, lawful, inr (inl (one, prefix))))) = inl (omega (arith, one))
  any_status told verdict unread read (inl (of, is, (choice, lawful, inr (inr (ten, fails, prefix))))) = inl (omega (arith, ten))
  any_status told verdict unread read (inr (inl (name, faulty, of, inl (three, written)))) = inl (omega (arith, three))
  any_status told verdict unread read (inr (inl (name, faulty, of, inr (inl (one, prefix))))) = inl (omega (arith, one))
  any_status told verdict unread read (inr (inl (name, faulty, of, inr (inr (ten, fails, prefix))))) = inl (omega (arith, ten))
  any_status told verdict unread read (inr (inr (one, same))) = inl (omega (arith, one))

-- of a task, and of the words
pub watch_status : (task : Task) (script feed node : List ℕ) (first count answer : ℕ) → task ≡ WatchTask script feed node first count → (answer ≤ 10) ⊎ (answer ≡ 12) → IsTaskStatus task answer
watch_status task script feed node first count answer is (inl few) = inl few
watch_status task script feed node first count answer is (inr last) = inr (last, subst AsksForWatch (sym is) tt)

pub words_status : (words : List (List ℕ)) (own : Command) (answer : ℕ) → Some own ≡ command words → IsTaskStatus own.task answer → IsStatus words answer
words_status words own answer is (inl few) = inl few
words_status words own answer is (inr (last, asks)) = inr (last, let asked : IsWatch (Some own) = asks in subst IsWatch is asked)
