-- What the program's answers come to.
use Rattle.std.proofs.Common.{◌≡◌, ℕ, List, [], Bool, Option, Ok, Err, refl, sym, ap, ◌∙◌, subst, inl, inr}
use Rattle.std.specs.Prelude.{IsTrue, option_map}
use Rattle.tick_model.specs.declared.feed.Run.{Run}
use Rattle.feed_reader.specs.Assembled.{plain_run}
use Rattle.replay.specs.declared.outcome.Knobs.{Knobs}
use Rattle.feed_run.{specs.declared.refusal.LoadStop.LoadStop, specs.declared.refusal.LoadStop.TheVariants.{Memory, Unread, Refused as Stopped}, specs.Answers.{Ends, EndsByStop, EndsByRun, Answers}, specs.Found.Found, specs.Headline.{NoneFailed, IsComplete, TellsVerdict, TellsLoadFault, OfVerdict, OfLoad, WritesPrefix, WritesPrefixOrNothing}, specs.Stops.Reads, specs.Verdicts.{Verdict, Refused, found_verdict, status_of}, specs.Wholes.whole, proofs.PlainVerdicts.{plainly, verdict_plain, whole_plain, lawful_plain, status_plain}, proofs.Statuses.verdict_status}

module _ (told : Bool) (unread read : List ℕ → Type 0) (failed : Type 0) (old new : Option (List ℕ)) (answer : ℕ) where
  -- a run that was read and run to its end
  pub run_ends : (knobs : Knobs) (found : Found Run) (run : Run) → Reads told unread read found plain_run (Ok run) → EndsByRun run knobs failed old new answer → Answers told (found_verdict knobs found) unread read failed old new answer
  run_ends knobs found run reads (of, verdict, (choice, lawful, ends)) =
      inl (
        plainly of,
        (λ t. ap (found_verdict knobs) (reads t) ∙ verdict_plain run knobs ∙ ap (option_map plainly) verdict),
        (
          choice,
          lawful_plain of choice lawful,
          subst (λ (status : ℕ). Ends status (whole (plainly of) choice) failed old new answer) (sym (status_plain of)) (subst (λ (text : List ℕ). Ends (status_of of) text failed old new answer) (sym (whole_plain of choice)) ends),
        ),
      )

  -- a run that was not read
  pub stop_ends : (knobs : Knobs) (found : Found Run) (stop : LoadStop) → Reads {X = Run} told unread read found plain_run (Err stop) → EndsByStop stop failed old new answer → Answers told (found_verdict knobs found) unread read failed old new answer
  stop_ends knobs found Memory reads ends = inr (inr ends)
  stop_ends knobs found (Unread name) reads ends = inr (inl (name, reads.0, reads.1, ends))
  stop_ends knobs found (Stopped refusal) reads ends = inl (Refused refusal, (λ t. ap (found_verdict knobs) (reads t)), ([], refl, ends))

module _ (told : Bool) (verdict : Option Verdict) (unread read : List ℕ → Type 0) (failed : Type 0) (old new : Option (List ℕ)) (answer : ℕ) (t : IsTrue told) where
  pub tells_verdict : Answers told verdict unread read failed old new answer → TellsVerdict verdict answer old new
  tells_verdict (inl (of, is, (choice, lawful, inl (status, written)))) plain = (of, is t, status, (choice, lawful, written))
  tells_verdict (inl (of, is, (choice, lawful, inr (inl (one, prefix))))) plain = absurd (plain.0 one)
  tells_verdict (inl (of, is, (choice, lawful, inr (inr (ten, fails, prefix))))) plain = absurd (plain.2 ten)
  tells_verdict (inr (inl (name, faulty, of, inl (three, written)))) plain = absurd (plain.1 three)
  tells_verdict (inr (inl (name, faulty, of, inr (inl (one, prefix))))) plain = absurd (plain.0 one)
  tells_verdict (inr (inl (name, faulty, of, inr (inr (ten, fails, prefix))))) plain = absurd (plain.2 ten)
  tells_verdict (inr (inr (one, same))) plain = absurd (plain.0 one)

  pub tells_load_fault : Answers told verdict unread read failed old new answer → answer ≡ 3 → TellsLoadFault unread read old new
  tells_load_fault (inl (of, is, (choice, lawful, inl (status, written)))) three = absurd ((verdict_status of).not_three (sym status ∙ three))
  tells_load_fault (inl (of, is, (choice, lawful, inr (inl (one, prefix))))) three = cc
  tells_load_fault (inl (of, is, (choice, lawful, inr (inr (ten, fails, prefix))))) three = cc
  tells_load_fault (inr (inl (name, faulty, of, inl (also, written)))) three = (name, faulty, of t, written)
  tells_load_fault (inr (inl (name, faulty, of, inr (inl (one, prefix))))) three = cc
  tells_load_fault (inr (inl (name, faulty, of, inr (inr (ten, fails, prefix))))) three = cc
  tells_load_fault (inr (inr (one, same))) three = cc

  pub tells_write_fault : Answers told verdict unread read failed old new answer → answer ≡ 10 → WritesPrefix verdict unread read old new
  tells_write_fault (inl (of, is, (choice, lawful, inl (status, written)))) ten = absurd ((verdict_status of).not_ten (sym status ∙ ten))
  tells_write_fault (inl (of, is, (choice, lawful, inr (inl (one, prefix))))) ten = cc
  tells_write_fault (inl (of, is, (choice, lawful, inr (inr (also, fails, prefix))))) ten = (OfVerdict of choice (is t) lawful, prefix)
  tells_write_fault (inr (inl (name, faulty, of, inl (three, written)))) ten = cc
  tells_write_fault (inr (inl (name, faulty, of, inr (inl (one, prefix))))) ten = cc
  tells_write_fault (inr (inl (name, faulty, of, inr (inr (also, fails, prefix))))) ten = (OfLoad name faulty (of t), prefix)
  tells_write_fault (inr (inr (one, same))) ten = cc

  pub tells_memory : Answers told verdict unread read failed old new answer → answer ≡ 1 → WritesPrefixOrNothing verdict unread read old new
  tells_memory (inl (of, is, (choice, lawful, inl (status, written)))) one = absurd ((verdict_status of).not_one (sym status ∙ one))
  tells_memory (inl (of, is, (choice, lawful, inr (inl (also, prefix))))) one = inl (OfVerdict of choice (is t) lawful, prefix)
  tells_memory (inl (of, is, (choice, lawful, inr (inr (ten, fails, prefix))))) one = cc
  tells_memory (inr (inl (name, faulty, of, inl (three, written)))) one = cc
  tells_memory (inr (inl (name, faulty, of, inr (inl (also, prefix))))) one = inl (OfLoad name faulty (of t), prefix)
  tells_memory (inr (inl (name, faulty, of, inr (inr (ten, fails, prefix))))) one = cc
  tells_memory (inr (inr (also, same))) one = inr same

module _ (told : Bool) (verdict : Option Verdict) (unread read : List ℕ → Type 0) (failed : Type 0) (old new : Option (List ℕ)) (answer : ℕ) where
  pub tells_unread : Answers told verdict unread read failed old new answer → answer ≡ 3 → (name : List ℕ) × unread name
  tells_unread (inl (of, is, (choice, lawful, inl (status, written)))) three = absurd ((verdict_status of).not_three (sym status ∙ three))
  tells_unread (inl (of, is, (choice, lawful, inr (inl (one, prefix))))) three = cc
  tells_unread (inl (of, is, (choice, lawful, inr (inr (ten, fails, prefix))))) three = cc
  tells_unread (inr (inl (name, faulty, of, ends))) three = (name, faulty)
  tells_unread (inr (inr (one, same))) three = cc

  pub tells_failed : Answers told verdict unread read failed old new answer → answer ≡ 10 → failed
  tells_failed (inl (of, is, (choice, lawful, inl (status, written)))) ten = absurd ((verdict_status of).not_ten (sym status ∙ ten))
  tells_failed (inl (of, is, (choice, lawful, inr (inl (one, prefix))))) ten = cc
  tells_failed (inl (of, is, (choice, lawful, inr (inr (also, fails, prefix))))) ten = fails
  tells_failed (inr (inl (name, faulty, of, inl (three, written)))) ten = cc
  tells_failed (inr (inl (name, faulty, of, inr (inl (one, prefix))))) ten = cc
  tells_failed (inr (inl (name, faulty, of, inr (inr (also, fails, prefix))))) ten = fails
  tells_failed (inr (inr (one, same))) ten = cc

  pub is_complete : IsTrue told → NoneFailed unread read → (failed → ⊥) → Answers told verdict unread read failed old new answer → IsComplete verdict answer
  is_complete t none steady (inl (of, is, (choice, lawful, inl (status, written)))) = inr (of, is t, status)
  is_complete t none steady (inl (of, is, (choice, lawful, inr (inl (one, prefix))))) = inl one
  is_complete t none steady (inl (of, is, (choice, lawful, inr (inr (ten, fails, prefix))))) = absurd (steady fails)
  is_complete t none steady (inr (inl (name, faulty, of, ends))) = absurd (none name (of t) faulty)
  is_complete t none steady (inr (inr (one, same))) = inl one
