-- What the parts of the program say of what they wrote and of their status.
use Rattle.std.{specs.Prelude.{◌≡◌, ◌<◌, ◌≤◌, ◌⊎◌, ℕ, Bool, IsTrue, List, [], Option, Some, Result, Ok, Err}, specs.Io.KnownBytes.append_known}
use Rattle.tick_io.{specs.Asked.{AsksFor, AsksSome}, specs.Written.AppendsPrefix}
use Rattle.tick_model.{specs.declared.feed.Run.Run, specs.Texts.record_text, specs.Spoiled.first_spoiled}
use Rattle.command_words.{specs.declared.command.Task.Task, specs.declared.command.Task.TheVariants.{Run as RunTask, Demo, Watch as WatchTask}}
use Rattle.replay.specs.declared.outcome.Knobs.{Knobs}
use Rattle.update_text.{specs.declared.fault.WriteFault.WriteFault, specs.declared.fault.WriteFault.TheVariants.{Memory, Failed}}
use Rattle.feed_run.{specs.declared.refusal.LoadStop.LoadStop, specs.declared.refusal.LoadStop.TheVariants.{Memory as OutOfMemory, Unread, Refused}, specs.Headline.IsOfVerdict, specs.Verdicts.{Verdict, refusal_status, run_verdict, status_of, watched_steps_verdict}, specs.Wholes.{refusal_record, unread_record, whole, IsLawful}}
use Rattle.watched_run.specs.declared.watch.Watch.{Watch}

-- a made run has at most so many steps, and watched rows have positions in their range
abbrev pub IsInRange : Task → Type 0
IsInRange (RunTask script feed) = Unit {0}
IsInRange (Demo steps) = steps ≤ 10000
IsInRange (WatchTask script feed name first count) = (first < 4194304) × (1 ≤ count) × (count ≤ 4194304)

-- a text was written whole, and its status is answered; or a prefix of it, since memory ran out or the sink failed
abbrev pub status_of_write : ℕ → Result (Unit {0}) WriteFault → ℕ
status_of_write status (Ok done) = status
status_of_write status (Err Memory) = 1
status_of_write status (Err Failed) = 10

abbrev pub Ends : ℕ → List ℕ → Type 0 → Option (List ℕ) → Option (List ℕ) → ℕ → Type 0
Ends status text failed old new answer =
    ((answer ≡ status) × (new ≡ append_known old text))
    ⊎ (((answer ≡ 1) × AppendsPrefix old new text) ⊎ ((answer ≡ 10) × failed × AppendsPrefix old new text))

-- the text is that of a verdict, with the snapshots of a choice that callers may make
abbrev pub EndsBy : Verdict → Type 0 → Option (List ℕ) → Option (List ℕ) → ℕ → Type 0
EndsBy of failed old new answer = (choice : List (List ℕ)) × IsLawful of choice × Ends (status_of of) (whole of choice) failed old new answer

-- why there is no run is reported
abbrev pub EndsByStop : LoadStop → Type 0 → Option (List ℕ) → Option (List ℕ) → ℕ → Type 0
EndsByStop OutOfMemory failed old new answer = (answer ≡ 1) × (new ≡ old)
EndsByStop (Unread name) failed old new answer = Ends 3 (record_text (unread_record name)) failed old new answer
EndsByStop (Refused refusal) failed old new answer = Ends (refusal_status refusal) (record_text (refusal_record refusal)) failed old new answer

-- a run was run to its end, and reported
abbrev pub EndsByRun : Run → Knobs → Type 0 → Option (List ℕ) → Option (List ℕ) → ℕ → Type 0
EndsByRun run knobs failed old new answer = (of : Verdict) × (run_verdict run knobs ≡ Some of) × EndsBy of failed old new answer

-- a watched run was run to its end, and reported
abbrev pub EndsByWatch : Run → Watch → Type 0 → Option (List ℕ) → Option (List ℕ) → ℕ → Type 0
EndsByWatch run watch failed old new answer = (of : Verdict) × (watched_steps_verdict run watch (first_spoiled run) ≡ Some of) × EndsBy of failed old new answer

-- these names were asked for, in their order: all of them with a status of a verdict, and then no load failed
pub record HasAsked (told : Bool) (old new : Option (List (List ℕ))) (names : List (List ℕ)) (none_failed : Type 0) (status : ℕ) : Type 0 where
  pub some : IsTrue told → AsksSome old new names
  pub all : IsOfVerdict status → IsTrue told → AsksFor old new names
  pub steady : IsOfVerdict status → none_failed

-- the program ended with a verdict, or with a load that failed, or out of memory before it wrote anything
abbrev pub EndsByVerdict : Bool → Option Verdict → Type 0 → Option (List ℕ) → Option (List ℕ) → ℕ → Type 0
EndsByVerdict told verdict failed old new answer = (of : Verdict) × (IsTrue told → verdict ≡ Some of) × EndsBy of failed old new answer

abbrev pub EndsByLoad : Bool → (List ℕ → Type 0) → (List ℕ → Type 0) → Type 0 → Option (List ℕ) → Option (List ℕ) → ℕ → Type 0
EndsByLoad told unread read failed old new answer = (name : List ℕ) × unread name × (IsTrue told → read name) × Ends 3 (record_text (unread_record name)) failed old new answer

abbrev pub Answers : Bool → Option Verdict → (List ℕ → Type 0) → (List ℕ → Type 0) → Type 0 → Option (List ℕ) → Option (List ℕ) → ℕ → Type 0
Answers told verdict unread read failed old new answer =
    EndsByVerdict told verdict failed old new answer
    ⊎ (EndsByLoad told unread read failed old new answer ⊎ ((answer ≡ 1) × (new ≡ old)))
