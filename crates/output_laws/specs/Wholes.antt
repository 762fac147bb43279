-- The entries of what the program writes.
--     verdict_entries verdict choice      the entries of a verdict, where the choice gives the steps of the snapshots
--     IsShownTo verdict tables texts      the output of the verdict is read with these tables and texts: with those of its run, where it has one
--     IsRun verdict      its run is lawful, and its last good step is the one that it ends with
use Rattle.std.specs.Prelude.{◌≡◌, ℕ, ◌≤◌, List, [], ◌∷◌, ◌++◌, drop, Some}
use Rattle.feed_run.{specs.Verdicts.{Verdict, Refused, Summary, Kept, Spoiled, Done, Unnamed, WatchSpoiled, WatchDone}, specs.Wholes.{cause_record, kept_record, refusal_record, unnamed_record}}
use Rattle.replay.specs.declared.outcome.Knobs.{Knobs}
use Rattle.tick_model.{specs.declared.feed.Run.Run, specs.LawfulRuns.IsLawfulRun, specs.Spoiled.good}
use Rattle.update_text.specs.declared.shown.Shown.{Shown}
use Rattle.watched_run.specs.Messages.{IsWatch}
use Rattle.run_output.{specs.declared.entry.OutputEntry.OutputEntry, specs.declared.entry.OutputEntry.TheVariants.{Done as End, Fault}, specs.Runs.tables_of}
use Rattle.output_laws.specs.Written.{messages, run_entries, watch_entries}

-- the end by the fault of a record
abbrev pub fault_of : List (List ℕ) → List OutputEntry
fault_of fields = Fault (drop 1 fields) ∷ []

abbrev pub verdict_entries : Verdict → List (List ℕ) → List OutputEntry
verdict_entries (Refused refusal) choice = fault_of (refusal_record refusal)
verdict_entries (Summary steps) choice = []
verdict_entries (Kept words) choice = fault_of (kept_record words)
verdict_entries (Spoiled run knobs step cause) choice = run_entries run (good run) choice ++ fault_of (cause_record run step cause)
verdict_entries (Done run knobs step) choice = run_entries run (Some step) choice ++ End step ∷ []
verdict_entries (Unnamed name) choice = fault_of (unnamed_record name)
verdict_entries (WatchSpoiled run watch step cause) choice = watch_entries run watch (good run) ++ fault_of (cause_record run step cause)
verdict_entries (WatchDone run watch step) choice = messages run watch step ++ End step ∷ []

abbrev pub AreOf : Run → List Shown → List (List ℕ) → Type 0
AreOf run tables texts = (tables ≡ tables_of run) × (texts ≡ run.texts)

-- a summary is no output of a run
abbrev pub IsShownTo : Verdict → List Shown → List (List ℕ) → Type 0
IsShownTo (Refused refusal) tables texts = Unit {0}
IsShownTo (Summary steps) tables texts = ⊥
IsShownTo (Kept words) tables texts = Unit {0}
IsShownTo (Spoiled run knobs step cause) tables texts = AreOf run tables texts
IsShownTo (Done run knobs step) tables texts = AreOf run tables texts
IsShownTo (Unnamed name) tables texts = Unit {0}
IsShownTo (WatchSpoiled run watch step cause) tables texts = AreOf run tables texts
IsShownTo (WatchDone run watch step) tables texts = AreOf run tables texts

pub record AreFew (knobs : Knobs) : Type 0 where
  pub callers : knobs.callers ≤ 16
  pub snaps : knobs.snaps ≤ 64

abbrev pub IsRun : Verdict → Type 0
IsRun (Refused refusal) = Unit {0}
IsRun (Summary steps) = Unit {0}
IsRun (Kept words) = Unit {0}
IsRun (Spoiled run knobs step cause) = IsLawfulRun run × AreFew knobs
IsRun (Done run knobs step) = IsLawfulRun run × AreFew knobs × (good run ≡ Some step)
IsRun (Unnamed name) = Unit {0}
IsRun (WatchSpoiled run watch step cause) = IsLawfulRun run × IsWatch run watch
IsRun (WatchDone run watch step) = IsLawfulRun run × IsWatch run watch × (good run ≡ Some step)
