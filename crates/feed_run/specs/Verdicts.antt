-- What the program is to say of its words and its files.
--     verdict words content      the verdict, where each file that has to be read is there
--     files words content      the names of the files that have to be read
--     are_told told words      whether the contents that the words ask for are told, where those of files are told or not
--     status_of verdict      the program's status
use Rattle.std.{specs.Prelude.{ℕ, Bool, true, List, [], ◌∷◌, Option, Some, None, Result, Ok, Err, length, nat_lt, option_map, if◌then◌else◌}, specs.List.position, specs.Str.bytes_eq}
use Rattle.tick_model.{specs.declared.feed.Run.Run, specs.Spoiled.{Cause, ByBatch, ByNode, ByPublication, first_spoiled, spoiled_by}, specs.declared.plan.Plan.Plan}
use Rattle.command_words.{specs.declared.command.Command.Command, specs.declared.command.Task.Task, specs.declared.command.Task.TheVariants.{Run as RunTask, Demo, Watch as WatchTask}, specs.Commands.command}
use Rattle.replay.{specs.declared.outcome.Knobs.Knobs, specs.Kept.{kept_words, most_words}}
use Rattle.feed_run.{specs.declared.refusal.Refusal.Refusal, specs.declared.refusal.Refusal.TheVariants.{Usage, Script, Table, Feed}, specs.Found.{Found, names_after}, specs.Readings.{Content, files_read, plan_found, plan_read, run_found, script_in}}
use Rattle.script_reader.specs.declared.script.Script.{Script as OwnScript}
use Rattle.watched_run.specs.declared.watch.Watch.{Watch}

-- The words or a file are refused; a made run of so many steps is summed up; the snapshots to be kept have too many words; a step of a run
-- is the first that is spoiled; or every step up to the last one is done. Of a watched run the script has no node of the name; or its steps
-- end likewise.
pub data Verdict : Type 0 where
  Refused : Refusal → Verdict
  Summary : ℕ → Verdict
  Kept : ℕ → Verdict
  Spoiled : Run → Knobs → ℕ → Cause → Verdict
  Done : Run → Knobs → ℕ → Verdict
  Unnamed : List ℕ → Verdict
  WatchSpoiled : Run → Watch → ℕ → Cause → Verdict
  WatchDone : Run → Watch → ℕ → Verdict

-- of a run: of the snapshots to be kept, and then of the steps
abbrev pub steps_verdict : Run → Knobs → Option ℕ → Option Verdict
steps_verdict run knobs None = Some (Done run knobs (length run.batches))
steps_verdict run knobs (Some step) = option_map (Spoiled run knobs step) (spoiled_by run step)

abbrev pub run_verdict : Run → Knobs → Option Verdict
run_verdict run knobs =
    if nat_lt most_words (kept_words run knobs) then Some (Kept (kept_words run knobs)) else steps_verdict run knobs (first_spoiled run)

-- of the files: of the script, of the table files in the order of the script, of the feed, and then of the run
abbrev pub found_verdict : Knobs → Found Run → Option Verdict
found_verdict knobs None = None
found_verdict knobs (Some (Err refusal)) = Some (Refused refusal)
found_verdict knobs (Some (Ok run)) = run_verdict run knobs

-- of a watched run: of the script, of its node of the name, of the table files, of the feed, and then of the steps
abbrev pub watched_steps_verdict : Run → Watch → Option ℕ → Option Verdict
watched_steps_verdict run watch None = Some (WatchDone run watch (length run.batches))
watched_steps_verdict run watch (Some step) = option_map (WatchSpoiled run watch step) (spoiled_by run step)

abbrev pub watched_verdict : Watch → Found Run → Option Verdict
watched_verdict watch None = None
watched_verdict watch (Some (Err refusal)) = Some (Refused refusal)
watched_verdict watch (Some (Ok run)) = watched_steps_verdict run watch (first_spoiled run)

abbrev pub node_named : List ℕ → Plan → Option ℕ
node_named name plan = position (λ node. bytes_eq node.name name) plan.nodes

abbrev pub named_verdict : Content → (ℕ → Watch) → List ℕ → List ℕ → OwnScript → Option ℕ → Option Verdict
named_verdict content watch feed name script None = Some (Unnamed name)
named_verdict content watch feed name script (Some node) = watched_verdict (watch node) (plan_found content script feed)

abbrev pub watch_verdict : Content → (ℕ → Watch) → List ℕ → List ℕ → Option (Result OwnScript Refusal) → Option Verdict
watch_verdict content watch feed name None = None
watch_verdict content watch feed name (Some (Err refusal)) = Some (Refused refusal)
watch_verdict content watch feed name (Some (Ok script)) = named_verdict content watch feed name script (node_named name script.plan)

-- of the words, and then of what they ask for
abbrev pub knobs_of : Command → Knobs
knobs_of asked = record { workers = asked.workers; callers = asked.callers; snaps = asked.snaps; attempts = asked.attempts }

abbrev pub watch_of : ℕ → ℕ → ℕ → ℕ → Watch
watch_of first count every node = record { node = node; first = first; count = count; every = every }

abbrev pub task_verdict : Content → Knobs → ℕ → Task → Option Verdict
task_verdict content knobs every (RunTask script feed) = found_verdict knobs (run_found content script feed)
task_verdict content knobs every (Demo steps) = Some (Summary steps)
task_verdict content knobs every (WatchTask script feed name first count) = watch_verdict content (watch_of first count every) feed name (option_map script_in (content script))

abbrev pub command_verdict : Content → Option Command → Option Verdict
command_verdict content None = Some (Refused Usage)
command_verdict content (Some asked) = task_verdict content (knobs_of asked) asked.every asked.task

abbrev pub verdict : List (List ℕ) → Content → Option Verdict
verdict words content = command_verdict content (command words)

-- a run of files reads them, and so does a watched run; of the latter the script alone is read where it has no node of the name
abbrev pub named_files : Content → List ℕ → OwnScript → Option ℕ → List (List ℕ)
named_files content feed script None = []
named_files content feed script (Some node) = plan_read content script feed

abbrev pub watch_files : Content → List ℕ → List ℕ → List ℕ → List (List ℕ)
watch_files content script feed name =
    script ∷ names_after (option_map script_in (content script)) (λ read. named_files content feed read (node_named name read.plan))

abbrev pub task_files : Content → Task → List (List ℕ)
task_files content (RunTask script feed) = files_read content script feed
task_files content (Demo steps) = []
task_files content (WatchTask script feed name first count) = watch_files content script feed name

abbrev pub command_files : Content → Option Command → List (List ℕ)
command_files content None = []
command_files content (Some asked) = task_files content asked.task

abbrev pub files : List (List ℕ) → Content → List (List ℕ)
files words content = command_files content (command words)

-- whether the contents that are asked for are told: a made run asks for none, and neither do words of no command
abbrev pub task_told : Bool → Task → Bool
task_told told (RunTask script feed) = told
task_told told (Demo steps) = true
task_told told (WatchTask script feed name first count) = told

abbrev pub command_told : Bool → Option Command → Bool
command_told told None = true
command_told told (Some asked) = task_told told asked.task

abbrev pub are_told : Bool → List (List ℕ) → Bool
are_told told words = command_told told (command words)

-- the status of each
abbrev pub refusal_status : Refusal → ℕ
refusal_status Usage = 2
refusal_status (Script line kind) = 4
refusal_status (Table source number kind) = 5
refusal_status (Feed number kind) = 6

abbrev pub cause_status : Cause → ℕ
cause_status (ByBatch number rule) = 7
cause_status (ByNode node fault) = 8
cause_status (ByPublication number rows) = 9

abbrev pub status_of : Verdict → ℕ
status_of (Refused refusal) = refusal_status refusal
status_of (Summary steps) = 0
status_of (Kept words) = 2
status_of (Spoiled run knobs step cause) = cause_status cause
status_of (Done run knobs step) = 0
status_of (Unnamed name) = 12
status_of (WatchSpoiled run watch step cause) = cause_status cause
status_of (WatchDone run watch step) = 0
