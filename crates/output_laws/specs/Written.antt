-- The entries of what is written of a run.
--     run_entries run last choice      of what `run_feed` writes: the updates up to a step, and the snapshots of a choice
--     watch_entries run watch last      of what `watch_feed` writes: the messages up to a step that are not empty
use Rattle.std.specs.Prelude.{ℕ, ◌+◌, List, [], ◌∷◌, ◌++◌, Option, Some, None}
use Rattle.tick_model.{specs.declared.feed.Run.Run, specs.Changes.change_of, specs.Slices.{first_tick, slice_tick}}
use Rattle.viewport.specs.Slices.{cut}
use Rattle.watched_run.{specs.declared.watch.Watch.Watch, specs.Messages.{gaps, slice_of}}
use Rattle.run_output.{specs.declared.entry.OutputEntry.OutputEntry, specs.Runs.{snapshot_entries, told_update, update_entries}}

abbrev pub run_entries : Run → Option ℕ → List (List ℕ) → List OutputEntry
run_entries run None choice = []
run_entries run (Some last) choice = update_entries run last ++ snapshot_entries run choice

abbrev pub message_entry : Run → Watch → ℕ → ℕ → List OutputEntry
message_entry run watch step more = told_update watch.node (step + more) (change_of (slice_tick run watch.node (cut (slice_of run watch)) step more))

abbrev pub later_entries : Run → Watch → ℕ → List ℕ → List OutputEntry
later_entries run watch step [] = []
later_entries run watch step (more ∷ others) = message_entry run watch step more ++ later_entries run watch (step + more) others

abbrev pub messages : Run → Watch → ℕ → List OutputEntry
messages run watch last = told_update watch.node 0 (change_of (first_tick run watch.node (cut (slice_of run watch)) 0)) ++ later_entries run watch 0 (gaps watch.every 0 last)

abbrev pub watch_entries : Run → Watch → Option ℕ → List OutputEntry
watch_entries run watch None = []
watch_entries run watch (Some last) = messages run watch last
