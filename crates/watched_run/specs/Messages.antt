-- The messages about the watched rows of a run, and their text.
--     IsWatch run watch      the node is one of the run, and the numbers are in their ranges
--     gaps every more left      the steps from each message to the next, where so many were taken since the last one, and so many are left to the last good step
--     watch_text run watch last      the text of the messages up to a step: at the opening, after each so many steps, and at this step
use Rattle.std.{specs.Prelude.{ℕ, ◌+◌, ◌<◌, ◌≤◌, ◌==◌, zero, suc, List, [], ◌∷◌, ◌++◌, length, if◌then◌else◌}, specs.List.range_with_len}
use Rattle.tick_model.{specs.declared.feed.Run.Run, specs.Changes.change_of, specs.Slices.{first_tick, slice_tick}, specs.Texts.{change_records, columns_at, name_at, records_text}, specs.Updates.Tick}
use Rattle.viewport.{specs.declared.slice.Slice.Slice, specs.Slices.cut}
use Rattle.watched_run.specs.declared.watch.Watch.{Watch}

pub record IsWatch (run : Run) (watch : Watch) : Type 0 where
  pub node : watch.node < length run.plan.nodes
  pub first : watch.first < 4194304
  pub some_rows : 1 ≤ watch.count
  pub few_rows : watch.count ≤ 4194304
  pub some_steps : 1 ≤ watch.every
  pub few_steps : watch.every ≤ 100000

-- the rows at its positions, with all columns, of which there are so many
abbrev pub slice_with : Watch → ℕ → Slice
slice_with watch width = record { first = watch.first; count = watch.count; columns = range_with_len 0 width }

abbrev pub slice_of : Run → Watch → Slice
slice_of run watch = slice_with watch (length (columns_at run watch.node))

-- the records of a message: of the first one, and of one so many steps after the one before
abbrev pub tick_records : Run → Watch → ℕ → Tick → List (List (List ℕ))
tick_records run watch step tick = change_records step (name_at run watch.node) (columns_at run watch.node) run.texts (change_of tick)

abbrev pub first_records : Run → Watch → List (List (List ℕ))
first_records run watch = tick_records run watch 0 (first_tick run watch.node (cut (slice_of run watch)) 0)

abbrev pub message_records : Run → Watch → ℕ → ℕ → List (List (List ℕ))
message_records run watch step more = tick_records run watch (step + more) (slice_tick run watch.node (cut (slice_of run watch)) step more)

abbrev pub later_records : Run → Watch → ℕ → List ℕ → List (List (List ℕ))
later_records run watch step [] = []
later_records run watch step (more ∷ others) = message_records run watch step more ++ later_records run watch (step + more) others

abbrev pub gaps : ℕ → ℕ → ℕ → List ℕ
gaps every more zero = if more == 0 then [] else more ∷ []
gaps every more (suc left) = if suc more == every then suc more ∷ gaps every 0 left else gaps every (suc more) left

abbrev pub watch_text : Run → Watch → ℕ → List ℕ
watch_text run watch last = records_text (first_records run watch ++ later_records run watch 0 (gaps watch.every 0 last))
