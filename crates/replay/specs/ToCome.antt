-- What is still to be printed of a run.
--     good_updates run      the updates of the printed nodes up to the last good step
--     text_from run step      those of this step and of all good steps after it
use Rattle.std.{specs.Prelude.{ℕ, ◌+◌, ◌-◌, List, [], Option, Some, None, flat_map, length, unwrap_or}, specs.List.range_with_len}
use Rattle.tick_model.{specs.declared.feed.Run.Run, specs.Spoiled.{first_spoiled, good}, specs.Texts.{records_text, step_records, updates_text}}

-- where step 0 is spoiled there is no good step, and nothing is written
abbrev pub updates_until : Run → Option ℕ → List ℕ
updates_until run None = []
updates_until run (Some last) = updates_text run last

abbrev pub good_updates : Run → List ℕ
good_updates run = updates_until run (good run)

-- how many steps are good: those before the first that is spoiled, step 0 among them
abbrev pub good_steps : Run → ℕ
good_steps run = unwrap_or (first_spoiled run) (length run.batches + 1)

abbrev pub text_from : Run → ℕ → List ℕ
text_from run step = records_text (flat_map (step_records run) (range_with_len step (good_steps run - step)))
