-- Made runs.
--     made steps      the made run of so many steps
use Rattle.std.{specs.Prelude.{ℕ, map}, specs.List.range_with_len}
use Rattle.tick_model.specs.declared.feed.Run.{Run}
use Rattle.made_run.specs.Plan as script
use Rattle.made_run.specs.Steps.{batch_after}
use Rattle.made_run.specs.Tables as tables

abbrev pub made : ℕ → Run
made steps = record { plan = script.plan; opening = tables.opening; batches = map batch_after (range_with_len 0 steps); texts = tables.texts }
