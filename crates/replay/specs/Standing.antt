-- A run under way.
--     IsWithin run step      no published table has more rows than its limit at the step
--     IsGood run step      nothing spoils a step up to this one
--     IsAt run step progress      it stands at this step, which is good, and every step up to it is printed
--     IsReady run progress      it stands at the opening, and is there to be brought on
--     IsWriterAt store step writer      the store's writer, which has completed this step and begun no other
--     IsLast run step      this is the last good step
use Rattle.std.specs.Prelude.{◌≡◌, ℕ, ◌≤◌, Option, None, Some, length, map}
use Rattle.snapshot_store.{specs.Models.{IsOf, StoreModel, WriterModel}, specs.declared.writers.Phase.TheVariants.Idle}
use Rattle.tick_model.{specs.declared.feed.Run.Run, specs.Spoiled.{good, publication_fault}, specs.States.state, specs.Texts.updates_records}
use Rattle.tick_laws.specs.Reached.{IsReached}
use Rattle.replay.{specs.declared.progress.PrintedRun.PrintedRun, specs.Printed.printed_of}

abbrev pub IsWithin : Run → ℕ → Type 0
IsWithin run step = publication_fault 0 (state run step) run.plan.published ≡ None

pub record IsGood (run : Run) (step : ℕ) : Type 0 where
  pub reached : IsReached run step
  pub within : (s : ℕ) → s ≤ step → IsWithin run s

pub record IsAt (run : Run) (step : ℕ) (progress : PrintedRun) : Type 0 where
  pub run_is : progress.graph.run ≡ run
  pub step_is : progress.graph.step ≡ step
  pub good : IsGood run step
  pub printed_are : progress.printed ≡ map (printed_of run) run.plan.printed
  pub records_are : progress.records ≡ length (updates_records run step)

abbrev pub IsReady : Run → Option PrintedRun → Type 0
IsReady run None = ⊥
IsReady run (Some progress) = IsAt run 0 progress

pub record IsWriterAt (store : StoreModel) (step : ℕ) (writer : WriterModel) : Type 0 where
  pub own : IsOf store writer.table writer.run
  pub step_is : writer.step ≡ step
  pub idle : writer.phase ≡ Idle

pub record IsLast (run : Run) (step : ℕ) : Type 0 where
  pub good_is : good run ≡ Some step
  pub reached : IsReached run step
