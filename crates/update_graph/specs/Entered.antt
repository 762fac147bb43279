-- The steps that a run enters.
--     IsEntered run step      the run is lawful, no batch up to the step breaks a rule, and no node spoils a step before it
use Rattle.std.specs.Prelude.{◌≡◌, ℕ, ◌<◌, ◌≤◌, None, length}
use Rattle.tick_laws.specs.Reached.{KeepsRules}
use Rattle.tick_model.{specs.declared.feed.Run.Run, specs.LawfulRuns.IsLawfulRun, specs.Spoiled.node_fault, specs.States.state}

pub record IsEntered (run : Run) (step : ℕ) : Type 0 where
  pub lawful : IsLawfulRun run
  pub within : step ≤ length run.batches
  pub batches : KeepsRules run step
  pub nodes : (s : ℕ) → s < step → node_fault 0 (state run s) ≡ None
