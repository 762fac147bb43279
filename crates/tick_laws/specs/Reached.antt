-- The steps that a run reaches.
--     KeepsRules run step      no batch up to the step breaks a rule
--     IsReached run step      neither a batch nor a node spoils a step up to this one
--     table_before run step node      the node's table before the step: empty before the opening
--     IsTickFrom old new tick      a tick from the one table to the other
use Rattle.std.specs.Prelude.{◌≡◌, ℕ, zero, suc, ◌≤◌, None}
use Rattle.tick_model.{specs.declared.feed.Run.Run, specs.declared.table.PlainTable.PlainTable, specs.Evaluation.table_at, specs.Sources.batch_fault, specs.Spoiled.node_fault, specs.States.{empty_at, state}, specs.Updates.{IsTick, Tick}}

abbrev pub KeepsRules : Run → ℕ → Type 0
KeepsRules run step = (s : ℕ) → s ≤ step → batch_fault run s ≡ None

pub record IsReached (run : Run) (step : ℕ) : Type 0 where
  pub batches : KeepsRules run step
  pub nodes : (s : ℕ) → s ≤ step → node_fault 0 (state run s) ≡ None

abbrev pub table_before : Run → ℕ → ℕ → PlainTable
table_before run zero = empty_at run.plan
table_before run (suc step) = table_at (state run step)

pub record IsTickFrom (old new : PlainTable) (tick : Tick) : Type 0 where
  pub is_tick : IsTick tick
  pub old_is : tick.old ≡ old
  pub new_is : tick.new ≡ new
