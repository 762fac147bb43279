-- The states of the clock.
use Rattle.std.specs.Prelude.{ℕ}
use Rattle.logical_clock.{specs.declared.ClockState.ClockState, specs.declared.ClockState.TheVariants.{Idle, Updating}}
use Rattle.tick_model.specs.Clock.{idle, updating}

-- the value of the clock in this state of a step
abbrev pub value_in : ClockState → ℕ → ℕ
value_in Idle step = idle step
value_in Updating step = updating step
