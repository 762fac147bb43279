use Rattle.std.proofs.Common.{◌%◌, arith}
use mathlib.Core.Logic.{dite}
use native.Mathlib.Decide.{ℕ_discrete}
use Rattle.logical_clock.specs.declared.ClockState.TheVariants.{Idle, Updating}
use Rattle.logical_clock.proofs.ClockValue.step.Goals as goal

pub returns : goal.returns
returns c = dite (ℕ_discrete (c.args.self.now.0 % 2) 1) (λ odd. (Idle, (omega arith))) (λ even. (Updating, (omega arith)))
