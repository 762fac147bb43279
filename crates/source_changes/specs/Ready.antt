-- What has to hold where the rows of a source are read.
--     IsReady step      the rows that stay move to keys in order, and each row of now is under a key
use Rattle.std.{specs.Prelude.{◌^◌, ◌<◌}, specs.List.AllByRecursion}
use Rattle.key_lists.specs.Keys.{without}
use Rattle.shift_data.specs.Moves.{IsLawful}
use Rattle.tick_laws.specs.Checked.{keys_after}
use Rattle.tick_model.specs.Tables.{keys}
use Rattle.source_changes.specs.Stepping.{Stepping}

pub record IsReady (step : Stepping) : Type 0 where
  pub lawful : IsLawful step.update.shifted (without step.update.removed (keys step.old.rows))
  pub small : AllByRecursion (λ key. key < 2 ^ 62) (keys_after (keys step.old.rows) step.update)
