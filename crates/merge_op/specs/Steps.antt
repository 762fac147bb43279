-- By how much a row may move.
--     IsStep delta      from a key to a key
use Rattle.std.specs.Prelude.{◌-◌, ◌^◌, ℤ, pos, negsuc, ◌<ℤ◌}

pub record IsStep (delta : ℤ) : Type 0 where
  pub up : delta <ℤ pos (2 ^ 62)
  pub down : negsuc (2 ^ 62 - 1) <ℤ delta
