-- Keys that are asked for by the keys to which they move.
--     IsAskedPart shifts survivors after from part      the part has the first key from `from` on, and those to its last are asked for as it says
use Rattle.std.specs.Prelude.{◌≡◌, ℕ, ◌^◌, ◌<◌, ◌≤◌, true, false, List}
use Rattle.key_lists.specs.Keys.{is_among}
use Rattle.tick_model.{specs.declared.update.ShiftRange.ShiftRange, specs.Shifts.{moved, as_key}}
use Rattle.shift_data.specs.declared.unapply.AskedPart.{AskedPart}

pub record IsAskedPart (shifts : List ShiftRange) (survivors after : List ℕ) (from : ℕ) (part : AskedPart) : Type 0 where
  pub above : from ≤ part.first
  pub order : part.first ≤ part.last
  pub small : part.last < 2 ^ 62
  pub none_before : (key : ℕ) → from ≤ key → key < part.first → is_among key survivors ≡ false
  pub whole : part.asked ≡ true → (key : ℕ) → part.first ≤ key → key ≤ part.last → is_among key survivors ≡ true
  pub same : (key : ℕ) → part.first ≤ key → key ≤ part.last → is_among key survivors ≡ true → is_among (as_key (moved shifts key)) after ≡ part.asked
