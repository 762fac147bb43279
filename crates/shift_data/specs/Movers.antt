-- Keys that move at all.
--     movers move keys      those of the keys that do not stay
--     IsMove move keys from part      the part has the first key from `from` on; its numbers move by its delta, and where that is not 0 they all are keys
use Rattle.std.{specs.Prelude.{◌≡◌, ℕ, ◌^◌, ◌<◌, ◌≤◌, true, false, not, List, filter, ℤ, pos}, specs.Ordering.int_eq}
use Rattle.key_lists.specs.Keys.{is_among}
use Rattle.shift_data.specs.declared.parts.Part.{Part}

abbrev pub movers : (ℕ → ℤ) → List ℕ → List ℕ
movers move = filter (λ key. not (int_eq (move key) (pos 0)))

pub record IsMove (move : ℕ → ℤ) (keys : List ℕ) (from : ℕ) (part : Part) : Type 0 where
  pub above : from ≤ part.first
  pub order : part.first ≤ part.last
  pub small : part.last < 2 ^ 62
  pub first : is_among part.first keys ≡ true
  pub none_before : (key : ℕ) → from ≤ key → key < part.first → is_among key keys ≡ false
  pub same : (key : ℕ) → part.first ≤ key → key ≤ part.last → move key ≡ part.delta
  pub whole : int_eq part.delta (pos 0) ≡ false → (key : ℕ) → part.first ≤ key → key ≤ part.last → is_among key keys ≡ true
