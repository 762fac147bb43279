-- Keys that move by one delta.
--     from_on low keys      the keys that are not below low
--     within first last keys      the keys from first to last
--     IsSegment move from segment      the numbers from `from` to the segment's end all move by its delta
--     IsPart move keys from part      the part has the first key from `from` on, and the keys up to its last move by its delta
--     IsLastUpTo keys high last      the greatest key that is not above high
use Rattle.std.specs.Prelude.{◌≡◌, ℕ, ◌^◌, ◌<◌, ◌≤◌, ◌&&◌, true, false, List, filter, nat_le, ℤ}
use Rattle.key_lists.specs.Keys.{is_among}
use Rattle.shift_data.{specs.declared.parts.Part.Part, specs.declared.parts.Segment.Segment}

abbrev pub from_on : ℕ → List ℕ → List ℕ
from_on low = filter (nat_le low)

abbrev pub within : ℕ → ℕ → List ℕ → List ℕ
within first last = filter (λ key. nat_le first key && nat_le key last)

pub record IsSegment (move : ℕ → ℤ) (from : ℕ) (segment : Segment) : Type 0 where
  pub order : from ≤ segment.last
  pub small : segment.last < 2 ^ 62
  pub same : (key : ℕ) → from ≤ key → key ≤ segment.last → move key ≡ segment.delta

pub record IsLastUpTo (keys : List ℕ) (high last : ℕ) : Type 0 where
  pub below : last ≤ high
  pub key : is_among last keys ≡ true
  pub greatest : (key : ℕ) → is_among key keys ≡ true → key ≤ high → key ≤ last

pub record IsPart (move : ℕ → ℤ) (keys : List ℕ) (from : ℕ) (part : Part) : Type 0 where
  pub above : from ≤ part.first
  pub order : part.first ≤ part.last
  pub small : part.last < 2 ^ 62
  pub first : is_among part.first keys ≡ true
  pub last : is_among part.last keys ≡ true
  pub none_before : (key : ℕ) → from ≤ key → key < part.first → is_among key keys ≡ false
  pub same : (key : ℕ) → part.first ≤ key → key ≤ part.last → move key ≡ part.delta
