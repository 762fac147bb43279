-- Ranges of keys, and the keys that they hold.
--     keys_from first last      the keys from first to last
--     keys_of ranges      the keys of the ranges, one range after another
--     ranges_of keys      the longest ranges of rising keys
--     AreApart low ranges      the ranges ascend from low on, and a key is left out between any two of them
--     keys_before index ranges      how many keys the ranges before this one hold
--     AreRanges ranges      each holds a key, all hold keys below 2 ^ 62 alone, and there are not too many to be counted
--     Meets low high ranges from to      which ranges meet the keys from low to high
--     IsPart start key old new index      the ranges from start on are parted at a key, before the one at an index
--     stretched first last met      the range from first to last, stretched over those that it meets
--     left_edge first range      what is left of the range before first, if anything
--     right_edge last range      what is left of it after last, if anything
use Rattle.std.{specs.Prelude.{◌≡◌, ℕ, ◌+◌, ◌-◌, ◌^◌, ◌<◌, ◌≤◌, ◌==◌, ◌&&◌, Bool, List, [], ◌∷◌, length, take, drop, slice_range, slice_index_or, min, max, nat_le, nat_lt, if◌then◌else◌}, specs.List.{AllByRecursion, flat_map, range_with_len}}
use Rattle.row_set.specs.declared.ranges.Range.{Range}

abbrev pub keys_from : ℕ → ℕ → List ℕ
keys_from first last = range_with_len first (last + 1 - first)

abbrev pub keys_in : Range → List ℕ
keys_in range = keys_from range.first range.last

abbrev pub keys_of : List Range → List ℕ
keys_of = flat_map keys_in

-- whether the range holds the key
abbrev pub holds : ℕ → Range → Bool
holds key range = nat_le range.first key && nat_le key range.last

-- the ranges with one key before them, which is put into the first of them where it touches it
abbrev pub preceded : ℕ → List Range → List Range
preceded key [] = (record { first = key; last = key }) ∷ []
preceded key (range ∷ ranges) =
    if key + 1 == range.first
    then (record range { first = key }) ∷ ranges
    else (record { first = key; last = key }) ∷ range ∷ ranges

abbrev pub ranges_of : List ℕ → List Range
ranges_of [] = []
ranges_of (key ∷ keys) = preceded key (ranges_of keys)

-- the range begins at low or above, holds a key, and holds keys below 2 ^ 62 alone
pub record IsRangeFrom (low : ℕ) (range : Range) : Type 0 where
  pub above : low ≤ range.first
  pub ascends : range.first ≤ range.last
  pub small : range.last < 2 ^ 62

abbrev pub AreApart : ℕ → List Range → Type 0
AreApart low [] = Unit {0}
AreApart low (range ∷ ranges) = IsRangeFrom low range × AreApart (range.last + 2) ranges

abbrev pub keys_before : ℕ → List Range → ℕ
keys_before index ranges = length (keys_of (take index ranges))

pub record AreRanges (ranges : List Range) : Type 0 where
  pub each : AllByRecursion (IsRangeFrom 0) ranges
  pub few : length (keys_of ranges) ≤ 2 ^ 62 + 1

abbrev pub stretched : ℕ → ℕ → List Range → Range
stretched first last [] = record { first = first; last = last }
stretched first last (head ∷ rest) = record { first = min first head.first; last = max last (slice_index_or (head ∷ rest) (length rest) head).last }

abbrev pub left_edge : ℕ → Range → List Range
left_edge first range = if nat_lt range.first first then (record range { last = first - 1 }) ∷ [] else []

abbrev pub right_edge : ℕ → Range → List Range
right_edge last range = if nat_lt last range.last then (record range { first = last + 1 }) ∷ [] else []

-- the ranges from `from` up to `to` are those that end at low or after it and begin at high or before it
pub record Meets (low high : ℕ) (ranges : List Range) (from to : ℕ) : Type 0 where
  pub order : from ≤ to
  pub within : to ≤ length ranges
  pub before : AllByRecursion (λ range. range.last < low) (take from ranges)
  pub lows : AllByRecursion (λ range. low ≤ range.last) (slice_range ranges from to)
  pub highs : AllByRecursion (λ range. range.first ≤ high) (slice_range ranges from to)
  pub after : AllByRecursion (λ range. high < range.first) (drop to ranges)

-- from start on, those before the index end before the key, and the others begin at it or after it; the keys stay, and so do
-- the ranges before start
pub record IsPart (start key : ℕ) (old new : List Range) (index : ℕ) : Type 0 where
  pub order : start ≤ index
  pub within : index ≤ length new
  pub front : take start new ≡ take start old
  pub keys : keys_of (drop start new) ≡ keys_of (drop start old)
  pub ends : AllByRecursion (λ range. range.last < key) (slice_range new start index)
  pub apart : (low : ℕ) → AreApart low (drop start old) → AreApart low (slice_range new start index)
  pub begins : AreApart key (drop index new)
