-- Keys and ranges that move.
--     moved_key first last delta key      the number to which a key moves, where those from first to last move by delta
--     moved_keys first last delta keys      the keys, of which those from first to last have moved
--     IsKey number      the number is one that a key may be
--     shift delta range      the range, moved
--     Shifts delta range      both ends of the range are keys once they have moved
use Rattle.std.specs.Prelude.{ℕ, ◌^◌, ◌&&◌, List, map, nat_le, if◌then◌else◌, ℤ, pos, ◌+ℤ◌, ◌≤ℤ◌, ◌<ℤ◌}
use Rattle.row_set.specs.declared.ranges.Range.{Range}
use Rattle.tick_model.specs.Shifts.{as_key}

abbrev pub moved_key : ℕ → ℕ → ℤ → ℕ → ℤ
moved_key first last delta key = if nat_le first key && nat_le key last then pos key +ℤ delta else pos key

abbrev pub moved_keys : ℕ → ℕ → ℤ → List ℕ → List ℕ
moved_keys first last delta = map (λ key. as_key (moved_key first last delta key))

pub record IsKey (number : ℤ) : Type 0 where
  pub whole : pos 0 ≤ℤ number
  pub small : number <ℤ pos (2 ^ 62)

abbrev pub shift : ℤ → Range → Range
shift delta range = record { first = as_key (pos range.first +ℤ delta); last = as_key (pos range.last +ℤ delta) }

pub record Shifts (delta : ℤ) (range : Range) : Type 0 where
  pub first_key : IsKey (pos range.first +ℤ delta)
  pub last_key : IsKey (pos range.last +ℤ delta)
