-- Positions in an order.
--     is_one entries some position      whether one of some entries stands there
--     AreFound entries some positions      these are the positions at which one of some entries stands
--     key_at entries position      the key of the entry at a position, or 0 past the end
--     keys_at entries positions      the keys of the entries at these positions
--     IsRun all first run      these stand one behind the other, from a position on
--     AreApart keys      no key comes twice
--     AreUnder order some positions      these are the positions of the keys that are some, in the order of keys
--     left_from first positions all      all but those at the positions, where the first one stands at `first`
--     other_places count positions      the positions below a number but these
use Rattle.std.{specs.Prelude.{◌≡◌, ℕ, suc, ◌+◌, ◌<◌, Bool, false, List, [], ◌∷◌, if◌then◌else◌, length, map, slice_get}, specs.List.range_with_len, specs.Option.option_map_or}
use Rattle.key_lists.specs.Keys.{is_among, without}
use Rattle.sort_op.{specs.declared.entry.Entry.Entry, specs.Entries.is_in}

abbrev pub is_one : List Entry → List Entry → ℕ → Bool
is_one entries some position = option_map_or (λ entry. is_in entry some) (slice_get entries position) false

abbrev pub AreFound : List Entry → List Entry → List ℕ → Type 0
AreFound entries some positions = (position : ℕ) → is_among position positions ≡ is_one entries some position

abbrev pub key_at : List Entry → ℕ → ℕ
key_at entries position = option_map_or (λ entry. entry.key) (slice_get entries position) 0

abbrev pub keys_at : List Entry → List ℕ → List ℕ
keys_at entries = map (key_at entries)

abbrev pub IsRun : {X : Type 0} → List X → ℕ → List X → Type 0
IsRun all first run = (offset : ℕ) → offset < length run → slice_get all (first + offset) ≡ slice_get run offset

abbrev pub AreApart : List ℕ → Type 0
AreApart [] = Unit {0}
AreApart (key ∷ keys) = (is_among key keys ≡ false) × AreApart keys

abbrev pub AreUnder : List ℕ → List ℕ → List ℕ → Type 0
AreUnder order some positions = (position : ℕ) → is_among position positions ≡ option_map_or (λ key. is_among key some) (slice_get order position) false

abbrev pub left_from : {X : Type 0} → ℕ → List ℕ → List X → List X
left_from first positions [] = []
left_from first positions (x ∷ xs) = if is_among first positions then left_from (suc first) positions xs else x ∷ left_from (suc first) positions xs

abbrev pub other_places : ℕ → List ℕ → List ℕ
other_places count positions = without positions (range_with_len 0 count)
