-- Where a shift leads a set of keys.
--     IsLawful shifts keys      every key moves to a key, and the moved keys rise
--     pair_by shifts key      the old and the new key of a row
--     canonical shifts survivors      the ranges of the pairs of these rows
--     unapplied shifts survivors after      those of the survivors whose moved key is asked for
--     pair_through shifts next key      the old and the new key of a row that moves twice
--     canonical_through shifts next survivors      the ranges of the pairs of these rows
--     pairs_of old new      the pairs of two lists of keys, one key by one
use Rattle.std.specs.Prelude.{◌≡◌, ℕ, ◌^◌, List, [], ◌∷◌, None, map, filter, ℤ, ◌+ℤ◌}
use Rattle.key_lists.specs.Keys.{is_among}
use Rattle.tick_model.{specs.declared.update.KeyPair.KeyPair, specs.declared.update.ShiftRange.ShiftRange, specs.Rules.shift_fault, specs.Shifts.{moved, as_key, delta_at, shifted}}

abbrev pub IsLawful : List ShiftRange → List ℕ → Type 0
IsLawful shifts keys = shift_fault (2 ^ 62) shifts keys ≡ None

abbrev pub pair_by : List ShiftRange → ℕ → KeyPair
pair_by shifts key = record { old = key; new = as_key (moved shifts key) }

abbrev pub canonical : List ShiftRange → List ℕ → List ShiftRange
canonical shifts survivors = shifted (map (pair_by shifts) survivors)

abbrev pub unapplied : List ShiftRange → List ℕ → List ℕ → List ℕ
unapplied shifts survivors after = filter (λ key. is_among (as_key (moved shifts key)) after) survivors

abbrev pub pair_through : List ShiftRange → List ShiftRange → ℕ → KeyPair
pair_through shifts next key = record { old = key; new = as_key (moved next (as_key (moved shifts key))) }

-- by how much it moves
abbrev pub delta_through : List ShiftRange → List ShiftRange → ℕ → ℤ
delta_through shifts next key = delta_at shifts key +ℤ delta_at next (as_key (moved shifts key))

abbrev pub canonical_through : List ShiftRange → List ShiftRange → List ℕ → List ShiftRange
canonical_through shifts next survivors = shifted (map (pair_through shifts next) survivors)

abbrev pub pairs_of : List ℕ → List ℕ → List KeyPair
pairs_of [] new = []
pairs_of (key ∷ old) [] = []
pairs_of (key ∷ old) (other ∷ new) = (record { old = key; new = other }) ∷ pairs_of old new
