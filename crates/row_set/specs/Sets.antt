-- Sets of keys, as rising lists.
--     IsKeySet keys      the keys rise, and each is below 2 ^ 62
--     united keys others      the keys of both
--     common keys others      the keys that are among the others too
--     count_below key keys      how many are smaller
--     found key keys      the position of the key, or where it would stand
use Rattle.std.{specs.Prelude.{ℕ, ◌-◌, ◌^◌, ◌<◌, ◌==◌, List, [], ◌∷◌, length, filter, slice_get, nat_lt, if◌then◌else◌, Option, Result, Ok, Err}, specs.List.AllByRecursion}
use Rattle.key_lists.specs.Keys.{is_among, IsRising}

pub record IsKeySet (keys : List ℕ) : Type 0 where
  pub rising : IsRising keys
  pub small : AllByRecursion (λ key. key < 2 ^ 62) keys

-- the rising keys with one more in its place
abbrev pub with_key : ℕ → List ℕ → List ℕ
with_key key [] = key ∷ []
with_key key (other ∷ others) =
    if nat_lt key other then key ∷ other ∷ others
    else (if key == other then other ∷ others else other ∷ with_key key others)

abbrev pub united : List ℕ → List ℕ → List ℕ
united [] others = others
united (key ∷ keys) others = with_key key (united keys others)

abbrev pub common : List ℕ → List ℕ → List ℕ
common keys others = filter (λ key. is_among key others) keys

abbrev pub count_below : ℕ → List ℕ → ℕ
count_below key keys = length (filter (λ other. nat_lt other key) keys)

-- Ok of the key's position, or else Err of the number of smaller keys
abbrev pub found : ℕ → List ℕ → Result ℕ ℕ
found key keys = if is_among key keys then Ok (count_below key keys) else Err (count_below key keys)

-- the last key, if there is one
abbrev pub last_key : List ℕ → Option ℕ
last_key keys = slice_get keys (length keys - 1)
