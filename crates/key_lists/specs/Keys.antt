-- Keys among others, and keys that rise.
--     is_among key keys      whether the key is one of them
--     IsRising keys      each is below those after it
--     without others keys      the keys that are none of the others
--     runs keys      the longest runs of neighbouring keys
use Rattle.std.{specs.Prelude.{ℕ, ◌+◌, ◌<◌, ◌==◌, Bool, not, List, [], ◌∷◌, filter, if◌then◌else◌}, specs.List.{list_any, AllByRecursion}}

abbrev pub is_among : ℕ → List ℕ → Bool
is_among key keys = list_any (λ other. other == key) keys

abbrev pub IsRising : List ℕ → Type 0
IsRising [] = Unit {0}
IsRising (x ∷ xs) = AllByRecursion (λ y. x < y) xs × IsRising xs

abbrev pub without : List ℕ → List ℕ → List ℕ
without others = filter (λ key. not (is_among key others))

-- the longest runs of neighbouring keys, each with its first key and its last
abbrev pub run_with : ℕ → List (ℕ × ℕ) → List (ℕ × ℕ)
run_with key [] = (key, key) ∷ []
run_with key (next ∷ others) = if next.0 == key + 1 then (key, next.1) ∷ others else (key, key) ∷ next ∷ others

abbrev pub runs : List ℕ → List (ℕ × ℕ)
runs [] = []
runs (key ∷ keys) = run_with key (runs keys)
