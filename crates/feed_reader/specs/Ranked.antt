-- A map from texts to their ranks.
use Rattle.std.{specs.Prelude.{◌≡◌, ℕ, List}, specs.HashMap.{HashMap, get_by}, specs.List.position_from, specs.Str.bytes_eq, specs.Borrow.Bor, specs.declared.hash.FoldHasher.FoldHasher, specs.declared.hash.BuildHasherDefault.BuildHasherDefault}

-- the map finds each text's first place from a rank on
abbrev pub FindsFrom : ℕ → List (List ℕ) → HashMap (Bor (List ℕ)) ℕ (BuildHasherDefault FoldHasher) → Type 0
FindsFrom rank texts ranks = (text : List ℕ) → get_by (λ key. bytes_eq text key.now) ranks ≡ position_from (bytes_eq text) rank texts
