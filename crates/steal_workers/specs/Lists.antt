-- Lists of node numbers.
use Rattle.std.{specs.Prelude.{◌≡◌, ℕ, List, true, eqb}, specs.List.list_any}

-- the number stands in the list
abbrev pub IsListed : List ℕ → ℕ → Type 0
IsListed xs n = list_any (eqb n) xs ≡ true
