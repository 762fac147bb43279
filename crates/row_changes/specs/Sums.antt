-- What is added up over a list.
use Rattle.std.specs.Prelude.{List, [], ◌∷◌, ℤ, pos, ◌+ℤ◌}

abbrev pub added_up : {X : Type 0} → (X → ℤ) → List X → ℤ
added_up f [] = pos 0
added_up f (x ∷ xs) = f x +ℤ added_up f xs
