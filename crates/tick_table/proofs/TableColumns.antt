-- Lengths of lists that are made of others.
use Rattle.std.proofs.Common.{◌≡◌, refl, ap, suc, List, [], ◌∷◌, map, length}

pub length-mapped : {X Y : Type 0} (f : X → Y) (xs : List X) → length (map f xs) ≡ length xs
length-mapped f [] = refl
length-mapped f (x ∷ xs) = ap suc (length-mapped f xs)
