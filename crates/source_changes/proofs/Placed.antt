-- The first place at which a test passes.
use Rattle.std.proofs.Common.{◌≡◌, refl, ap, ◌==◌, ℕ, Bool, true, false, cond, not, ◌+◌, ◌≤◌, arith, List, [], ◌∷◌, length, Some, None, ltb, unwrap_or}
use Rattle.std.{specs.List.{position, position_or_len}, proofs.lemmas.Bool.ltb-false}
use Rattle.tick_model.{specs.declared.table.PlainRow.PlainRow, specs.Tables.keys}

within : {X : Type 0} (p : X → Bool) (xs : List X) → position_or_len p xs ≤ length xs
within p [] = omega arith
within p (x ∷ xs) = let rest = within p xs in elim (p x) as (λ b. cond (not b) (1 + position_or_len p xs) 0 ≤ length (x ∷ xs)) [ true ↦ omega arith | false ↦ omega (arith, rest) ]

-- the place, or how many there are
pub place_or_all : {X : Type 0} (p : X → Bool) (xs : List X) → unwrap_or (position p xs) (length xs) ≡ position_or_len p xs
place_or_all p xs = go (ltb (position_or_len p xs) (length xs)) refl
  where
    go : (b : Bool) → ltb (position_or_len p xs) (length xs) ≡ b → unwrap_or (cond b (Some (position_or_len p xs)) None) (length xs) ≡ position_or_len p xs
    go true e = refl
    go false e = let most = ltb-false (position_or_len p xs) (length xs) e in let least = within p xs in omega (arith, most, least)

-- the place of a key is that of its row
pub place_of_key : (key : ℕ) (rows : List PlainRow) → position_or_len (λ own. own == key) (keys rows) ≡ position_or_len (λ row. row.key == key) rows
place_of_key key [] = refl
place_of_key key (row ∷ rows) = ap (λ n. cond (not (row.key == key)) (1 + n) 0) (place_of_key key rows)
