-- Lists of which a look at the last element or the first shows what passes.
use Rattle.std.proofs.Common.{◌≡◌, refl, ap, sym, ◌∙◌, subst, Bool, true, false, ℕ, zero, suc, ◌-◌, arith, List, [], ◌∷◌, ◌++◌, length, take, drop, Some}
use Rattle.std.{specs.Prelude.slice_get, specs.List.AllByRecursion}
use Rattle.chunk_list.proofs.Joined.{from_got}
use Rattle.row_groups.{specs.Slots.IsParted, proofs.Parts.{failed_from, passed_to}}

-- where the last passes, all do
pub passed_all : {X : Type 0} (p : X → Bool) (xs : List X) (n : ℕ) (x : X) → n ≡ length xs → slice_get xs (length xs - 1) ≡ Some x → IsParted p xs → p x ≡ true → AllByRecursion (λ y. p y ≡ true) (take n xs)
passed_all p xs n x all at h own =
    let got = from_got xs (length xs - 1) x at in
    let next : suc (length xs - 1) ≡ n = omega (arith, got.0, all) in
    subst (λ k. AllByRecursion (λ y. p y ≡ true) (take k xs)) next (passed_to p xs (length xs - 1) x got.0 h (ap p (sym got.1) ∙ own))

-- where the first does not, none does
pub failed_all : {X : Type 0} (p : X → Bool) (xs : List X) (x : X) → slice_get xs 0 ≡ Some x → IsParted p xs → p x ≡ false → AllByRecursion (λ y. p y ≡ false) (drop 0 xs)
failed_all p xs x at h own =
    let got = from_got xs 0 x at in
    failed_from p xs 0 x got.0 h (ap p (sym got.1) ∙ own)

-- an element put in behind the last
pub put_last : {X : Type 0} (xs : List X) (n : ℕ) (x : X) → n ≡ length xs → xs ++ x ∷ [] ≡ take n xs ++ x ∷ drop n xs
put_last [] zero x e = refl
put_last [] (suc n) x e = absurd (omega arith)
put_last (y ∷ xs) zero x e = absurd (omega arith)
put_last (y ∷ xs) (suc n) x e = ap (λ ys. y ∷ ys) (put_last xs n x (omega arith))
