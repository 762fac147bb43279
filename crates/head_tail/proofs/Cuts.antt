-- Rising lists that are cut at a position.
use Rattle.std.proofs.Common.{◌≡◌, refl, ap, sym, ◌∙◌, subst, Bool, true, false, not, ◌&&◌, ◌||◌, ℕ, zero, suc, ◌-◌, ◌<◌, ◌==◌, arith, List, [], ◌∷◌, map, filter, take, drop, length}
use Rattle.std.{specs.List.AllByRecursion, proofs.lemmas.Bool.eqb-true, proofs.lemmas.List.{drop-map, take-append-drop, take-map}, proofs.lemmas.List.Elements.filter-append, proofs.Math.Seq.{take-append_seam, drop-append_seam}}
use Rattle.key_lists.{specs.Keys.{is_among, IsRising}, proofs.Among.{among-append, among_below}, proofs.Booleans.{and_true, or_true}, proofs.Parts.{every-take, every-drop, take_nil}}
use Rattle.head_tail.{specs.declared.end.End.End, specs.declared.end.End.TheVariants.{First, Last}, specs.Ends.at_end}

pub not_true : (b : Bool) → not b ≡ true → b ≡ false
not_true true e = sym e
not_true false e = refl

-- a key is before a position or from it on
pub among_parts : (key n : ℕ) (xs : List ℕ) → is_among key xs ≡ (is_among key (take n xs) || is_among key (drop n xs))
among_parts key n xs = ap (is_among key) (sym (take-append-drop n xs)) ∙ among-append key (take n xs) (drop n xs)

pub among_front : (key n : ℕ) (xs : List ℕ) → is_among key (take n xs) ≡ true → is_among key xs ≡ true
among_front key n xs own = among_parts key n xs ∙ ap (λ b. b || is_among key (drop n xs)) own

pub among_end : (end : End) (key n : ℕ) (xs : List ℕ) → is_among key (at_end end n xs) ≡ true → is_among key xs ≡ true
among_end First key n xs own = among_front key n xs own
among_end Last key n xs own = among_parts key n xs ∙ ap (λ b. is_among key (take n xs) || b) own ∙ or_true (is_among key (take n xs))

-- of keys that rise, those from a position on are the ones that are not before it
pub among_rest : (key n : ℕ) (xs : List ℕ) → IsRising xs → is_among key (drop n xs) ≡ (is_among key xs && not (is_among key (take n xs)))
among_rest key zero [] r = refl
among_rest key zero (x ∷ xs) r = sym (and_true (is_among key (x ∷ xs)))
among_rest key (suc n) [] r = refl
among_rest key (suc n) (x ∷ xs) r =
    (elim (x == key) as (λ b. (x == key) ≡ b → is_among key (drop n xs) ≡ ((b || is_among key xs) && not (b || is_among key (take n xs)))) [
      | true ↦ λ same. among_below key (drop n xs) (every-drop (λ y. key < y) n xs (subst (λ k. AllByRecursion (λ y. k < y) xs) (eqb-true x key same) r.0))
      | false ↦ λ other. among_rest key n xs r.1
    ]) refl

pub keys_rest : {X : Type 0} (f : X → ℕ) (key n : ℕ) (xs : List X) → IsRising (map f xs) → is_among key (map f (drop n xs)) ≡ (is_among key (map f xs) && not (is_among key (map f (take n xs))))
keys_rest f key n xs r = ap (is_among key) (sym (drop-map f n xs)) ∙ among_rest key n (map f xs) r ∙ ap (λ ks. is_among key (map f xs) && not (is_among key ks)) (take-map f n xs)

-- and those between two positions are the ones that are before the second and not before the first
pub among_between : (key m n : ℕ) (xs : List ℕ) → IsRising xs → is_among key (drop n (take m xs)) ≡ (is_among key (take m xs) && not (is_among key (take n xs)))
among_between key zero zero [] r = refl
among_between key zero (suc n) [] r = refl
among_between key zero zero (x ∷ xs) r = refl
among_between key zero (suc n) (x ∷ xs) r = refl
among_between key (suc m) zero [] r = refl
among_between key (suc m) (suc n) [] r = refl
among_between key (suc m) zero (x ∷ xs) r = sym (and_true (is_among key (x ∷ take m xs)))
among_between key (suc m) (suc n) (x ∷ xs) r =
    (elim (x == key) as (λ b. (x == key) ≡ b → is_among key (drop n (take m xs)) ≡ ((b || is_among key (take m xs)) && not (b || is_among key (take n xs)))) [
      | true ↦ λ same. among_below key (drop n (take m xs)) (every-drop (λ y. key < y) n (take m xs) (every-take (λ y. key < y) m xs (subst (λ k. AllByRecursion (λ y. k < y) xs) (eqb-true x key same) r.0)))
      | false ↦ λ other. among_between key m n xs r.1
    ]) refl

take_none : {X : Type 0} (xs : List X) → take 0 xs ≡ []
take_none [] = refl
take_none (x ∷ xs) = refl

pub take-drop : {X : Type 0} (m n : ℕ) (xs : List X) → take (m - n) (drop n xs) ≡ drop n (take m xs)
take-drop zero zero [] = refl
take-drop zero zero (x ∷ xs) = refl
take-drop zero (suc n) [] = take_nil (0 - suc n)
take-drop zero (suc n) (x ∷ xs) = ap (λ k. take k (drop n xs)) (let none : 0 - suc n ≡ 0 = omega arith in none) ∙ take_none (drop n xs)
take-drop (suc m) zero [] = take_nil (suc m - 0)
take-drop (suc m) zero (x ∷ xs) = ap (λ k. take k (x ∷ xs)) (let all : suc m - 0 ≡ suc m = omega arith in all)
take-drop (suc m) (suc n) [] = take_nil (suc m - suc n)
take-drop (suc m) (suc n) (x ∷ xs) = ap (λ k. take k (drop n xs)) (let less : suc m - suc n ≡ m - n = omega arith in less) ∙ take-drop m n xs

pub drop_none : {X : Type 0} (xs : List X) → drop 0 xs ≡ xs
drop_none [] = refl
drop_none (x ∷ xs) = refl

-- the elements before a position that pass a test are the first of those that pass
pub take-filter : {X : Type 0} (p : X → Bool) (n : ℕ) (xs : List X) → take (length (filter p (take n xs))) (filter p xs) ≡ filter p (take n xs)
take-filter p n xs =
    ap (λ ys. take (length (filter p (take n xs))) (filter p ys)) (sym (take-append-drop n xs))
    ∙ ap (take (length (filter p (take n xs)))) (filter-append p (take n xs) (drop n xs))
    ∙ take-append_seam (filter p (take n xs)) (filter p (drop n xs))

pub drop-filter : {X : Type 0} (p : X → Bool) (n : ℕ) (xs : List X) → drop (length (filter p (take n xs))) (filter p xs) ≡ filter p (drop n xs)
drop-filter p n xs =
    ap (λ ys. drop (length (filter p (take n xs))) (filter p ys)) (sym (take-append-drop n xs))
    ∙ ap (drop (length (filter p (take n xs)))) (filter-append p (take n xs) (drop n xs))
    ∙ drop-append_seam (filter p (take n xs)) (filter p (drop n xs))

pub end-filter : {X : Type 0} (end : End) (p : X → Bool) (n : ℕ) (xs : List X) → at_end end (length (filter p (take n xs))) (filter p xs) ≡ filter p (at_end end n xs)
end-filter First = take-filter
end-filter Last = drop-filter

pub end-map : {X Y : Type 0} (end : End) (f : X → Y) (n : ℕ) (xs : List X) → at_end end n (map f xs) ≡ map f (at_end end n xs)
end-map First = take-map
end-map Last = drop-map
