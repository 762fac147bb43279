-- Numbers that rise.
use Rattle.std.proofs.Common.{◌≡◌, refl, ap, sym, ◌∙◌, subst, Bool, true, false, cond, ◌&&◌, ◌||◌, ℕ, ◌<◌, ◌≤◌, ◌+◌, arith, List, [], ◌∷◌, ◌++◌, length, map, true≢false, inl, inr}
use Rattle.std.{specs.Prelude.filter, specs.List.AllByRecursion, proofs.lemmas.Bool.{ne_eqb, cases_eq}}
use Rattle.key_lists.{specs.Keys.{is_among, IsRising}, proofs.Among.{among_below, among_own, among_past, each_among, of_among}, proofs.Every.{every, every_weaker, every-map, every_unmapped, every-filter, every-append, filter_same, filter_none, filter_all}}

-- rising numbers rise where some are left out
pub rising-filter : {X : Type 0} (f : X → ℕ) (p : X → Bool) (xs : List X) → IsRising (map f xs) → IsRising (map f (filter p xs))
rising-filter f p [] h = tt
rising-filter f p (x ∷ xs) h =
    elim (p x) as (λ b. IsRising (map f (cond b (x ∷ filter p xs) (filter p xs)))) [
      | true ↦ (every-map (λ y. f x < y) f (filter p xs) (every-filter (λ y. f x < f y) p xs (every_unmapped (λ y. f x < y) f xs h.0)), rising-filter f p xs h.1)
      | false ↦ rising-filter f p xs h.1
    ]

-- two lists one after the other, and all numbers moved by one offset
pub rising-append : (bound : ℕ) (xs ys : List ℕ) → AllByRecursion (λ x. x < bound) xs → AllByRecursion (λ y. bound ≤ y) ys → IsRising xs → IsRising ys → IsRising (xs ++ ys)
rising-append bound [] ys below above r s = s
rising-append bound (x ∷ xs) ys below above r s =
    (every-append (λ y. x < y) xs ys r.0 (every_weaker (λ y. bound ≤ y) (λ y. x < y) ys (λ y h. omega (arith, h, below.0)) above), rising-append bound xs ys below.1 above r.1 s)

pub rising-plus : (offset : ℕ) (xs : List ℕ) → IsRising xs → IsRising (map (λ x. x + offset) xs)
rising-plus offset [] r = tt
rising-plus offset (x ∷ xs) r = (every-map (λ y. x + offset < y) (λ x. x + offset) xs (every_weaker (λ y. x < y) (λ y. x + offset < y + offset) xs (λ y h. omega (arith, h)) r.0), rising-plus offset xs r.1)

-- rising numbers that are all among rising others are those of the others that are among them
pub as_filter : (xs ys : List ℕ) → IsRising xs → IsRising ys → AllByRecursion (λ x. is_among x ys ≡ true) xs → filter (λ y. is_among y xs) ys ≡ xs
as_filter [] ys r s h = filter_none (λ y. is_among y []) ys (every (λ y. is_among y [] ≡ false) ys (λ y. refl))
as_filter (x ∷ xs) [] r s h = absurd (true≢false (sym h.0))
as_filter (x ∷ xs) (y ∷ ys) r s h =
    elim (cases_eq y x) [
      | inl same ↦
          ap (λ b. cond b (y ∷ filter test ys) (filter test ys)) (ap (λ k. is_among k (x ∷ xs)) same ∙ among_own x xs)
          ∙ ap (λ rest. y ∷ rest)
          (filter_same test (λ z. is_among z xs) ys (every_weaker (λ z. y < z) (λ z. test z ≡ is_among z xs) ys (λ z more. among_past z x xs (subst (λ k. k < z) same more)) s.0)
          ∙ as_filter xs ys r.1 s.1 (later (λ z above. subst (λ k. k < z) (sym same) above)))
          ∙ ap (λ k. k ∷ xs) same
      | inr other ↦
          let found : is_among x ys ≡ true = sym (ap (λ b. b || is_among x ys) (ne_eqb y x other)) ∙ h.0 in
          let above : y < x = of_among (λ key. y < key) x ys s.0 found in
          ap (λ b. cond b (y ∷ filter test ys) (filter test ys)) (among_below y (x ∷ xs) (above, every_weaker (λ z. x < z) (λ z. y < z) xs (λ z more. omega (arith, above, more)) r.0))
          ∙ as_filter (x ∷ xs) ys r s.1 (found, later (λ z more. omega (arith, above, more)))
    ]
  where
    test : ℕ → Bool
    test z = is_among z (x ∷ xs)

    later : ((z : ℕ) → x < z → y < z) → AllByRecursion (λ z. is_among z ys ≡ true) xs
    later past = every_both' xs r.0 h.1
      where
        every_both' : (zs : List ℕ) → AllByRecursion (λ z. x < z) zs → AllByRecursion (λ z. is_among z (y ∷ ys) ≡ true) zs → AllByRecursion (λ z. is_among z ys ≡ true) zs
        every_both' [] p q = tt
        every_both' (z ∷ zs) p q = (sym (among_past z y ys (past z p.0)) ∙ q.0, every_both' zs p.1 q.1)

-- rising lists of the same numbers are equal
pub rising_same : (xs ys : List ℕ) → IsRising xs → IsRising ys → ((key : ℕ) → is_among key xs ≡ is_among key ys) → xs ≡ ys
rising_same xs ys r s h =
    sym (as_filter xs ys r s (every_weaker (λ x. is_among x xs ≡ true) (λ x. is_among x ys ≡ true) xs (λ x own. sym (h x) ∙ own) (each_among xs)))
    ∙ filter_same (λ y. is_among y xs) (λ _. true) ys (every_weaker (λ y. is_among y ys ≡ true) (λ y. is_among y xs ≡ true) ys (λ y own. h y ∙ own) (each_among ys))
    ∙ filter_all ys

pub rising_some : (p : ℕ → Bool) (xs : List ℕ) → IsRising xs → IsRising (filter p xs)
rising_some p [] h = tt
rising_some p (x ∷ xs) h =
    elim (p x) as (λ b. IsRising (cond b (x ∷ filter p xs) (filter p xs))) [
      | true ↦ (every-filter (λ y. x < y) p xs h.0, rising_some p xs h.1)
      | false ↦ rising_some p xs h.1
    ]

-- so many rising numbers below a bound are not more than it
pub rising_count : (low bound : ℕ) (ks : List ℕ) → low ≤ bound → AllByRecursion (λ k. low ≤ k) ks → AllByRecursion (λ k. k < bound) ks → IsRising ks → low + length ks ≤ bound
rising_count low bound [] room above below r = omega (arith, room)
rising_count low bound (k ∷ ks) room above below r =
    let rest = rising_count (k + 1) bound ks (omega (arith, below.0)) (every_weaker (λ j. k < j) (λ j. k + 1 ≤ j) ks (λ j h. omega (arith, h)) r.0) below.1 r.1 in
    omega (arith, rest, above.0)
