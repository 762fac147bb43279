-- A list in stable order is the only one: what a stable sort leaves is `ordered`.
use Rattle.std.proofs.Common.{◌≡◌, refl, ap, sym, ◌∙◌, subst, Bool, true, false, cond, not, ◌&&◌, ℕ, suc, ◌<◌, arith, List, [], ◌∷◌, true≢false, length, get_or, filter}
use Rattle.std.{specs.List.AllByRecursion, specs.List.Sorted.{IsSortedBy, ties, IsStableBy}, specs.Cmp.IsStrictWeakOrder, proofs.lemmas.Bool.{and_parts, not-true}, proofs.lemmas.List.Elements.recursion_from_All, proofs.lemmas.List.Sorted.sorted_far}
use Rattle.tick_model.specs.Sort.{place, ordered}
use Rattle.key_lists.proofs.Every.{every_weaker, every-filter}

module _ {X : Type 0} (lt : X → X → Bool) (o : IsStrictWeakOrder lt) where
  -- no later element is less
  abbrev pub IsInOrder : List X → Type 0
  IsInOrder [] = Unit {0}
  IsInOrder (x ∷ xs) = AllByRecursion (λ y. lt y x ≡ false) xs × IsInOrder xs

  irreflexive : (x : X) → lt x x ≡ false
  irreflexive x = (elim (lt x x) as (λ b. lt x x ≡ b → lt x x ≡ false) [ true ↦ λ e. o.one_way x x e | false ↦ λ e. e ]) refl

  ties_own : (x : X) → ties lt x x ≡ true
  ties_own x = ap (λ b. not b && not b) (irreflexive x)

  -- an element that stands first among those that pass a test of a list has what all of the list have
  first_has : (P : X → Type 0) (p : X → Bool) (x : X) (rest xs : List X) → AllByRecursion P xs → x ∷ rest ≡ filter p xs → P x
  first_has P p x rest xs h e = (subst (AllByRecursion P) (sym e) (every-filter P p xs h)).0

  cons_head : {x y : X} {xs ys : List X} → x ∷ xs ≡ y ∷ ys → x ≡ y
  cons_head {x} e = ap (λ zs. elim zs [ [] ↦ x | z ∷ rest ↦ z ]) e

  cons_tail : {x y : X} {xs ys : List X} → x ∷ xs ≡ y ∷ ys → xs ≡ ys
  cons_tail {x} {xs = xs} e = ap (λ (zs : List X). elim zs [ [] ↦ [] | z ∷ rest ↦ rest ]) e

  cons_empty : {A : Type 0} (x : X) (xs : List X) → x ∷ xs ≡ [] → A
  cons_empty x xs e = absurd (cc)

  -- the first elements of two lists in order are one, where their ties are
  same_first : (x y : X) (xs ys : List X) → IsInOrder (x ∷ xs) → IsInOrder (y ∷ ys) → ((z : X) → filter (ties lt z) (x ∷ xs) ≡ filter (ties lt z) (y ∷ ys)) → x ≡ y
  same_first x y xs ys u v h =
      (elim (ties lt x y) as (λ b. ties lt x y ≡ b → x ≡ y) [
        | true ↦ λ tied. cons_head (from_x ∙ ap (λ b. cond b (y ∷ filter (ties lt x) ys) (filter (ties lt x) ys)) tied)
        | false ↦ λ apart. absurd (below apart)
      ]) refl
    where
      from_x : x ∷ filter (ties lt x) xs ≡ filter (ties lt x) (y ∷ ys)
      from_x = ap (λ b. cond b (x ∷ filter (ties lt x) xs) (filter (ties lt x) xs)) (sym (ties_own x)) ∙ h x

      from_y : y ∷ filter (ties lt y) ys ≡ filter (ties lt y) (x ∷ xs)
      from_y = ap (λ b. cond b (y ∷ filter (ties lt y) ys) (filter (ties lt y) ys)) (sym (ties_own y)) ∙ sym (h y)

      below : ties lt x y ≡ false → ⊥
      below apart =
          (elim (lt x y) as (λ b. lt x y ≡ b → ⊥) [
            | true ↦ λ less. true≢false (sym less ∙ first_has (λ z. lt z y ≡ false) (ties lt x) x (filter (ties lt x) xs) ys v.0 (from_x ∙ ap (λ b. cond b (y ∷ filter (ties lt x) ys) (filter (ties lt x) ys)) apart))
            | false ↦ λ more.
                (elim (lt y x) as (λ b. lt y x ≡ b → ⊥) [
                  | true ↦ λ less. true≢false (sym less ∙ first_has (λ z. lt z x ≡ false) (ties lt y) y (filter (ties lt y) ys) xs u.0 (from_y ∙ ap (λ b. cond b (x ∷ filter (ties lt y) xs) (filter (ties lt y) xs)) (ap (λ b. not b && not (lt x y)) less)))
                  | false ↦ λ less. true≢false (sym (ap (λ b. not b && not (lt y x)) more ∙ ap not less) ∙ apart)
                ]) refl
          ]) refl

  drop_first : (b : Bool) (x : X) (xs ys : List X) → cond b (x ∷ xs) xs ≡ cond b (x ∷ ys) ys → xs ≡ ys
  drop_first true x xs ys e = cons_tail e
  drop_first false x xs ys e = e

  -- two lists in order whose ties stand alike are one
  pub one_order : (xs ys : List X) → IsInOrder xs → IsInOrder ys → ((z : X) → filter (ties lt z) xs ≡ filter (ties lt z) ys) → xs ≡ ys
  one_order [] [] u v h = refl
  one_order [] (y ∷ ys) u v h = cons_empty y (filter (ties lt y) ys) (ap (λ b. cond b (y ∷ filter (ties lt y) ys) (filter (ties lt y) ys)) (sym (ties_own y)) ∙ sym (h y))
  one_order (x ∷ xs) [] u v h = cons_empty x (filter (ties lt x) xs) (ap (λ b. cond b (x ∷ filter (ties lt x) xs) (filter (ties lt x) xs)) (sym (ties_own x)) ∙ h x)
  one_order (x ∷ xs) (y ∷ ys) u v h =
      let same : x ≡ y = same_first x y xs ys u v h in
      ap (λ first. first ∷ xs) same ∙ ap (λ rest. y ∷ rest) (one_order xs ys u.1 v.1 (λ z. drop_first (ties lt z y) y (filter (ties lt z) xs) (filter (ties lt z) ys) (ap (λ first. filter (ties lt z) (first ∷ xs)) (sym same) ∙ h z)))

  every-place : (P : X → Type 0) (x : X) (xs : List X) → P x → AllByRecursion P xs → AllByRecursion P (place lt x xs)
  every-place P x [] p h = (p, tt)
  every-place P x (y ∷ ys) p h =
      elim (lt y x) as (λ b. AllByRecursion P (cond b (y ∷ place lt x ys) (x ∷ y ∷ ys))) [ true ↦ (h.0, every-place P x ys p h.1) | false ↦ (p, h) ]

  place_ordered : (x : X) (xs : List X) → IsInOrder xs → IsInOrder (place lt x xs)
  place_ordered x [] h = (tt, tt)
  place_ordered x (y ∷ ys) h =
      (elim (lt y x) as (λ b. lt y x ≡ b → IsInOrder (cond b (y ∷ place lt x ys) (x ∷ y ∷ ys))) [
        | true ↦ λ less. (every-place (λ z. lt z y ≡ false) x ys (o.one_way y x less) h.0, place_ordered x ys h.1)
        | false ↦ λ less. ((less, every_weaker (λ z. lt z y ≡ false) (λ z. lt z x ≡ false) ys (λ z more. o.chain z y x more less) h.0), h)
      ]) refl

  pub ordered_in_order : (xs : List X) → IsInOrder (ordered lt xs)
  ordered_in_order [] = tt
  ordered_in_order (x ∷ xs) = place_ordered x (ordered lt xs) (ordered_in_order xs)

  -- two elements that tie with one do not stand one below the other
  no_tie : (x y z : X) → lt y x ≡ true → ties lt z x ≡ true → ties lt z y ≡ true → ⊥
  no_tie x y z less tx ty =
      true≢false (sym less ∙ o.chain y z x (not-true (lt y z) (and_parts _ _ ty).1) (not-true (lt z x) (and_parts _ _ tx).0))

  exchange : (a b : Bool) (x y : X) (zs : List X) → (a ≡ true → b ≡ true → ⊥) → cond b (y ∷ cond a (x ∷ zs) zs) (cond a (x ∷ zs) zs) ≡ cond a (x ∷ cond b (y ∷ zs) zs) (cond b (y ∷ zs) zs)
  exchange true true x y zs h = absurd (h refl refl)
  exchange true false x y zs h = refl
  exchange false b x y zs h = refl

  -- a place past lesser elements leaves the ties as they are
  place_stable : (z x : X) (xs : List X) → filter (ties lt z) (place lt x xs) ≡ filter (ties lt z) (x ∷ xs)
  place_stable z x [] = refl
  place_stable z x (y ∷ ys) =
      (elim (lt y x) as (λ b. lt y x ≡ b → filter (ties lt z) (cond b (y ∷ place lt x ys) (x ∷ y ∷ ys)) ≡ filter (ties lt z) (x ∷ y ∷ ys)) [
        | true ↦ λ less. ap (λ rest. cond (ties lt z y) (y ∷ rest) rest) (place_stable z x ys) ∙ exchange (ties lt z x) (ties lt z y) x y (filter (ties lt z) ys) (no_tie x y z less)
        | false ↦ λ less. refl
      ]) refl

  pub ordered_stable : (z : X) (xs : List X) → filter (ties lt z) (ordered lt xs) ≡ filter (ties lt z) xs
  ordered_stable z [] = refl
  ordered_stable z (x ∷ xs) = place_stable z x (ordered lt xs) ∙ ap (λ rest. cond (ties lt z x) (x ∷ rest) rest) (ordered_stable z xs)

  -- by places or by recursion, order is one
  in_order_from : (xs : List X) → ((i j : ℕ) (d : X) → i < j → j < length xs → lt (get_or xs j d) (get_or xs i d) ≡ false) → IsInOrder xs
  in_order_from [] h = tt
  in_order_from (x ∷ xs) h = (
    recursion_from_All (λ y. lt y x ≡ false) xs (λ k d within. h 0 (suc k) d (omega arith) (omega (arith, within))),
    in_order_from xs (λ i j d less within. h (suc i) (suc j) d (omega (arith, less)) (omega (arith, within))),
  )

  -- what a stable sort leaves is the list in order
  pub sorted_is_ordered : (xs ys : List X) → IsSortedBy lt ys → IsStableBy lt xs ys → ys ≡ ordered lt xs
  sorted_is_ordered xs ys up stable =
      one_order ys (ordered lt xs) (in_order_from ys (λ i j d less within. sorted_far lt o ys up i j d (omega (arith, less)) within)) (ordered_in_order xs)
      (λ z. stable z ∙ sym (ordered_stable z xs))
