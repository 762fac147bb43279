-- The rows that stay stand in the same places on both sides of a step.
use Rattle.std.proofs.Common.{◌≡◌, refl, ap, ap₂, sym, ◌∙◌, subst, Bool, true, false, not, ◌&&◌, ℕ, zero, suc, ◌<◌, ◌≤◌, min, arith, List, [], ◌∷◌, map, filter, take, drop, length}
use Rattle.std.{specs.List.AllByRecursion, proofs.lemmas.Bool.and_parts, proofs.lemmas.List.{length-map, length-take}}
use Rattle.key_lists.{specs.Keys.{is_among, IsRising, without}, proofs.Among.{among-filter, among_own, among_past, each_among}, proofs.Every.{every, every_both, every_unmapped, every_weaker, filter-map, filter_same}}
use Rattle.tick_model.specs.declared.update.KeyPair.{KeyPair}
use Rattle.head_tail.{specs.declared.end.End.End, specs.declared.end.End.TheVariants.{First, Last}, specs.Ends.at_end, proofs.Cuts.{among_end, end-filter, end-map, keys_rest, not_true, take-filter}}

module _ {X : Type 0} (f g : X → ℕ) where
  -- of elements that are told by two numbers, both rising, the first ones are told by either
  alike_first : (n : ℕ) (xs : List X) → IsRising (map f xs) → IsRising (map g xs) → AllByRecursion (λ x. is_among (g x) (map g (take n xs)) ≡ is_among (f x) (map f (take n xs))) xs
  alike_first zero [] r s = tt
  alike_first (suc n) [] r s = tt
  alike_first zero (x ∷ xs) r s = every (λ x. false ≡ false) (x ∷ xs) (λ x. refl)
  alike_first (suc n) (x ∷ xs) r s = (
    among_own (g x) (map g (take n xs)) ∙ sym (among_own (f x) (map f (take n xs))),
    every_both (λ y. (f x < f y) × (g x < g y)) (λ y. is_among (g y) (map g (take n xs)) ≡ is_among (f y) (map f (take n xs))) (λ y. is_among (g y) (map g (take (suc n) (x ∷ xs))) ≡ is_among (f y) (map f (take (suc n) (x ∷ xs)))) xs
        (λ y above same. among_past (g y) (g x) (map g (take n xs)) above.1 ∙ same ∙ sym (among_past (f y) (f x) (map f (take n xs)) above.0))
        (every_both (λ y. f x < f y) (λ y. g x < g y) (λ y. (f x < f y) × (g x < g y)) xs (λ y a b. (a, b)) (every_unmapped (λ key. f x < key) f xs r.0) (every_unmapped (λ key. g x < key) g xs s.0))
        (alike_first n xs r.1 s.1),
  )

  -- and so are the other ones
  pub alike : (end : End) (n : ℕ) (xs : List X) → IsRising (map f xs) → IsRising (map g xs) → AllByRecursion (λ x. is_among (g x) (map g (at_end end n xs)) ≡ is_among (f x) (map f (at_end end n xs))) xs
  alike First n xs r s = alike_first n xs r s
  alike Last n xs r s =
      every_both (λ x. (is_among (f x) (map f xs) ≡ true) × (is_among (g x) (map g xs) ≡ true)) (λ x. is_among (g x) (map g (take n xs)) ≡ is_among (f x) (map f (take n xs))) (λ x. is_among (g x) (map g (drop n xs)) ≡ is_among (f x) (map f (drop n xs))) xs
      (λ x own same. keys_rest g (g x) n xs s ∙ ap₂ (λ a b. a && not b) (own.1 ∙ sym own.0) same ∙ sym (keys_rest f (f x) n xs r))
      (every_both (λ x. is_among (f x) (map f xs) ≡ true) (λ x. is_among (g x) (map g xs) ≡ true) (λ x. (is_among (f x) (map f xs) ≡ true) × (is_among (g x) (map g xs) ≡ true)) xs (λ x a b. (a, b))
      (every_unmapped (λ key. is_among key (map f xs) ≡ true) f xs (each_among (map f xs))) (every_unmapped (λ key. is_among key (map g xs) ≡ true) g xs (each_among (map g xs))))
      (alike_first n xs r s)

-- One side of a step and the other: the rows that stay, under their keys on both sides, and the others on each.
pub record AreSides (f g : KeyPair → ℕ) (kept : List KeyPair) (here others there others_there : List ℕ) : Type 0 where
  pub here_stay : map f kept ≡ without others here
  pub there_stay : map g kept ≡ without others_there there
  pub here_rise : IsRising (map f kept)
  pub there_rise : IsRising (map g kept)

-- the pairs of which both keys are in the parts that are shown
abbrev pub shown_pairs : (KeyPair → ℕ) → (KeyPair → ℕ) → List ℕ → List ℕ → List KeyPair → List KeyPair
shown_pairs f g shown shown_there = filter (λ pair. is_among (f pair) shown && is_among (g pair) shown_there)

module _ (f g : KeyPair → ℕ) (kept : List KeyPair) (here others there others_there : List ℕ) (s : AreSides f g kept here others there others_there) where
  -- where those that are shown there are the rows that stay and have one of these keys here, those not shown here are all but these
  but_these : (shown shown_there these : List ℕ) → AllByRecursion (λ pair. is_among (g pair) shown_there ≡ is_among (f pair) these) kept → ((key : ℕ) → is_among key these ≡ true → is_among key (map f kept) ≡ true)
      → without (map f (shown_pairs f g shown shown_there kept)) shown ≡ without these shown
  but_these shown shown_there these alike some =
      filter_same (λ key. not (is_among key (map f (shown_pairs f g shown shown_there kept)))) (λ key. not (is_among key these)) shown
      (every_weaker (λ key. is_among key shown ≡ true) (λ key. not (is_among key (map f (shown_pairs f g shown shown_there kept))) ≡ not (is_among key these)) shown
      (λ key own.
      ap not
      (ap (λ pairs. is_among key (map f pairs)) (filter_same (λ pair. is_among (f pair) shown && is_among (g pair) shown_there) (λ pair. is_among (f pair) shown && is_among (f pair) these) kept
      (every_weaker (λ pair. is_among (g pair) shown_there ≡ is_among (f pair) these) (λ pair. (is_among (f pair) shown && is_among (g pair) shown_there) ≡ (is_among (f pair) shown && is_among (f pair) these)) kept
      (λ pair same. ap (λ b. is_among (f pair) shown && b) same) alike))
      ∙ ap (is_among key) (sym (filter-map (λ key. is_among key shown && is_among key these) f kept))
      ∙ among-filter (λ key. is_among key shown && is_among key these) key (map f kept)
      ∙ ap (λ b. (b && is_among key these) && is_among key (map f kept)) own
      ∙ all_there (is_among key these) (is_among key (map f kept)) (some key)))
      (each_among shown))
    where
      all_there : (t m : Bool) → (t ≡ true → m ≡ true) → (t && m) ≡ t
      all_there true m h = h refl
      all_there false m h = refl

  -- a row that stays is none of the others
  none_other : AllByRecursion (λ pair. is_among (g pair) others_there ≡ false) kept
  none_other =
      every_unmapped (λ key. is_among key others_there ≡ false) g kept
      (every_weaker (λ key. is_among key (without others_there there) ≡ true) (λ key. is_among key others_there ≡ false) (map g kept)
      (λ key own. not_true (is_among key others_there) (and_parts (not (is_among key others_there)) (is_among key there) (sym (among-filter (λ key. not (is_among key others_there)) key there) ∙ own)).0)
      (subst (λ ks. AllByRecursion (λ key. is_among key ks ≡ true) (map g kept)) s.there_stay (each_among (map g kept))))

  -- so it is among some of the keys there where it is among those of them that stay
  among_staying : (some : List ℕ) → AllByRecursion (λ pair. is_among (g pair) some ≡ is_among (g pair) (without others_there some)) kept
  among_staying some =
      every_weaker (λ pair. is_among (g pair) others_there ≡ false) (λ pair. is_among (g pair) some ≡ is_among (g pair) (without others_there some)) kept
      (λ pair none. sym (among-filter (λ key. not (is_among key others_there)) (g pair) some ∙ ap (λ b. not b && is_among (g pair) some) none)) none_other

  -- how many of those that stay are before a position there
  abbrev pub staying_there : ℕ → ℕ
  staying_there position = length (without others_there (take position there))

  pub end_shown : (end : End) (n m : ℕ) → without (map f (shown_pairs f g (at_end end n here) (at_end end m there) kept)) (at_end end n here) ≡ without (at_end end (staying_there m) (without others here)) (at_end end n here)
  end_shown end n m =
      but_these (at_end end n here) (at_end end m there) (at_end end (staying_there m) (without others here))
      (every_both (λ pair. is_among (g pair) (at_end end m there) ≡ is_among (g pair) (without others_there (at_end end m there))) (λ pair. is_among (g pair) (map g (at_end end (staying_there m) kept)) ≡ is_among (f pair) (map f (at_end end (staying_there m) kept)))
      (λ pair. is_among (g pair) (at_end end m there) ≡ is_among (f pair) (at_end end (staying_there m) (without others here))) kept
      (λ pair stays same.
      stays
      ∙ ap (is_among (g pair)) (sym (end-filter end (λ key. not (is_among key others_there)) m there) ∙ ap (at_end end (staying_there m)) (sym s.there_stay) ∙ end-map end g (staying_there m) kept)
      ∙ same ∙ ap (is_among (f pair)) (sym (end-map end f (staying_there m) kept) ∙ ap (at_end end (staying_there m)) s.here_stay))
      (among_staying (at_end end m there)) (alike f g end (staying_there m) kept s.here_rise s.there_rise))
      (λ key own. ap (is_among key) s.here_stay ∙ among_end end key (staying_there m) (without others here) own)

  -- there are so many rows that stay
  pub enough : (m : ℕ) → staying_there m ≤ length (without others here)
  enough m =
      let front : take (staying_there m) (without others_there there) ≡ without others_there (take m there) = take-filter (λ key. not (is_among key others_there)) m there in
      let both : length (without others_there there) ≡ length (without others here) = ap length (sym s.there_stay) ∙ length-map kept g ∙ sym (length-map kept f) ∙ ap length s.here_stay in
      let short : length (take (staying_there m) (without others_there there)) ≡ min (staying_there m) (length (without others_there there)) = length-take (staying_there m) (without others_there there) in
      omega (arith, ap length front, both, short)
