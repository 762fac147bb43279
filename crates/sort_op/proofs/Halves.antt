-- Pairs of which some pass a test: the keys of these and of the others.
use Rattle.std.proofs.Common.{◌≡◌, refl, ap, ap₂, sym, ◌∙◌, Bool, true, false, not, ◌&&◌, ◌||◌, ℕ, List, map, filter, ◌++◌, true≢false, inl, inr}
use Rattle.std.{specs.List.AllByRecursion, proofs.lemmas.Bool.cases_Bool}
use Rattle.key_lists.{specs.Keys.{is_among, IsRising, without}, proofs.Among.{among-append, among-filter, each_among, of_among}, proofs.Every.{every_both, every-append, every-filter, every-map, every_unmapped}}
use Rattle.shown_rows.proofs.Named.{named_by, of_named}
use Rattle.tick_model.specs.declared.update.KeyPair.{KeyPair}

left_table : (a s h : Bool) → h ≡ true → (s ≡ true → a ≡ true) → ((not a && h) || (a && not s)) ≡ not s
left_table true s true e k = refl
left_table false true true e k = absurd (true≢false (sym (k refl)))
left_table false false true e k = refl
left_table a s false e k = absurd (true≢false (sym e))

module _ (f : KeyPair → ℕ) (test : KeyPair → Bool) (pairs : List KeyPair) where
  -- the keys of those that pass
  abbrev pub passing : List ℕ
  passing = map f (filter test pairs)

  abbrev pub rest : List ℕ
  rest = map f (filter (λ pair. not (test pair)) pairs)

  pub some_among : (key : ℕ) → is_among key passing ≡ true → is_among key (map f pairs) ≡ true
  some_among key h =
      of_among (λ k. is_among k (map f pairs) ≡ true) key passing
      (every-map (λ k. is_among k (map f pairs) ≡ true) f (filter test pairs)
      (every-filter (λ (pair : KeyPair). is_among (f pair) (map f pairs) ≡ true) test pairs (every_unmapped (λ k. is_among k (map f pairs) ≡ true) f pairs (each_among (map f pairs)))))
      h

module _ (f : KeyPair → ℕ) (test : KeyPair → Bool) (pairs : List KeyPair) (rising : IsRising (map f pairs)) where
  -- what the keys of a pair tell
  abbrev Tells : KeyPair → Type 0
  Tells pair = (is_among (f pair) (passing f test pairs) ≡ test pair) × (is_among (f pair) (rest f test pairs) ≡ not (test pair))

  told : AllByRecursion Tells pairs
  told =
      every_both (λ pair. is_among (f pair) (passing f test pairs) ≡ test pair) (λ pair. is_among (f pair) (rest f test pairs) ≡ not (test pair)) Tells pairs (λ pair a b. (a, b))
      (named_by f test pairs rising) (named_by f (λ pair. not (test pair)) pairs rising)

  -- the others
  others_among : (key : ℕ) → is_among key (rest f test pairs) ≡ (is_among key (map f pairs) && not (is_among key (passing f test pairs)))
  others_among key =
      elim (cases_Bool (is_among key (map f pairs))) [
        | inl here ↦ go here (of_named f Tells key pairs told here)
        | inr out ↦ elim (cases_Bool (is_among key (rest f test pairs))) [
          | inl own ↦ absurd (true≢false (sym (some_among f (λ pair. not (test pair)) pairs key own) ∙ out))
          | inr none ↦ none ∙ sym (ap (λ b. b && not (is_among key (passing f test pairs))) out)
        ]
      ]
    where
      go : is_among key (map f pairs) ≡ true → (pair : KeyPair) × (Tells pair × (f pair ≡ key)) → is_among key (rest f test pairs) ≡ (is_among key (map f pairs) && not (is_among key (passing f test pairs)))
      go here (pair, (tells, is)) =
          ap (λ k. is_among k (rest f test pairs)) (sym is) ∙ tells.1
          ∙ sym (ap₂ (λ a b. a && not b) here (ap (λ k. is_among k (passing f test pairs)) (sym is) ∙ tells.0))

  -- of all keys, those that are in no pair or in one that fails are those that are in none that passes
  pub left_over : (all : List ℕ) (key : ℕ) → is_among key all ≡ true → is_among key (without (map f pairs) all ++ rest f test pairs) ≡ not (is_among key (passing f test pairs))
  left_over all key here =
      among-append key (without (map f pairs) all) (rest f test pairs)
      ∙ ap₂ (λ a b. a || b) (among-filter (λ k. not (is_among k (map f pairs))) key all) (others_among key)
      ∙ left_table (is_among key (map f pairs)) (is_among key (passing f test pairs)) (is_among key all) here (some_among f test pairs key)

  module _ (all : List ℕ) (within : AllByRecursion (λ key. is_among key all ≡ true) (map f pairs)) where
    pub left_within : AllByRecursion (λ key. is_among key all ≡ true) (without (map f pairs) all ++ rest f test pairs)
    left_within =
        every-append (λ key. is_among key all ≡ true) (without (map f pairs) all) (rest f test pairs)
        (every-filter (λ key. is_among key all ≡ true) (λ key. not (is_among key (map f pairs))) all (each_among all))
        (every-map (λ key. is_among key all ≡ true) f (filter (λ pair. not (test pair)) pairs)
        (every-filter (λ (pair : KeyPair). is_among (f pair) all ≡ true) (λ pair. not (test pair)) pairs (every_unmapped (λ key. is_among key all ≡ true) f pairs within)))
