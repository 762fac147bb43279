-- Numbers among others.
use Rattle.std.proofs.Common.{◌≡◌, refl, ap, sym, ◌∙◌, Bool, true, false, cond, ◌&&◌, ◌||◌, ℕ, ◌<◌, arith, List, [], ◌∷◌, ◌++◌, map, ◌==◌, true≢false, subst, inl, inr}
use Rattle.std.{specs.Prelude.filter, specs.List.AllByRecursion, proofs.lemmas.Bool.{ne_eqb, eq-eqb, eqb-true, or_right, or_cases, or_parts}}
use Rattle.key_lists.{specs.Keys.is_among, proofs.Every.every_weaker, proofs.Booleans.or_assoc}

-- a number below all others is not among them
pub among_below : (key : ℕ) (others : List ℕ) → AllByRecursion (λ other. key < other) others → is_among key others ≡ false
among_below key [] h = refl
among_below key (other ∷ others) h = ap (λ b. b || is_among key others) (ne_eqb other key (λ e. omega arith)) ∙ among_below key others h.1

pub among_own : (key : ℕ) (others : List ℕ) → is_among key (key ∷ others) ≡ true
among_own key others = ap (λ b. b || is_among key others) (eq-eqb key key refl)

-- past a number that it is not
pub among_past : (key first : ℕ) (others : List ℕ) → first < key → is_among key (first ∷ others) ≡ is_among key others
among_past key first others h = ap (λ b. b || is_among key others) (ne_eqb first key (λ e. omega arith))

-- each number of a list is among them
pub each_among : (xs : List ℕ) → AllByRecursion (λ x. is_among x xs ≡ true) xs
each_among [] = tt
each_among (x ∷ xs) = (among_own x xs, every_weaker (λ y. is_among y xs ≡ true) (λ y. is_among y (x ∷ xs) ≡ true) xs (λ y h. or_right (x == y) (is_among y xs) h) (each_among xs))

-- of two tests of which the first implies the second, or its contrary
or_and : (b c d : Bool) → (b ≡ true → c ≡ true) → (b || (c && d)) ≡ (c && (b || d))
or_and true true d h = refl
or_and true false d h = absurd (true≢false (sym (h refl)))
or_and false c d h = refl

and_or : (b c d : Bool) → (b ≡ true → c ≡ false) → (c && d) ≡ (c && (b || d))
and_or true true d h = absurd (true≢false (h refl))
and_or true false d h = refl
and_or false c d h = refl

-- a number is among those that pass a test where it passes and is among them all
pub among-filter : (p : ℕ → Bool) (key : ℕ) (xs : List ℕ) → is_among key (filter p xs) ≡ (p key && is_among key xs)
among-filter p key [] = elim (p key) as (λ b. false ≡ (b && false)) [ true ↦ refl | false ↦ refl ]
among-filter p key (x ∷ xs) =
    (elim (p x) as (λ b. p x ≡ b → is_among key (cond b (x ∷ filter p xs) (filter p xs)) ≡ (p key && ((x == key) || is_among key xs))) [
      | true ↦ λ e. ap (λ b. (x == key) || b) (among-filter p key xs) ∙ or_and (x == key) (p key) (is_among key xs) (λ h. ap p (sym (eqb-true x key h)) ∙ e)
      | false ↦ λ e. among-filter p key xs ∙ and_or (x == key) (p key) (is_among key xs) (λ h. ap p (sym (eqb-true x key h)) ∙ e)
    ]) refl

-- what holds of all numbers holds of one among them
pub of_among : (P : ℕ → Type 0) (key : ℕ) (xs : List ℕ) → AllByRecursion P xs → is_among key xs ≡ true → P key
of_among P key [] h e = absurd (true≢false (sym e))
of_among P key (x ∷ xs) h e =
    elim (or_cases (x == key) (is_among key xs) e) [
      | inl same ↦ subst P (eqb-true x key same) h.0
      | inr rest ↦ of_among P key xs h.1 rest
    ]

-- among two lists one after the other
pub among-append : (key : ℕ) (xs ys : List ℕ) → is_among key (xs ++ ys) ≡ (is_among key xs || is_among key ys)
among-append key [] ys = refl
among-append key (x ∷ xs) ys = ap (λ b. (x == key) || b) (among-append key xs ys) ∙ or_assoc (x == key) (is_among key xs) (is_among key ys)

-- a number above all others is not among them, and what a test leaves out is not among what is left
pub among_above : (key : ℕ) (others : List ℕ) → AllByRecursion (λ other. other < key) others → is_among key others ≡ false
among_above key [] h = refl
among_above key (other ∷ others) h = ap (λ b. b || is_among key others) (ne_eqb other key (λ e. omega (arith, e, h.0))) ∙ among_above key others h.1

pub absent-filter : {X : Type 0} (f : X → ℕ) (test : X → Bool) (key : ℕ) (xs : List X) → is_among key (map f xs) ≡ false → is_among key (map f (filter test xs)) ≡ false
absent-filter f test key [] h = h
absent-filter f test key (x ∷ xs) h =
    let parts = or_parts (f x == key) (is_among key (map f xs)) h in
    elim (test x) as (λ b. is_among key (map f (cond b (x ∷ filter test xs) (filter test xs))) ≡ false) [
      | true ↦ ap (λ b. b || is_among key (map f (filter test xs))) parts.0 ∙ absent-filter f test key xs parts.1
      | false ↦ absent-filter f test key xs parts.1
    ]

-- two lists that are apart are so both ways
pub apart_back : (xs ys : List ℕ) → AllByRecursion (λ y. is_among y xs ≡ false) ys → AllByRecursion (λ x. is_among x ys ≡ false) xs
apart_back xs ys h = every_weaker (λ x. is_among x xs ≡ true) (λ x. is_among x ys ≡ false) xs (λ x own. go x own (is_among x ys) refl) (each_among xs)
  where
    go : (x : ℕ) → is_among x xs ≡ true → (b : Bool) → is_among x ys ≡ b → b ≡ false
    go x own true e = absurd (true≢false (sym own ∙ of_among (λ y. is_among y xs ≡ false) x ys h e))
    go x own false e = refl
