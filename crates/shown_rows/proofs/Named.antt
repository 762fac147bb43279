-- Elements of a list that are told by their keys.
use Rattle.std.proofs.Common.{◌≡◌, refl, ap, sym, ◌∙◌, Bool, true, false, cond, ◌||◌, ℕ, ◌<◌, ◌==◌, List, [], ◌∷◌, map, filter, true≢false}
use Rattle.std.{specs.List.AllByRecursion, proofs.lemmas.Bool.eqb-true}
use Rattle.key_lists.{specs.Keys.{is_among, IsRising}, proofs.Among.{among_own, among_past, among_below}, proofs.Every.{every_both, every-map, every_unmapped, every-filter, filter_same}}

-- under rising keys, an element's key is among those of the elements that pass a test where it passes itself
pub named_by : {X : Type 0} (f : X → ℕ) (test : X → Bool) (xs : List X) → IsRising (map f xs) → AllByRecursion (λ x. is_among (f x) (map f (filter test xs)) ≡ test x) xs
named_by {X = X} f test [] r = tt
named_by {X = X} f test (x ∷ xs) r =
    let above = every_unmapped (λ key. f x < key) f xs r.0 in (
      own (test x) refl,
      every_both (λ y. f x < f y) (λ y. is_among (f y) (map f (filter test xs)) ≡ test y) (λ y. is_among (f y) (map f (filter test (x ∷ xs))) ≡ test y) xs
          (λ y above e. past y above (test x) ∙ e) above (named_by f test xs r.1),
    )
  where
    own : (b : Bool) → test x ≡ b → is_among (f x) (map f (cond b (x ∷ filter test xs) (filter test xs))) ≡ b
    own true e = among_own (f x) (map f (filter test xs))
    own false e = among_below (f x) (map f (filter test xs)) (every-map (λ key. f x < key) f (filter test xs) (every-filter (λ y. f x < f y) test xs (every_unmapped (λ key. f x < key) f xs r.0)))

    past : (y : X) → f x < f y → (b : Bool) → is_among (f y) (map f (cond b (x ∷ filter test xs) (filter test xs))) ≡ is_among (f y) (map f (filter test xs))
    past y above true = among_past (f y) (f x) (map f (filter test xs)) above
    past y above false = refl

-- so the elements whose keys are among those that pass are those that pass
pub filter_named : {X : Type 0} (f : X → ℕ) (test : X → Bool) (xs : List X) → IsRising (map f xs) → filter (λ x. is_among (f x) (map f (filter test xs))) xs ≡ filter test xs
filter_named f test xs r = filter_same (λ x. is_among (f x) (map f (filter test xs))) test xs (named_by f test xs r)

-- a key among those of the elements is that of one of them
pub of_named : {X : Type 0} (f : X → ℕ) (P : X → Type 0) (key : ℕ) (xs : List X) → AllByRecursion P xs → is_among key (map f xs) ≡ true → (x : X) × (P x × (f x ≡ key))
of_named {X = X} f P key [] h e = absurd (true≢false (sym e))
of_named {X = X} f P key (x ∷ xs) h e =
    (elim (f x == key) as (λ b. (f x == key) ≡ b → (x : X) × (P x × (f x ≡ key))) [
      | true ↦ λ same. (x, (h.0, eqb-true (f x) key same))
      | false ↦ λ other. of_named f P key xs h.1 (sym (ap (λ b. b || is_among key (map f xs)) other) ∙ e)
    ]) refl
