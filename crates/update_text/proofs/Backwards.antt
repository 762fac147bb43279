-- What follows from equal lists, for the lists that they were made of.
use Rattle.std.proofs.Common.{◌≡◌, refl, ap, sym, ◌∙◌, Bool, true, false, cond, ℕ, zero, suc, ◌<◌, arith, List, [], ◌∷◌, ◌++◌, length, map, get_or}
use Rattle.std.{specs.Prelude.filter, specs.List.AllByRecursion}

pub first_same : {X : Type 0} (x y : X) (xs ys : List X) → x ∷ xs ≡ y ∷ ys → x ≡ y
first_same x y xs ys e = cc

pub rest_same : {X : Type 0} (x y : X) (xs ys : List X) → x ∷ xs ≡ y ∷ ys → xs ≡ ys
rest_same x y xs ys e = cc

pub cons_same : {X : Type 0} (x y : X) (xs ys : List X) → x ≡ y → xs ≡ ys → x ∷ xs ≡ y ∷ ys
cons_same x y xs ys e f = cc

pub some_is_none : {X : Type 0} (x : X) (xs : List X) → x ∷ xs ≡ [] → ⊥
some_is_none x xs e = cc

-- a list with an end is not empty
pub ended_is_none : {X : Type 0} (xs : List X) (x : X) (ys : List X) → xs ++ x ∷ ys ≡ [] → ⊥
ended_is_none [] x ys e = some_is_none x ys e
ended_is_none (y ∷ xs) x ys e = some_is_none y (xs ++ x ∷ ys) e

-- a map of elements that it keeps apart
pub unmapped : {X Y : Type 0} (f : X → Y) (P : X → Type 0) → ((x y : X) → P x → P y → f x ≡ f y → x ≡ y) →
    (xs ys : List X) → AllByRecursion P xs → AllByRecursion P ys → map f xs ≡ map f ys → xs ≡ ys
unmapped f P one [] [] h k e = refl
unmapped f P one [] (y ∷ ys) h k e = absurd (some_is_none (f y) (map f ys) (sym e))
unmapped f P one (x ∷ xs) [] h k e = absurd (some_is_none (f x) (map f xs) e)
unmapped f P one (x ∷ xs) (y ∷ ys) h k e =
    cons_same x y xs ys (one x y h.0 k.0 (first_same (f x) (f y) (map f xs) (map f ys) e)) (unmapped f P one xs ys h.1 k.1 (rest_same (f x) (f y) (map f xs) (map f ys) e))

-- a test that a map's values all pass, or none
pub filter_passed : {X Y : Type 0} (p : Y → Bool) (f : X → Y) (xs : List X) → ((x : X) → p (f x) ≡ true) → filter p (map f xs) ≡ map f xs
filter_passed p f [] h = refl
filter_passed p f (x ∷ xs) h = ap (λ b. cond b (f x ∷ filter p (map f xs)) (filter p (map f xs))) (h x) ∙ ap (λ ys. f x ∷ ys) (filter_passed p f xs h)

pub filter_missed : {X Y : Type 0} (p : Y → Bool) (f : X → Y) (xs : List X) → ((x : X) → p (f x) ≡ false) → filter p (map f xs) ≡ []
filter_missed p f [] h = refl
filter_missed p f (x ∷ xs) h = ap (λ b. cond b (f x ∷ filter p (map f xs)) (filter p (map f xs))) (h x) ∙ filter_missed p f xs h

-- no element stands twice
abbrev pub AreApart : {X : Type 0} → List X → Type 0
AreApart [] = Unit {0}
AreApart (x ∷ xs) = AllByRecursion (λ y. x ≡ y → ⊥) xs × AreApart xs

not_later : {X : Type 0} (x : X) (xs : List X) (k : ℕ) (d : X) → AllByRecursion (λ y. x ≡ y → ⊥) xs → k < length xs → x ≡ get_or xs k d → ⊥
not_later x [] k d h less e = absurd (omega arith)
not_later x (y ∷ xs) zero d h less e = h.0 e
not_later x (y ∷ xs) (suc k) d h less e = not_later x xs k d h.1 (omega arith) e

-- so an element has one place
pub place_same : {X : Type 0} (xs : List X) (j k : ℕ) (d : X) → AreApart xs → j < length xs → k < length xs → get_or xs j d ≡ get_or xs k d → j ≡ k
place_same [] j k d h less more e = absurd (omega arith)
place_same (x ∷ xs) zero zero d h less more e = refl
place_same (x ∷ xs) zero (suc k) d h less more e = absurd (not_later x xs k d h.0 (omega arith) e)
place_same (x ∷ xs) (suc j) zero d h less more e = absurd (not_later x xs j d h.0 (omega arith) (sym e))
place_same (x ∷ xs) (suc j) (suc k) d h less more e = ap suc (place_same xs j k d h.1 (omega arith) (omega arith) e)
