-- Lists of different numbers, one after another.
use Rattle.std.proofs.Common.{◌≡◌, ℕ, ◌<◌, ◌+◌, Bool, true, false, ◌||◌, eqb, List, [], ◌∷◌, ◌++◌, length, length-append, Option, Some, None, sym, refl, ap, ◌∙◌, subst, arith, inl, inr}
use Rattle.std.{specs.Prelude.{◌⊎◌, IfSome, option_to_list}, specs.List.{list_any, AllByRecursion, IsDistinct}, proofs.lemmas.Bool.{eq-eqb, eqb-true, ne_eqb, or_right, or_left, or_cases, or_parts}, proofs.lemmas.List.append-nil, proofs.lemmas.List.Folds.list_any-append, proofs.lemmas.Map.Steps.length-le_from_distinct_below}
use Rattle.steal_workers.specs.Lists.{IsListed}

pub true_false : true ≡ false → ⊥
true_false e = cc

pub eqb_turned : (a b : ℕ) → eqb a b ≡ false → eqb b a ≡ false
eqb_turned a b is = ne_eqb b a (λ e. true_false (sym (eq-eqb a b (sym e)) ∙ is))

pub listed_first : (xs ys : List ℕ) (n : ℕ) → IsListed xs n → IsListed (xs ++ ys) n
listed_first xs ys n is = list_any-append (eqb n) xs ys ∙ or_left (list_any (eqb n) xs) (list_any (eqb n) ys) is

pub listed_second : (xs ys : List ℕ) (n : ℕ) → IsListed ys n → IsListed (xs ++ ys) n
listed_second xs ys n is = list_any-append (eqb n) xs ys ∙ or_right (list_any (eqb n) xs) (list_any (eqb n) ys) is

pub listed_alone : (n m : ℕ) → IsListed (m ∷ []) n → n ≡ m
listed_alone n m is = go (or_cases (eqb n m) false is)
  where
    go : (eqb n m ≡ true) ⊎ (false ≡ true) → n ≡ m
    go (inl same) = eqb-true n m same
    go (inr no_way) = absurd (true_false (sym no_way))

pub listed_cases : (xs : List ℕ) (m n : ℕ) → IsListed (xs ++ m ∷ []) n → IsListed xs n ⊎ (n ≡ m)
listed_cases xs m n is = go (or_cases (list_any (eqb n) xs) (list_any (eqb n) (m ∷ [])) (sym (list_any-append (eqb n) xs (m ∷ [])) ∙ is))
  where
    go : (list_any (eqb n) xs ≡ true) ⊎ (list_any (eqb n) (m ∷ []) ≡ true) → IsListed xs n ⊎ (n ≡ m)
    go (inl there) = inl there
    go (inr last) = inr (listed_alone n m last)

pub listed_last : (xs : List ℕ) (m : ℕ) → IsListed (xs ++ m ∷ []) m
listed_last xs m = listed_second xs (m ∷ []) m (or_left (eqb m m) false (eq-eqb m m refl))

all_push : (P : ℕ → Type 0) (xs : List ℕ) (x : ℕ) → AllByRecursion P xs → P x → AllByRecursion P (xs ++ x ∷ [])
all_push P [] x all own = (own, tt)
all_push P (y ∷ ys) x all own = (all.0, all_push P ys x all.1 own)

all_front : (P : ℕ → Type 0) (xs : List ℕ) (x : ℕ) → AllByRecursion P (xs ++ x ∷ []) → AllByRecursion P xs × P x
all_front P [] x all = (tt, all.0)
all_front P (y ∷ ys) x all = let rest = all_front P ys x all.1 in ((all.0, rest.0), rest.1)

pub distinct_push : (xs : List ℕ) (x : ℕ) → IsDistinct eqb xs → list_any (eqb x) xs ≡ false → IsDistinct eqb (xs ++ x ∷ [])
unfolding IsDistinct
distinct_push [] x all absent = (tt, tt)
distinct_push (y ∷ ys) x all absent =
    let apart = or_parts (eqb x y) (list_any (eqb x) ys) absent in
    (all_push (λ z. eqb y z ≡ false) ys x all.0 (eqb_turned x y apart.0), distinct_push ys x all.1 apart.1)

pub distinct_front : (xs : List ℕ) (x : ℕ) → IsDistinct eqb (xs ++ x ∷ []) → IsDistinct eqb xs × (list_any (eqb x) xs ≡ false)
unfolding IsDistinct
distinct_front [] x all = (tt, refl)
distinct_front (y ∷ ys) x all =
    let rest = distinct_front ys x all.1 in
    let front = all_front (λ z. eqb y z ≡ false) ys x all.0 in
    ((front.0, rest.0), ap (λ b. b || list_any (eqb x) ys) (eqb_turned y x front.1) ∙ rest.1)

-- a node that stood beside a list stands at its end
module _ (xs : List ℕ) (n : ℕ) (F : ℕ → Type 0) where
  pub moved_in : (m : ℕ) → (m ≡ n) ⊎ (IsListed xs m ⊎ F m) → IsListed (xs ++ n ∷ []) m ⊎ F m
  moved_in m (inl e) = inl (subst (IsListed (xs ++ n ∷ [])) (sym e) (listed_last xs n))
  moved_in m (inr (inl is)) = inl (listed_first xs (n ∷ []) m is)
  moved_in m (inr (inr is)) = inr is

  pub moved_out : (m : ℕ) → IsListed (xs ++ n ∷ []) m ⊎ F m → (m ≡ n) ⊎ (IsListed xs m ⊎ F m)
  moved_out m (inr is) = inr (inr is)
  moved_out m (inl is) = go (listed_cases xs n m is)
    where
      go : IsListed xs m ⊎ (m ≡ n) → (m ≡ n) ⊎ (IsListed xs m ⊎ F m)
      go (inl there) = inr (inl there)
      go (inr e) = inl e

pub listed_where : (xs ys : List ℕ) (n : ℕ) → ys ≡ xs ++ n ∷ [] → (m : ℕ) → IsListed ys m → (m ≡ n) ⊎ IsListed xs m
listed_where xs ys n eq m is = go (listed_cases xs n m (subst (λ l. IsListed l m) eq is))
  where
    go : IsListed xs m ⊎ (m ≡ n) → (m ≡ n) ⊎ IsListed xs m
    go (inl there) = inr there
    go (inr e) = inl e

pub not_listed : (xs : List ℕ) (n : ℕ) → list_any (eqb n) xs ≡ false → IsListed xs n → ⊥
not_listed xs n absent is = true_false (sym is ∙ absent)

pub not_either : (xs ys : List ℕ) (n : ℕ) → list_any (eqb n) xs ≡ false → list_any (eqb n) ys ≡ false → IsListed xs n ⊎ IsListed ys n → ⊥
not_either xs ys n one two (inl is) = not_listed xs n one is
not_either xs ys n one two (inr is) = not_listed ys n two is

-- what is not in a list is told by its test
pub unlisted : (xs : List ℕ) (n : ℕ) → (IsListed xs n → ⊥) → list_any (eqb n) xs ≡ false
unlisted xs n no_place = go (list_any (eqb n) xs) refl
  where
    go : (b : Bool) → list_any (eqb n) xs ≡ b → list_any (eqb n) xs ≡ false
    go true is = absurd (no_place is)
    go false is = is

-- a node leaves the end of one list, and may join another
module _ (kept found rest : List ℕ) (n : ℕ) (eq : found ≡ rest ++ n ∷ []) (apart : (m : ℕ) → IsListed kept m → IsListed found m → ⊥) where
  pub apart_before : list_any (eqb n) kept ≡ false
  apart_before = unlisted kept n (λ is. apart n is (subst (λ l. IsListed l n) (sym eq) (listed_last rest n)))

  pub apart_after : (more : List ℕ) → list_any (eqb n) rest ≡ false → ((m : ℕ) → IsListed more m → (m ≡ n) ⊎ IsListed kept m) → (m : ℕ) → IsListed more m → IsListed rest m → ⊥
  apart_after more gone grew m is there = go (grew m is)
    where
      go : (m ≡ n) ⊎ IsListed kept m → ⊥
      go (inl e) = not_listed rest n gone (subst (IsListed rest) e there)
      go (inr own) = apart m own (subst (λ l. IsListed l m) (sym eq) (listed_first rest (n ∷ []) m there))

pub distinct_none : IsDistinct eqb []
unfolding IsDistinct
distinct_none = tt

pub below_push : (xs : List ℕ) (n : ℕ) → ((m : ℕ) → IsListed xs m → m < 256) → n < 256 → (m : ℕ) → IsListed (xs ++ n ∷ []) m → m < 256
below_push xs n below own m is = go (listed_cases xs n m is)
  where
    go : IsListed xs m ⊎ (m ≡ n) → m < 256
    go (inl there) = below m there
    go (inr e) = subst (λ k. k < 256) (sym e) own

-- another node fits
pub room_left : (xs : List ℕ) (n : ℕ) → IsDistinct eqb xs → list_any (eqb n) xs ≡ false → ((m : ℕ) → IsListed xs m → m < 256) → n < 256 → length xs < 256
room_left xs n all absent below own =
    let most = length-le_from_distinct_below (xs ++ n ∷ []) 256 (distinct_push xs n all absent) (below_push xs n below own) in
    let more : length (xs ++ n ∷ []) ≡ length xs + 1 = length-append xs (n ∷ []) in
    omega (arith, most, more)

-- what a list keeps when its last node leaves
module _ (old new : List ℕ) where
  pub popped_distinct : (last : Option ℕ) → old ≡ new ++ option_to_list last → IsDistinct eqb old → IsDistinct eqb new
  popped_distinct None eq all = subst (IsDistinct eqb) (eq ∙ append-nil new) all
  popped_distinct (Some n) eq all = (distinct_front new n (subst (IsDistinct eqb) eq all)).0

  pub popped_below : (last : Option ℕ) → old ≡ new ++ option_to_list last → ((m : ℕ) → IsListed old m → m < 256) → (m : ℕ) → IsListed new m → m < 256
  popped_below last eq below m is = below m (subst (λ l. IsListed l m) (sym eq) (listed_first new (option_to_list last) m is))

  pub popped_fresh : (last : Option ℕ) → old ≡ new ++ option_to_list last → IsDistinct eqb old → IfSome last (λ n. list_any (eqb n) new ≡ false)
  popped_fresh None eq all = tt
  popped_fresh (Some n) eq all = (distinct_front new n (subst (IsDistinct eqb) eq all)).1

  pub popped_last : (last : Option ℕ) → old ≡ new ++ option_to_list last → ((m : ℕ) → IsListed old m → m < 256) → IfSome last (λ n. n < 256)
  popped_last None eq below = tt
  popped_last (Some n) eq below = below n (subst (λ l. IsListed l n) (sym eq) (listed_last new n))
