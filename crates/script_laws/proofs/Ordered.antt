-- Lists that stay in order, and without a member twice, with one member more.
use Rattle.std.proofs.Common.{◌≡◌, refl, sym, Bool, true, false, not, eqb, ℕ, ◌<◌, ◌≤◌, arith, List, [], ◌∷◌, ◌++◌, inl, inr}
use Rattle.std.{specs.Prelude.nat_lt, specs.List.{AllByRecursion, list_all}, proofs.lemmas.Bool.{cond_both, and_parts, and_from, or_parts, or_from, not-true, not_from_false, lt-ltb, ltb-false, eqb-false, ne_eqb, cases_lt}}
use Rattle.tick_model.{specs.Names.{same_name, is_one_of, are_distinct}, specs.Plans.{rises, number_distinct}}
use Rattle.script_reader.specs.Checks.{in_order, is_among}
use Rattle.script_laws.proofs.Columns.{other_names}

-- names
none_of_more : (names : List (List ℕ)) (name new : List ℕ) → is_one_of names name ≡ false → same_name name new ≡ false → is_one_of (names ++ new ∷ []) name ≡ false
none_of_more [] name new none other = or_from (same_name name new) false other refl
none_of_more (n ∷ names) name new none other =
    let parts = or_parts (same_name name n) (is_one_of names name) none in
    or_from (same_name name n) (is_one_of (names ++ new ∷ []) name) parts.0 (none_of_more names name new parts.1 other)

pub are_distinct-push : (names : List (List ℕ)) (new : List ℕ) → is_one_of names new ≡ false → are_distinct names ≡ true → are_distinct (names ++ new ∷ []) ≡ true
are_distinct-push [] new none apart = refl
are_distinct-push (name ∷ names) new none apart =
    let others = or_parts (same_name new name) (is_one_of names new) none in
    let parts = and_parts (not (is_one_of names name)) (are_distinct names) apart in
    and_from (not (is_one_of (names ++ new ∷ []) name)) (are_distinct (names ++ new ∷ []))
    (not_from_false (is_one_of (names ++ new ∷ []) name) (none_of_more names name new (not-true (is_one_of names name) parts.0) (other_names new name others.0)))
    (are_distinct-push names new others.1 parts.1)

-- numbers
other_number : (a b : ℕ) → eqb a b ≡ false → eqb b a ≡ false
other_number a b h = ne_eqb b a (λ e. eqb-false a b h (sym e))

differs_from_more : (numbers : List ℕ) (number new : ℕ) → list_all (λ y. not (eqb number y)) numbers ≡ true → eqb number new ≡ false → list_all (λ y. not (eqb number y)) (numbers ++ new ∷ []) ≡ true
differs_from_more [] number new all other = and_from (not (eqb number new)) true (not_from_false (eqb number new) other) refl
differs_from_more (n ∷ numbers) number new all other =
    let parts = and_parts (not (eqb number n)) (list_all (λ y. not (eqb number y)) numbers) all in
    and_from (not (eqb number n)) (list_all (λ y. not (eqb number y)) (numbers ++ new ∷ [])) parts.0 (differs_from_more numbers number new parts.1 other)

pub number_distinct-push : (numbers : List ℕ) (new : ℕ) → is_among new numbers ≡ false → number_distinct numbers ≡ true → number_distinct (numbers ++ new ∷ []) ≡ true
number_distinct-push [] new none apart = refl
number_distinct-push (number ∷ numbers) new none apart =
    let others = or_parts (eqb new number) (is_among new numbers) none in
    let parts = and_parts (list_all (λ y. not (eqb number y)) numbers) (number_distinct numbers) apart in
    and_from (list_all (λ y. not (eqb number y)) (numbers ++ new ∷ [])) (number_distinct (numbers ++ new ∷ []))
    (differs_from_more numbers number new parts.0 (other_number new number others.0)) (number_distinct-push numbers new others.1 parts.1)

-- numbers that rise, behind one before them
abbrev begins_after : ℕ → List ℕ → Bool
begins_after first [] = true
begins_after first (next ∷ rest) = nat_lt first next

rises_behind : (first : ℕ) (rest : List ℕ) → begins_after first rest ≡ true → rises rest ≡ true → rises (first ∷ rest) ≡ true
rises_behind first [] after rise = refl
rises_behind first (next ∷ rest) after rise = and_from (nat_lt first next) (rises (next ∷ rest)) after rise

rises_parts : (first : ℕ) (rest : List ℕ) → rises (first ∷ rest) ≡ true → (begins_after first rest ≡ true) × (rises rest ≡ true)
rises_parts first [] rise = (refl, refl)
rises_parts first (next ∷ rest) rise = and_parts (nat_lt first next) (rises (next ∷ rest)) rise

begins_in_order : (first new : ℕ) (rest : List ℕ) → first < new → begins_after first rest ≡ true → begins_after first (in_order new rest) ≡ true
begins_in_order first new [] less after = lt-ltb first new less
begins_in_order first new (next ∷ rest) less after =
    cond_both (nat_lt new next) (new ∷ next ∷ rest) (next ∷ in_order new rest) (λ numbers. begins_after first numbers ≡ true) (λ _. lt-ltb first new less) (λ _. after)

pub rises-in_order : (new : ℕ) (numbers : List ℕ) → is_among new numbers ≡ false → rises numbers ≡ true → rises (in_order new numbers) ≡ true
rises-in_order new [] none rise = refl
rises-in_order new (number ∷ numbers) none rise =
    let others = or_parts (eqb new number) (is_among new numbers) none in
    let parts = rises_parts number numbers rise in
    let later = rises-in_order new numbers others.1 parts.1 in
    cond_both (nat_lt new number) (new ∷ number ∷ numbers) (number ∷ in_order new numbers) (λ numbers. rises numbers ≡ true)
    (λ less. and_from (nat_lt new number) (rises (number ∷ numbers)) less rise)
    (λ past. rises_behind number (in_order new numbers) (begins_in_order number new numbers (above number new (ltb-false new number past) (eqb-false new number others.0)) parts.0) later)
  where
    above : (number new : ℕ) → number ≤ new → (new ≡ number → ⊥) → number < new
    above number new le other = elim (cases_lt number new) [
      | inl less ↦ less
      | inr past ↦ absurd (other (omega arith))
    ]

pub every-in_order : (P : ℕ → Type 0) (new : ℕ) (numbers : List ℕ) → P new → AllByRecursion P numbers → AllByRecursion P (in_order new numbers)
every-in_order P new [] has all = (has, tt)
every-in_order P new (number ∷ numbers) has all =
    cond_both (nat_lt new number) (new ∷ number ∷ numbers) (number ∷ in_order new numbers) (AllByRecursion P) (λ _. (has, all)) (λ _. (all.0, every-in_order P new numbers has all.1))
