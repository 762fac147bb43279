-- Tests joined by and, or and not, and tests of numbers and orderings.
use Rattle.std.proofs.Common.{◌≡◌, refl, ap, sym, ◌∙◌, Bool, true, false, true≢false, cond, not, ◌&&◌, ◌||◌, ◌==◌, ℕ, arith, inl, inr, Less, Equal, Greater}
use Rattle.std.{specs.Ordering.{is_eq, is_lt, nat_cmp}, specs.declared.cmp.Ordering.Ordering, proofs.lemmas.Bool.{cases_eq, cases_lt, eq-eqb, le-ltb, lt-ltb, ne_eqb}}

pub or_false : (a : Bool) → (a || false) ≡ a
or_false true = refl
or_false false = refl

pub or_true : (a : Bool) → (a || true) ≡ true
or_true true = refl
or_true false = refl

pub or_assoc : (a b c : Bool) → (a || (b || c)) ≡ ((a || b) || c)
or_assoc true b c = refl
or_assoc false b c = refl

pub or_turned : (a b : Bool) → (a || b) ≡ (b || a)
or_turned true true = refl
or_turned true false = refl
or_turned false true = refl
or_turned false false = refl

pub or_swap : (a b c : Bool) → (a || (b || c)) ≡ (b || (a || c))
or_swap true true c = refl
or_swap true false c = refl
or_swap false b c = refl

pub or_twice : (a b : Bool) → (a || (a || b)) ≡ (a || b)
or_twice true b = refl
or_twice false b = refl

pub and_true : (a : Bool) → (a && true) ≡ a
and_true true = refl
and_true false = refl

pub and_false : (a : Bool) → (a && false) ≡ false
and_false true = refl
and_false false = refl

pub neither : (a b : Bool) → (not a && not b) ≡ not (a || b)
neither true b = refl
neither false b = refl

-- tests that pass together
pub same_truth : (a b : Bool) → (a ≡ true → b ≡ true) → (b ≡ true → a ≡ true) → a ≡ b
same_truth true b f g = sym (f refl)
same_truth false true f g = g refl
same_truth false false f g = refl

-- whether two numbers are one
pub eqb_swap : (a b : ℕ) → (a == b) ≡ (b == a)
eqb_swap a b =
    elim (cases_eq a b) [
      | inl same ↦ eq-eqb a b same ∙ sym (eq-eqb b a (sym same))
      | inr other ↦ ne_eqb a b other ∙ sym (ne_eqb b a (λ e. other (sym e)))
    ]

pub is_eq-nat_cmp : (a b : ℕ) → is_eq (nat_cmp a b) ≡ (b == a)
is_eq-nat_cmp a b =
    elim (cases_lt a b) [
      | inl below ↦ ap (λ t. is_eq (cond t Less (cond (a == b) Equal Greater))) (lt-ltb a b below) ∙ sym (ne_eqb b a (λ e. omega arith))
      | inr not_below ↦ ap (λ t. is_eq (cond t Less (cond (a == b) Equal Greater))) (le-ltb a b not_below) ∙ (elim (cases_eq a b) [
        | inl same ↦ ap (λ t. is_eq (cond t Equal Greater)) (eq-eqb a b same) ∙ sym (eq-eqb b a (sym same))
        | inr other ↦ ap (λ t. is_eq (cond t Equal Greater)) (ne_eqb a b other) ∙ sym (ne_eqb b a (λ e. other (sym e)))
      ])
    ]

pub less_from : (o : Ordering) → is_lt o ≡ true → o ≡ Less
less_from Less e = refl
less_from Equal e = absurd (true≢false (sym e))
less_from Greater e = absurd (true≢false (sym e))
