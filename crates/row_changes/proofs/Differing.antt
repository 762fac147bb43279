-- The columns in which rows differ, one after the other.
use Rattle.std.proofs.Common.{◌≡◌, refl, ap, sym, ◌∙◌, Bool, true, false, ◌&&◌, ◌||◌, ◌==◌, ℕ, ◌+◌, arith, List, inl, inr}
use Rattle.std.{specs.Prelude.nat_lt, proofs.lemmas.Bool.{and_right, cases_eq, cases_lt, eq-eqb, eqb-true, lt-ltb, le-ltb, ne_eqb}}
use Rattle.key_lists.specs.Keys.{is_among}
use Rattle.row_set.{specs.Sets.with_key, proofs.United.among-with_key}

lt_more : (c i : ℕ) → nat_lt c (i + 1) ≡ ((i == c) || nat_lt c i)
lt_more c i =
    elim (cases_eq i c) [
      | inl same ↦ lt-ltb c (i + 1) (omega arith) ∙ sym (ap (λ b. b || nat_lt c i) (eq-eqb i c same))
      | inr apart ↦
          elim (cases_lt c i) [
            | inl less ↦ lt-ltb c (i + 1) (omega arith) ∙ sym (lt-ltb c i less) ∙ sym (ap (λ b. b || nat_lt c i) (ne_eqb i c apart))
            | inr more ↦ le-ltb c (i + 1) (omega arith) ∙ sym (le-ltb c i more) ∙ sym (ap (λ b. b || nat_lt c i) (ne_eqb i c apart))
          ]
    ]

or_more : (here a less d : Bool) → (here ≡ true → d ≡ true) → (here || (a || (less && d))) ≡ (a || ((here || less) && d))
or_more true true less d h = refl
or_more true false less d h = sym (h refl)
or_more false a less d h = refl

or_fewer : (here a less d : Bool) → (here ≡ true → d ≡ false) → (a || (less && d)) ≡ (a || ((here || less) && d))
or_fewer true a less d h = ap (λ b. a || b) (and_right less d (h refl) ∙ sym (h refl))
or_fewer false a less d h = refl

-- the set has the columns, and of those before a place the ones that differ
abbrev pub AreThose : List ℕ → (ℕ → Bool) → ℕ → List ℕ → Type 0
AreThose columns differ place set = (c : ℕ) → is_among c set ≡ (is_among c columns || (nat_lt c place && differ c))

pub column_more : (columns set : List ℕ) (differ : ℕ → Bool) (place : ℕ) → AreThose columns differ place set → differ place ≡ true → AreThose columns differ (place + 1) (with_key place set)
column_more columns set differ place h d c =
    among-with_key c place set
    ∙ ap (λ b. (place == c) || b) (h c)
    ∙ or_more (place == c) (is_among c columns) (nat_lt c place) (differ c) (λ e. sym (ap differ (eqb-true place c e)) ∙ d)
    ∙ ap (λ b. is_among c columns || (b && differ c)) (sym (lt_more c place))

pub column_passed : (columns set : List ℕ) (differ : ℕ → Bool) (place : ℕ) → AreThose columns differ place set → differ place ≡ false → AreThose columns differ (place + 1) set
column_passed columns set differ place h d c =
    h c
    ∙ or_fewer (place == c) (is_among c columns) (nat_lt c place) (differ c) (λ e. sym (ap differ (eqb-true place c e)) ∙ d)
    ∙ ap (λ b. is_among c columns || (b && differ c)) (sym (lt_more c place))
