-- The order of the rows of a group: by `at`, and then by key.
use Rattle.std.proofs.Common.{◌≡◌, refl, ap, sym, ◌∙◌, subst, Bool, true, false, not, cond, ◌&&◌, ◌||◌, ◌⊎◌, inl, inr, ℕ, ◌<◌, ◌≤◌, ltb, arith, ℤ, ◌<ℤ◌, ◌≤ℤ◌, int_lt, int_le}
use Rattle.std.{specs.Ordering.{int_eq, is_eq}, specs.declared.cmp.Ordering.TheVariants.{Less, Equal, Greater}, specs.Cmp.signed_Decides, proofs.lemmas.Int.ints, proofs.lemmas.Bool.{ltb-true, lt-ltb, le-ltb, or_right, or_left, or_cases, and_parts}}

-- whether a row stands before another
abbrev pub less : ℤ → ℕ → ℤ → ℕ → Bool
less at key other_at other_key = int_lt at other_at || int_eq at other_at && ltb key other_key

pub lt_from : (a b : ℤ) → int_lt a b ≡ true → a <ℤ b
lt_from a b e = grind (arith, ints)

pub lt_to : (a b : ℤ) → a <ℤ b → int_lt a b ≡ true
lt_to a b h = grind (arith, ints)

pub not_lt_to : (a b : ℤ) → b ≤ℤ a → int_lt a b ≡ false
not_lt_to a b h = grind (arith, ints)

pub not_lt_from : (a b : ℤ) → int_lt a b ≡ false → b ≤ℤ a
not_lt_from a b h = grind (arith, ints)

one_way : (a b : ℤ) → int_lt a b ≡ true → int_lt b a ≡ false
one_way a b e = not_lt_to b a (omega (arith, ints, lt_from a b e))

pub less_either : (a : ℤ) (k : ℕ) (b : ℤ) (m : ℕ) → less a k b m ≡ true → (a <ℤ b) ⊎ ((a ≡ b) × (k < m))
less_either a k b m e =
    elim (or_cases (int_lt a b) (int_eq a b && ltb k m) e) [
      | inl lt ↦ inl (lt_from a b lt)
      | inr same ↦ inr ((signed_Decides a b).0 (and_parts (int_eq a b) (ltb k m) same).0, ltb-true k m (and_parts (int_eq a b) (ltb k m) same).1)
    ]

pub less_by_at : (a : ℤ) (k : ℕ) (b : ℤ) (m : ℕ) → int_lt a b ≡ true → less a k b m ≡ true
less_by_at a k b m lt = or_left (int_lt a b) (int_eq a b && ltb k m) lt

less_by_key : (a : ℤ) (k : ℕ) (b : ℤ) (m : ℕ) → a ≡ b → k < m → less a k b m ≡ true
less_by_key a k b m same lt =
    or_right (int_lt a b) (int_eq a b && ltb k m) (ap (λ e. e && ltb k m) ((signed_Decides a b).1 same) ∙ lt-ltb k m lt)

pub less_through : (a : ℤ) (k : ℕ) (b : ℤ) (m : ℕ) (d : ℤ) (n : ℕ) → less a k b m ≡ true → less b m d n ≡ true → less a k d n ≡ true
less_through a k b m d n e f =
    elim (less_either a k b m e) [
      | inl ab ↦ elim (less_either b m d n f) [
        | inl bd ↦ less_by_at a k d n (lt_to a d (omega (arith, ints)))
        | inr bd ↦ less_by_at a k d n (lt_to a d (subst (λ z. a <ℤ z) bd.0 ab))
      ]
      | inr ab ↦ elim (less_either b m d n f) [
        | inl bd ↦ less_by_at a k d n (lt_to a d (subst (λ z. z <ℤ d) (sym ab.0) bd))
        | inr bd ↦ less_by_key a k d n (ab.0 ∙ bd.0) (omega arith)
      ]
    ]

-- by the tests of both ways
of_both : (p q l : Bool) → (p ≡ true → q ≡ false) → l ≡ true → (p || is_eq (cond p Less (cond q Greater Equal)) && l) ≡ not q
of_both true q l h e = ap not (sym (h refl))
of_both false true l h e = refl
of_both false false l h e = e

not_key : (p q l : Bool) → l ≡ false → (p || is_eq (cond p Less (cond q Greater Equal)) && l) ≡ p
not_key true q l e = refl
not_key false true l e = refl
not_key false false l e = e

-- a row of a smaller key stands before another exactly if its `at` is not greater
pub less_below : (a : ℤ) (k : ℕ) (b : ℤ) (m : ℕ) → k < m → less a k b m ≡ not (int_lt b a)
less_below a k b m h = of_both (int_lt a b) (int_lt b a) (ltb k m) (one_way a b) (lt-ltb k m h)

-- and one of a greater key exactly if its `at` is smaller
pub less_above : (a : ℤ) (k : ℕ) (b : ℤ) (m : ℕ) → m ≤ k → less a k b m ≡ int_lt a b
less_above a k b m h = not_key (int_lt a b) (int_lt b a) (ltb k m) (le-ltb k m h)

pub less_itself : (a : ℤ) (k : ℕ) → less a k a k ≡ false
less_itself a k = less_above a k a k (omega arith) ∙ not_lt_to a a (omega (arith, ints))

-- the `at` of a row before another is not greater
pub not_later : (a : ℤ) (k : ℕ) (b : ℤ) (m : ℕ) → less a k b m ≡ true → int_lt b a ≡ false
not_later a k b m e =
    not_lt_to b a (
    elim (less_either a k b m e) [
      | inl lt ↦ omega (arith, ints)
      | inr same ↦ subst (λ z. a ≤ℤ z) same.0 (omega (arith, ints))
    ]
    )

pub not_earlier : (a : ℤ) (k : ℕ) (b : ℤ) (m : ℕ) → less a k b m ≡ false → int_lt a b ≡ false
not_earlier a k b m e = first_false (int_lt a b) (int_eq a b && ltb k m) e
  where
    first_false : (p q : Bool) → (p || q) ≡ false → p ≡ false
    first_false true q f = f
    first_false false q f = refl

-- three rows by their `at`
pub later_too : (a b d : ℤ) → int_lt b a ≡ false → int_lt d b ≡ false → int_lt d a ≡ false
later_too a b d e f = not_lt_to d a (omega (arith, ints, not_lt_from b a e, not_lt_from d b f))

pub at_most : (a b : ℤ) → not (int_lt b a) ≡ int_le a b
at_most a b = grind (arith, ints)
