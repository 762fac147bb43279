-- Numbers that follow one another.
use Rattle.std.proofs.Common.{◌≡◌, ap, sym, ◌∙◌, true, ◌||◌, ◌==◌, ℕ, zero, suc, ◌+◌, ◌<◌, ◌≤◌, arith, List, [], ◌∷◌, ◌++◌, inl, inr}
use Rattle.std.{specs.List.{AllByRecursion, range_with_len}, proofs.lemmas.Bool.{cases_eq, eq-eqb, or_left, or_right}}
use Rattle.key_lists.{specs.Keys.is_among, proofs.Every.every_weaker}

pub range-append : (first m n : ℕ) → range_with_len first (m + n) ≡ range_with_len first m ++ range_with_len (first + m) n
range-append first zero n =
    let here : first + 0 ≡ first = omega arith in
    let whole : 0 + n ≡ n = omega arith in
    ap (range_with_len first) whole ∙ ap (λ k. range_with_len k n) (sym here)
range-append first (suc m) n =
    let count : suc m + n ≡ suc (m + n) = omega arith in
    let next : first + 1 + m ≡ first + suc m = omega arith in
    ap (range_with_len first) count ∙ ap (λ rest. first ∷ rest) (range-append (first + 1) m n ∙ ap (λ k. range_with_len (first + 1) m ++ range_with_len k n) next)

pub range_last : (first n : ℕ) → range_with_len first (n + 1) ≡ range_with_len first n ++ (first + n) ∷ []
range_last first n = range-append first n 1

-- what holds of the numbers from first on
pub each_from : (P : ℕ → Type 0) (first count : ℕ) → ((key : ℕ) → first ≤ key → key < first + count → P key) → AllByRecursion P (range_with_len first count)
each_from P first zero h = tt
each_from P first (suc count) h = (h first (omega arith) (omega arith), each_from P (first + 1) count (λ key above below. h key (omega arith) (omega arith)))

-- which numbers are among them
pub range_below : (first n : ℕ) → AllByRecursion (λ k. k < first + n) (range_with_len first n)
range_below first zero = tt
range_below first (suc n) = (omega arith, every_weaker (λ k. k < first + 1 + n) (λ k. k < first + suc n) (range_with_len (first + 1) n) (λ k h. omega (arith, h)) (range_below (first + 1) n))

pub among_range : (key first count : ℕ) → first ≤ key → key < first + count → is_among key (range_with_len first count) ≡ true
among_range key first zero above below = absurd (omega arith)
among_range key first (suc count) above below =
    elim (cases_eq first key) [
      | inl same ↦ or_left (first == key) (is_among key (range_with_len (first + 1) count)) (eq-eqb first key same)
      | inr other ↦ or_right (first == key) (is_among key (range_with_len (first + 1) count)) (among_range key (first + 1) count (omega arith) (omega arith))
    ]
