-- How many rows trades has after each step.
use Rattle.std.proofs.Common.{◌≡◌, refl, ap, sym, ◌∙◌, ℕ, zero, suc, ◌+◌, ◌-◌, ◌*◌, ◌/◌, ◌%◌, ◌==◌, ◌<◌, ◌≤◌, arith, Bool, true, false, cond}
use Rattle.std.proofs.lemmas.Bool.{eqb-true, eqb-false}
use Rattle.made_run.specs.Steps.{draws_after, draws_in, removes, rows_after, survivors}

-- every fifth step removes ten of them, and each adds twenty
pub rows_of_next : (before : ℕ) → survivors (before + 1) (rows_after before) + 20 ≡ rows_after (before + 1)
rows_of_next before = of ((before + 1) % 5 == 0) refl
  where
    of : (b : Bool) → ((before + 1) % 5 == 0) ≡ b → cond b (rows_after before - 10) (rows_after before) + 20 ≡ rows_after (before + 1)
    of true e = let whole : (before + 1) % 5 ≡ 0 = eqb-true ((before + 1) % 5) 0 e in omega (arith, whole)
    of false e = let other : (before + 1) % 5 ≡ 0 → ⊥ = eqb-false ((before + 1) % 5) 0 e in omega (arith, other)

-- a step that removes finds more than ten, and one that modifies finds some
pub many_where_removed : (before : ℕ) → removes (before + 1) ≡ true → 10 < rows_after before
many_where_removed before e = let whole : (before + 1) % 5 ≡ 0 = eqb-true ((before + 1) % 5) 0 e in omega (arith, whole)

pub some_where_modified : (before : ℕ) → ((before + 1) % 2 == 0) ≡ true → 0 < rows_after before
some_where_modified before e = let even : (before + 1) % 2 ≡ 0 = eqb-true ((before + 1) % 2) 0 e in omega (arith, even)

pub rows_are_few : (steps : ℕ) → steps ≤ 10000 → rows_after steps ≤ 200000
rows_are_few steps h = omega (arith, h)

-- at an even step some are left
pub some_left : (before : ℕ) → ((before + 1) % 2 == 0) ≡ true → 0 < survivors (before + 1) (rows_after before)
some_left before e = of ((before + 1) % 5 == 0) refl
  where
    even : (before + 1) % 2 ≡ 0
    even = eqb-true ((before + 1) % 2) 0 e

    of : (b : Bool) → ((before + 1) % 5 == 0) ≡ b → 0 < cond b (rows_after before - 10) (rows_after before)
    of true e = let whole : (before + 1) % 5 ≡ 0 = eqb-true ((before + 1) % 5) 0 e in omega (arith, whole)
    of false e = omega (arith, even)

-- every second step makes five draws more
pub draws_of_next : (before : ℕ) → draws_in (before + 1) + draws_after before ≡ draws_after (before + 1)
draws_of_next before = of ((before + 1) % 2 == 0) refl
  where
    of : (b : Bool) → ((before + 1) % 2 == 0) ≡ b → 80 + cond b 5 0 + draws_after before ≡ draws_after (before + 1)
    of true e = let even : (before + 1) % 2 ≡ 0 = eqb-true ((before + 1) % 2) 0 e in omega (arith, even)
    of false e = let odd : (before + 1) % 2 ≡ 0 → ⊥ = eqb-false ((before + 1) % 2) 0 e in omega (arith, odd)
