-- Numbers that rise, where few are left.
use Rattle.std.proofs.Common.{◌≡◌, refl, true, ℕ, ◌+◌, ◌≤◌, arith, List, [], ◌∷◌, length, drop, length-drop}
use Rattle.tick_model.specs.Plans.{rises}

pub rises_alone : (xs : List ℕ) → length xs ≤ 1 → rises xs ≡ true
rises_alone [] h = refl
rises_alone (x ∷ []) h = refl
rises_alone (x ∷ y ∷ ys) h = absurd (omega arith)

pub rises_at_last : (xs : List ℕ) (n : ℕ) → length xs ≤ n + 1 → rises (drop n xs) ≡ true
rises_at_last xs n h = rises_alone (drop n xs) (omega (arith, length-drop n xs))
