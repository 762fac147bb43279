-- The clock values that a caller has looked at, in order.
--     NeverFalls low looks      each is at least the one before it, and the first at least `low`
--     latest looks      the step that was completed at the last look, and 0 before the first
use Rattle.std.specs.Prelude.{ℕ, ◌≤◌, List, [], ◌∷◌}
use Rattle.tick_model.specs.Clock.{completed}

abbrev pub NeverFalls : ℕ → List ℕ → Type 0
NeverFalls low [] = Unit {0}
NeverFalls low (look ∷ looks) = (low ≤ look) × NeverFalls look looks

abbrev pub last_or : ℕ → List ℕ → ℕ
last_or first [] = first
last_or first (look ∷ looks) = last_or look looks

-- the clock begins at 1
abbrev pub latest : List ℕ → ℕ
latest looks = completed (last_or 1 looks)

-- the looks of attempts, which are two each
abbrev pub looks_of : List (ℕ × ℕ) → List ℕ
looks_of [] = []
looks_of (pair ∷ pairs) = pair.0 ∷ pair.1 ∷ looks_of pairs
