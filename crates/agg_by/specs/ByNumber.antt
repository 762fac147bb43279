-- What is kept for each group by its number.
--     at_number none number entries      what is kept for the group with a number
--     changed_at none number change entries      only what is kept for this number is another
--     changed_by none change number value entries      the same by a cell, if it holds something
--     IsHeld none has number value entries      a cell that holds something is among those of this number
use Rattle.std.specs.Prelude.{◌≡◌, false, ℕ, zero, suc, List, [], ◌∷◌, ℤ, slice_index_or, if◌then◌else◌}
use Rattle.tick_model.specs.Tables.{is_null}

abbrev pub at_number : {X : Type 0} → X → ℕ → List X → X
at_number none number entries = slice_index_or entries number none

-- where the list is too short, those before it are of no cells
abbrev pub changed_at : {X : Type 0} → X → ℕ → (X → X) → List X → List X
changed_at none zero change [] = change none ∷ []
changed_at none zero change (entry ∷ entries) = change entry ∷ entries
changed_at none (suc number) change [] = none ∷ changed_at none number change []
changed_at none (suc number) change (entry ∷ entries) = entry ∷ changed_at none number change entries

abbrev pub changed_by : {X : Type 0} → X → (ℤ → X → X) → ℕ → ℤ → List X → List X
changed_by none change number value entries = if is_null value then entries else changed_at none number (change value) entries

abbrev pub IsHeld : {X : Type 0} → X → (ℤ → X → Type 0) → ℕ → ℤ → List X → Type 0
IsHeld none has number value entries = is_null value ≡ false → has value (at_number none number entries)
