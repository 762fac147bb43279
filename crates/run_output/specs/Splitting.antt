-- Where an entry ends.
--     begins_part bytes      the text begins with a record that belongs to an entry and does not begin one: its tag has one letter
--     IsPart fields      so it is of this record
use Rattle.std.specs.Prelude.{◌≡◌, ℕ, ◌==◌, ◌++◌, Bool, true, false, List, [], ◌∷◌}
use Rattle.tick_model.specs.Texts.{record_text}

abbrev pub begins_part : List ℕ → Bool
begins_part [] = false
begins_part (first ∷ []) = false
begins_part (first ∷ second ∷ others) = second == 44

abbrev pub IsPart : List (List ℕ) → Type 0
IsPart fields = (rest : List ℕ) → begins_part (record_text fields ++ rest) ≡ true
