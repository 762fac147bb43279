-- The fields of a record that are still to be read.
use Rattle.std.proofs.Common.{◌≡◌, refl, ap, sym, ◌∙◌, true, false, true≢false, ℕ, List, [], ◌∷◌}
use Rattle.update_text.specs.Reading.{has_comma, next_fields}

pub fields_ahead : (todo : List (List ℕ)) (rest bytes : List ℕ) → bytes ≡ next_fields todo rest → has_comma bytes ≡ true →
    (field : List ℕ) × (later : List (List ℕ)) × (todo ≡ field ∷ later) × (bytes ≡ next_fields (field ∷ later) rest)
fields_ahead [] rest bytes e comma = absurd (true≢false (sym comma ∙ ap has_comma e))
fields_ahead (field ∷ later) rest bytes e comma = (field, later, refl, e)

pub fields_done : (todo : List (List ℕ)) (rest bytes : List ℕ) → bytes ≡ next_fields todo rest → has_comma bytes ≡ false → (todo ≡ []) × (bytes ≡ next_fields [] rest)
fields_done [] rest bytes e none = (refl, e)
fields_done (field ∷ later) rest bytes e none = absurd (true≢false (sym (ap has_comma e) ∙ none))
