-- What is kept for each group by its number, where what is kept for one becomes another.
use Rattle.std.proofs.Common.{◌≡◌, ◌≢◌, refl, ap, ℕ, zero, suc, ◌<◌, ◌≤◌, arith, List, [], ◌∷◌, ◌++◌, length, get_or, set, sym, ◌∙◌, false, ℤ, if◌then◌else◌}
use Rattle.std.proofs.lemmas.List.{get_or_default}
use Rattle.tick_model.specs.Tables.{is_null}
use Rattle.agg_by.specs.ByNumber.{at_number, changed_at, changed_by}

module _ {X : Type 0} (none : X) where
  -- room for one more
  pub changed_room : (number : ℕ) (change : X → X) (entries : List X) (last : X) → last ≡ none → length entries ≤ number → changed_at none number change (entries ++ last ∷ []) ≡ changed_at none number change entries
  changed_room zero change [] last e le = ap (λ entry. change entry ∷ []) e
  changed_room zero change (entry ∷ entries) last e le = absurd (omega (arith, le))
  changed_room (suc number) change [] last e le = ap (λ entry. entry ∷ changed_at none number change []) e
  changed_room (suc number) change (entry ∷ entries) last e le = ap (λ es. entry ∷ es) (changed_room number change entries last e (omega (arith, le)))

  -- what is written at its place
  changed_set : (number : ℕ) (change : X → X) (entries : List X) → number < length entries → set entries number (change (get_or entries number none)) ≡ changed_at none number change entries
  changed_set number change [] lt = absurd (omega (arith, lt))
  changed_set zero change (entry ∷ entries) lt = refl
  changed_set (suc number) change (entry ∷ entries) lt = ap (λ es. entry ∷ es) (changed_set number change entries (omega (arith, lt)))

  -- what is kept for a number becomes another by a cell that holds something
  pub changed_held : (number : ℕ) (value : ℤ) (change : ℤ → X → X) (old room : List X) (entry new : X) → is_null value ≡ false → number < length room → entry ≡ get_or room number entry → new ≡ change value entry
      → changed_at none number (change value) room ≡ changed_at none number (change value) old → set room number new ≡ changed_by none change number value old
  changed_held number value change old room entry new holds lt is made same =
      ap (set room number) (made ∙ ap (change value) (is ∙ get_or_default room number entry none lt))
      ∙ changed_set number (change value) room lt ∙ same
      ∙ sym (ap (λ b. if b then old else changed_at none number (change value) old) holds)

  pub changed_own : (number : ℕ) (change : X → X) (entries : List X) → at_number none number (changed_at none number change entries) ≡ change (at_number none number entries)
  changed_own zero change [] = refl
  changed_own zero change (entry ∷ entries) = refl
  changed_own (suc number) change [] = changed_own number change []
  changed_own (suc number) change (entry ∷ entries) = changed_own number change entries

  pub changed_other : (number other : ℕ) (change : X → X) (entries : List X) → other ≢ number → at_number none other (changed_at none number change entries) ≡ at_number none other entries
  changed_other zero zero change entries differ = absurd (differ refl)
  changed_other zero (suc other) change [] differ = refl
  changed_other zero (suc other) change (entry ∷ entries) differ = refl
  changed_other (suc number) zero change [] differ = refl
  changed_other (suc number) zero change (entry ∷ entries) differ = refl
  changed_other (suc number) (suc other) change [] differ = changed_other number other change [] (λ same. differ (ap suc same))
  changed_other (suc number) (suc other) change (entry ∷ entries) differ = changed_other number other change entries (λ same. differ (ap suc same))
