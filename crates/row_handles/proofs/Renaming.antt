-- Places of rows that are given another block, or given back.
use Rattle.std.proofs.Common.{◌≡◌, ◌≢◌, refl, ap, sym, ◌∙◌, subst, true, false, ◌||◌, ℕ, ◌+◌, ◌<◌, List, [], ◌∷◌, length, take, get_or, Option, Some, None, IsSome, inl, inr, ◌==◌, option_map}
use Rattle.std.{proofs.lemmas.Bool.{ne_eqb, eqb-false, or_parts, cases_eq, cases_Bool, true≢false}, proofs.lemmas.List.Folds.list_any-append, proofs.lemmas.List.take_more}
use Rattle.slab.{specs.Slab.{Slab, get, with_value, Updates}, proofs.SlabLemmas.Updates-with_value}
use Rattle.row_handles.{specs.declared.block.BlockRow.BlockRow, specs.declared.index.Location.Location, specs.Blocks.place_in, specs.Moves.{AreRenamed, has_handle}}

has_more : (handle : ℕ) (rows : List BlockRow) (i : ℕ) (d : BlockRow) → i < length rows → has_handle handle (take (i + 1) rows) ≡ (has_handle handle (take i rows) || ((get_or rows i d).handle == handle || false))
has_more handle rows i d lt = ap (has_handle handle) (take_more rows i d lt) ∙ list_any-append (λ row. row.handle == handle) (take i rows) (get_or rows i d ∷ [])

pub none_before : (handle : ℕ) (rows : List BlockRow) (i : ℕ) (d : BlockRow) → i < length rows → has_handle handle (take (i + 1) rows) ≡ false → has_handle handle (take i rows) ≡ false
none_before handle rows i d lt none = (or_parts (has_handle handle (take i rows)) ((get_or rows i d).handle == handle || false) (sym (has_more handle rows i d lt) ∙ none)).0

pub ne_at : (handle : ℕ) (rows : List BlockRow) (i : ℕ) (d : BlockRow) → i < length rows → has_handle handle (take (i + 1) rows) ≡ false → handle ≢ (get_or rows i d).handle
ne_at handle rows i d lt none e =
    eqb-false (get_or rows i d).handle handle (or_parts ((get_or rows i d).handle == handle) false (or_parts (has_handle handle (take i rows)) ((get_or rows i d).handle == handle || false) (sym (has_more handle rows i d lt) ∙ none)).1).0 (sym e)

abbrev into : ℕ → Location → Location
into number place = place_in number place.depth

twice : (number : ℕ) (place : Option Location) → option_map (into number) (option_map (into number) place) ≡ option_map (into number) place
twice number None = refl
twice number (Some place) = refl

-- the place of one row more is that in the block
renamed_more : (number : ℕ) (rows : List BlockRow) (i : ℕ) (d : BlockRow) (old mid new : Slab Location) → i < length rows → AreRenamed number (take i rows) old mid → get new (get_or rows i d).handle ≡ option_map (into number) (get mid (get_or rows i d).handle) → ((other : ℕ) → other ≢ (get_or rows i d).handle → get new other ≡ get mid other) → AreRenamed number (take (i + 1) rows) old new
renamed_more number rows i d old mid new lt renamed own others = record {
  moved = λ handle has.
      elim (cases_eq handle (get_or rows i d).handle) [
        | inl same ↦ at_own handle same
        | inr other ↦ others handle other ∙ renamed.moved handle (earlier handle other has)
      ];
  others = λ handle none. others handle (ne_at handle rows i d lt none) ∙ renamed.others handle (none_before handle rows i d lt none);
}
  where
    earlier : (handle : ℕ) → handle ≢ (get_or rows i d).handle → has_handle handle (take (i + 1) rows) ≡ true → has_handle handle (take i rows) ≡ true
    earlier handle other has =
        elim (cases_Bool (has_handle handle (take i rows))) [
          | inl has_it ↦ has_it
          | inr has_not ↦ absurd (true≢false (sym has ∙ has_more handle rows i d lt ∙ ap (λ b. b || ((get_or rows i d).handle == handle || false)) has_not ∙ ap (λ b. b || false) (ne_eqb (get_or rows i d).handle handle (λ e. other (sym e)))))
        ]

    at_own : (handle : ℕ) → handle ≡ (get_or rows i d).handle → get new handle ≡ option_map (into number) (get old handle)
    at_own handle same =
        ap (get new) same ∙ own ∙ ap (λ h. option_map (into number) (get mid h)) (sym same)
        ∙ (elim (cases_Bool (has_handle handle (take i rows))) [
          | inl has_it ↦ ap (option_map (into number)) (renamed.moved handle has_it) ∙ twice number (get old handle)
          | inr has_not ↦ ap (option_map (into number)) (renamed.others handle has_not)
        ])

pub renamed_some : (number : ℕ) (rows : List BlockRow) (i : ℕ) (d : BlockRow) (old mid new : Slab Location) (place : Location) → i < length rows → AreRenamed number (take i rows) old mid → Some place ≡ get mid (get_or rows i d).handle → new ≡ with_value mid (get_or rows i d).handle (into number place) → AreRenamed number (take (i + 1) rows) old new
renamed_some number rows i d old mid new place lt renamed there is =
    renamed_more number rows i d old mid new lt renamed
    (ap (λ s. get s (get_or rows i d).handle) is ∙ updates.changed ∙ ap (option_map (into number)) there)
    (λ other ne. ap (λ s. get s other) is ∙ updates.others other ne)
  where
    updates : Updates mid (with_value mid (get_or rows i d).handle (into number place)) (get_or rows i d).handle (Some (into number place))
    updates = Updates-with_value mid (get_or rows i d).handle (into number place) (subst IsSome there refl)

pub renamed_none : (number : ℕ) (rows : List BlockRow) (i : ℕ) (d : BlockRow) (old mid new : Slab Location) → i < length rows → AreRenamed number (take i rows) old mid → get mid (get_or rows i d).handle ≡ None → new ≡ mid → AreRenamed number (take (i + 1) rows) old new
renamed_none number rows i d old mid new lt renamed absent is =
    renamed_more number rows i d old mid new lt renamed
    (ap (λ s. get s (get_or rows i d).handle) is ∙ absent ∙ ap (option_map (into number)) (sym absent))
    (λ other ne. ap (λ s. get s other) is)
