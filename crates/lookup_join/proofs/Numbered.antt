-- Notes by their numbers.
use Rattle.std.proofs.Common.{◌≡◌, refl, ap, ap₂, sym, ◌∙◌, subst, Bool, true, false, cond, ◌&&◌, ◌==◌, ℕ, zero, suc, ◌+◌, ◌<◌, arith, List, [], ◌∷◌, ◌++◌, map, filter, length, length-append, append_assoc, Option, Some, None, ℤ, pos}
use Rattle.std.{specs.Prelude.{find, int_le, int_lt, option_map, slice_get, slice_index_or, IfSome}, specs.List.{AllByRecursion, range_with_len}, proofs.lemmas.Bool.lt-ltb, proofs.lemmas.List.{length-map, map-append}, proofs.lemmas.Option.{none-some, slice_get-map, same_Some}}
use Rattle.key_lists.{proofs.Every.{every_unmapped, every_weaker, every-filter, filter-map, map_map}, proofs.Among.among_above, proofs.Ranges.{range_last, range_below}}
use Rattle.lookup_join.{specs.declared.pick.Pick.TheVariants.Last, specs.Latest.{latest_by, match_of, next_time}, specs.Notes.{IsNumbered, Note, next_after, note_of, noted_of, notes_of}, specs.declared.latest.Found.Found, specs.declared.notes.PriorMatch.PriorMatch, proofs.Brought.none_under, proofs.Spans.{latest_every, latest-map}, proofs.Walks.get_index}
use Rattle.row_groups.specs.Members.{Member, by_at, group_of, keys_of, member_of, member_under, placed, with_member}
use Rattle.tick_model.specs.Tables.{same_cells}

-- the first number, and those after it
abbrev first_of : List ℕ → ℕ → ℕ
first_of [] other = other
first_of (key ∷ keys) other = key

abbrev rest_of : List ℕ → List ℕ
rest_of [] = []
rest_of (key ∷ keys) = keys

no_keys : {X : Type 0} (key : ℕ) (keys : List ℕ) → key ∷ keys ≡ [] → X
no_keys key keys e = absurd (none e)
  where
    none : key ∷ keys ≡ [] → ⊥
    none e = cc

some_keys : {X : Type 0} (key : ℕ) (keys : List ℕ) → [] ≡ key ∷ keys → X
some_keys key keys e = absurd (some e)
  where
    some : [] ≡ key ∷ keys → ⊥
    some e = cc

pub before-notes : (n : ℕ) (members : List Member) (before : List (Option ℕ)) → keys_of members ≡ range_with_len n (length before) → map (λ (note : Note). note.before) (notes_of members before) ≡ before
before-notes n [] [] e = refl
before-notes n [] (first ∷ before) e = some_keys n (range_with_len (n + 1) (length before)) e
before-notes n (member ∷ members) [] e = no_keys member.key (keys_of members) e
before-notes n (member ∷ members) (first ∷ before) e = ap (λ rest. first ∷ rest) (before-notes (n + 1) members before (ap rest_of e))

pub length-notes : (n : ℕ) (members : List Member) (before : List (Option ℕ)) → keys_of members ≡ range_with_len n (length before) → length (notes_of members before) ≡ length before
length-notes n [] [] e = refl
length-notes n [] (first ∷ before) e = some_keys n (range_with_len (n + 1) (length before)) e
length-notes n (member ∷ members) [] e = no_keys member.key (keys_of members) e
length-notes n (member ∷ members) (first ∷ before) e = ap suc (length-notes (n + 1) members before (ap rest_of e))

-- the note whose key cells and time a member has
abbrev pub note_by : List (Option ℕ) → Member → Note
note_by before member = record { cells = member.cells; at = member.at; before = slice_index_or before member.key None }

index_front : (front : List (Option ℕ)) (first : Option ℕ) (before : List (Option ℕ)) → slice_index_or (front ++ first ∷ before) (length front) None ≡ first
index_front [] first before = refl
index_front (other ∷ front) first before = index_front front first before

notes_mapped : (front : List (Option ℕ)) (members : List Member) (before : List (Option ℕ)) → keys_of members ≡ range_with_len (length front) (length before) → notes_of members before ≡ map (note_by (front ++ before)) members
notes_mapped front [] [] e = refl
notes_mapped front [] (first ∷ before) e = some_keys (length front) (range_with_len (length front + 1) (length before)) e
notes_mapped front (member ∷ members) [] e = no_keys member.key (keys_of members) e
notes_mapped front (member ∷ members) (first ∷ before) e =
    ap₂ (λ noted notes. (let note : Note = record { cells = member.cells; at = member.at; before = noted } in note) ∷ notes)
    (sym (index_front front first before) ∙ ap (λ key. slice_index_or (front ++ first ∷ before) key None) (sym (ap (λ keys. first_of keys 0) e)))
    (notes_mapped (front ++ first ∷ []) members before (ap rest_of e ∙ ap (λ n. range_with_len n (length before)) (sym (length-append front (first ∷ []))))
    ∙ ap (λ all. map (note_by all) members) (append_assoc front (first ∷ []) before))

pub all_below : (members : List Member) (before : List (Option ℕ)) → IsNumbered members before → AllByRecursion (λ key. key < length before) (keys_of members)
all_below members before numbered = subst (AllByRecursion (λ key. key < length before)) (sym numbered.numbers) (every_weaker (λ key. key < 0 + length before) (λ key. key < length before) (range_with_len 0 (length before)) (λ key h. omega (arith, h)) (range_below 0 (length before)))

-- what is found of a match, and what is noted there
abbrev pub found_of : Member → Found
found_of member = record { key = member.key; at = member.at }

pub not_found : (before : List (Option ℕ)) (o : Option Member) → option_map found_of o ≡ None → option_map (note_by before) o ≡ None
not_found before None e = refl
not_found before (Some member) e = absurd (none-some (found_of member) (sym e))

pub found_within : (before : List (Option ℕ)) (o : Option Member) (found : Found) → IfSome o (λ (member : Member). member.key < length before) → option_map found_of o ≡ Some found → found.key < length before
found_within before None found h e = absurd (none-some found e)
found_within before (Some member) found h e = subst (λ (found : Found). found.key < length before) (same_Some _ _ e) h

index_any : (before : List (Option ℕ)) (n : ℕ) (other another : Option ℕ) → n < length before → slice_index_or before n other ≡ slice_index_or before n another
index_any [] n other another h = absurd (omega arith)
index_any (first ∷ before) zero other another h = refl
index_any (first ∷ before) (suc n) other another h = index_any before n other another (omega arith)

pub found_noted : (before : List (Option ℕ)) (o : Option Member) (found : Found) (noted : Option ℕ) → noted ≡ slice_index_or before found.key noted → IfSome o (λ (member : Member). member.key < length before) → option_map found_of o ≡ Some found
    → (let own : PriorMatch = record { at = found.at; before = noted } in Some own) ≡ option_map noted_of (option_map (note_by before) o)
found_noted before None found noted is h e = absurd (none-some found e)
found_noted before (Some member) found noted is h e =
    ap₂ (λ at before. let own : PriorMatch = record { at = at; before = before } in Some own) (sym (ap (λ (found : Found). found.at) (same_Some _ _ e)))
    (is ∙ ap (λ (found : Found). slice_index_or before found.key noted) (sym (same_Some _ _ e)) ∙ index_any before member.key noted None h)

-- the member under a number
under_number : (n i count : ℕ) (members : List Member) → keys_of members ≡ range_with_len n count → i < count → member_under (n + i) members ≡ slice_get members i
under_number n i zero members e h = absurd (omega arith)
under_number n i (suc count) [] e h = some_keys n (range_with_len (n + 1) count) e
under_number n zero (suc count) (member ∷ members) e h = ap (λ b. cond b (Some member) (member_under (n + 0) members)) (same (ap (λ keys. first_of keys 0) e))
  where
    same : member.key ≡ n → (member.key == n + 0) ≡ true
    same e = grind (arith, e)
under_number n (suc i) (suc count) (member ∷ members) e h =
    ap (λ b. cond b (Some member) (member_under (n + suc i) members)) (other (ap (λ keys. first_of keys 0) e))
    ∙ ap (λ k. member_under k members) (let same : n + suc i ≡ n + 1 + i = omega arith in same)
    ∙ under_number (n + 1) i count members (ap rest_of e) (omega arith)
  where
    other : member.key ≡ n → (member.key == n + suc i) ≡ false
    other e = grind (arith, e)

-- one note more, behind the others
with_last : (member : Member) (members : List Member) → AllByRecursion (λ key. key < member.key) (keys_of members) → with_member member members ≡ members ++ member ∷ []
with_last member [] h = refl
with_last member (other ∷ others) h = ap (λ b. cond b (other ∷ with_member member others) (member ∷ other ∷ others)) (lt-ltb other.key member.key h.0) ∙ ap (λ rest. other ∷ rest) (with_last member others h.1)

-- the first time after another one is told by the key cells and times alone
placed_again : (member : Member) (members : List Member) (f : Member → Member) → ((member : Member) → (f member).at ≡ member.at) → map f (placed member members) ≡ placed (f member) (map f members)
placed_again member [] f same = refl
placed_again member (other ∷ others) f same =
    by (int_lt other.at member.at) (placed_again member others f same)
    ∙ ap₂ (λ a b. cond (int_lt a b) (f other ∷ placed (f member) (map f others)) (f member ∷ f other ∷ map f others)) (sym (same other)) (sym (same member))
  where
    by : (b : Bool) → map f (placed member others) ≡ placed (f member) (map f others) → map f (cond b (other ∷ placed member others) (member ∷ other ∷ others)) ≡ cond b (f other ∷ placed (f member) (map f others)) (f member ∷ f other ∷ map f others)
    by true rest = ap (λ rest. f other ∷ rest) rest
    by false rest = refl

by_at_again : (members : List Member) (f : Member → Member) → ((member : Member) → (f member).at ≡ member.at) → map f (by_at members) ≡ by_at (map f members)
by_at_again [] f same = refl
by_at_again (member ∷ members) f same = placed_again member (by_at members) f same ∙ ap (placed (f member)) (by_at_again members f same)

module _ (members : List Member) (before : List (Option ℕ)) (numbered : IsNumbered members before) where
  abbrev notes : List Note
  notes = notes_of members before

  mapped : notes ≡ map (note_by before) members
  mapped = notes_mapped [] members before numbered.numbers

  -- the latest note is that of the latest member
  pub noted_is : (cells : List ℤ) (at : ℤ) → note_of cells at notes ≡ option_map (note_by before) (match_of Last cells at members)
  noted_is cells at =
      ap (note_of cells at) mapped
      ∙ ap (latest_by Last (λ (note : Note). note.at)) (filter-map (λ (note : Note). same_cells cells note.cells && int_le note.at at) (note_by before) members)
      ∙ latest-map Last (λ (note : Note). note.at) (note_by before) (filter (λ (member : Member). same_cells cells member.cells && int_le member.at at) members)

  -- whose number is one of theirs
  pub match_within : (cells : List ℤ) (at : ℤ) → IfSome (match_of Last cells at members) (λ (member : Member). member.key < length before)
  match_within cells at =
      latest_every Last (λ (member : Member). member.at) (λ (member : Member). member.key < length before) (filter (λ (member : Member). same_cells cells member.cells && int_le member.at at) members)
      (every-filter (λ (member : Member). member.key < length before) (λ (member : Member). same_cells cells member.cells && int_le member.at at) members
      (every_unmapped (λ key. key < length before) (λ (member : Member). member.key) members (all_below members before numbered)))

  abbrev bare : Member → Member
  bare member = member_of 0 member.cells member.at

  abbrev bare_note : Note → Member
  bare_note note = member_of 0 note.cells note.at

  -- the next note's time is that of the next member
  pub next_noted : (cells : List ℤ) (at : ℤ) → next_after cells at notes ≡ next_time cells at members
  next_noted cells at =
      ap (λ notes. next_time cells at (map bare_note notes)) mapped
      ∙ ap (next_time cells at) (map_map bare_note (note_by before) members)
      ∙ ap (λ members. option_map (λ (member : Member). member.at) (find (λ (member : Member). int_lt at member.at) members))
      (ap by_at (filter-map (λ (member : Member). same_cells cells member.cells) bare members) ∙ sym (by_at_again (filter (λ (member : Member). same_cells cells member.cells) members) bare (λ member. refl)))
      ∙ found_again (group_of cells members)
    where
      found_again : (members : List Member) → option_map (λ (member : Member). member.at) (find (λ (member : Member). int_lt at member.at) (map bare members)) ≡ option_map (λ (member : Member). member.at) (find (λ (member : Member). int_lt at member.at) members)
      found_again [] = refl
      found_again (member ∷ members) = by (int_lt at member.at) (found_again members)
        where
          by : (b : Bool) → option_map (λ (member : Member). member.at) (find (λ (member : Member). int_lt at member.at) (map bare members)) ≡ option_map (λ (member : Member). member.at) (find (λ (member : Member). int_lt at member.at) members)
              → option_map (λ (member : Member). member.at) (cond b (Some (bare member)) (find (λ (member : Member). int_lt at member.at) (map bare members))) ≡ option_map (λ (member : Member). member.at) (cond b (Some member) (find (λ (member : Member). int_lt at member.at) members))
          by true rest = refl
          by false rest = rest

  -- what is noted under a number
  pub noted_there : (number : ℕ) → number < length notes → (member : Member) × ((member_under number members ≡ Some member) × ((slice_get (map (λ (note : Note). note.cells) notes) number ≡ Some member.cells) × (slice_get (map (λ (note : Note). note.at) notes) number ≡ Some member.at)))
  noted_there number h = (
    slice_index_or members number (member_of 0 [] (pos 0)),
    (
      ap (λ k. member_under k members) (plain number) ∙ under_number 0 number (length before) members numbered.numbers (subst (λ n. number < n) (length-notes 0 members before numbered.numbers) h) ∙ here,
      (
        told (λ (note : Note). note.cells) (λ (member : Member). member.cells) (map_map (λ (note : Note). note.cells) (note_by before) members),
        told (λ (note : Note). note.at) (λ (member : Member). member.at) (map_map (λ (note : Note). note.at) (note_by before) members),
      ),
    ),
  )
    where
      plain : (n : ℕ) → n ≡ 0 + n
      plain n = omega arith

      here : slice_get members number ≡ Some (slice_index_or members number (member_of 0 [] (pos 0)))
      here = get_index members number (member_of 0 [] (pos 0)) (subst (λ n. number < n) (ap length mapped ∙ length-map members (note_by before)) h)

      told : {X : Type 0} (f : Note → X) (g : Member → X) → map f (map (note_by before) members) ≡ map g members → slice_get (map f notes) number ≡ Some (g (slice_index_or members number (member_of 0 [] (pos 0))))
      told f g e = ap (λ xs. slice_get xs number) (ap (map f) mapped ∙ e) ∙ slice_get-map g members number ∙ ap (option_map g) here

  pub next_absent : member_under (length before) members ≡ None
  next_absent = none_under (length before) members (among_above (length before) (keys_of members) (all_below members before numbered))

  module _ (cells : List ℤ) (at : ℤ) (noted : Option ℕ) where
    abbrev member : Member
    member = record { key = length before; cells = cells; at = at }

    more_is : with_member member members ≡ members ++ member ∷ []
    more_is = with_last member members (all_below members before numbered)

    notes_last : (members : List Member) (before : List (Option ℕ)) (n : ℕ) → keys_of members ≡ range_with_len n (length before) → notes_of (members ++ member ∷ []) (before ++ noted ∷ []) ≡ notes_of members before ++ (let note : Note = record { cells = cells; at = at; before = noted } in note) ∷ []
    notes_last [] [] n e = refl
    notes_last [] (first ∷ before) n e = some_keys n (range_with_len (n + 1) (length before)) e
    notes_last (other ∷ members) [] n e = no_keys other.key (keys_of members) e
    notes_last (other ∷ members) (first ∷ before) n e = ap (λ rest. (let note : Note = record { cells = other.cells; at = other.at; before = first } in note) ∷ rest) (notes_last members before (n + 1) (ap rest_of e))

    pub next_notes : notes_of (with_member member members) (before ++ noted ∷ []) ≡ notes_of members before ++ (let note : Note = record { cells = cells; at = at; before = noted } in note) ∷ []
    next_notes = ap (λ ms. notes_of ms (before ++ noted ∷ [])) more_is ∙ notes_last members before 0 numbered.numbers

    pub next_numbered : IsNumbered (with_member member members) (before ++ noted ∷ [])
    next_numbered = record {
      numbers =
          ap keys_of more_is ∙ map-append (λ (member : Member). member.key) members (member ∷ [])
          ∙ ap (λ keys. keys ++ length before ∷ []) numbered.numbers
          ∙ ap (λ last. range_with_len 0 (length before) ++ last ∷ []) (let same : length before ≡ 0 + length before = omega arith in same)
          ∙ sym (range_last 0 (length before))
          ∙ ap (range_with_len 0) (sym (length-append before (noted ∷ [])));
    }
