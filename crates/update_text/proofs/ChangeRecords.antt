-- The records of a change, part by part.
use Rattle.std.proofs.Common.{◌≡◌, refl, ap, sym, ◌∙◌, Bool, true, false, cond, ◌||◌, ℕ, zero, suc, ◌+◌, ◌-◌, ◌*◌, ◌<◌, ◌≤◌, arith, List, [], ◌∷◌, ◌++◌, length, map, drop, get_or, append_assoc, length-append, eq-eqb, ne_eqb, inl, inr}
use Rattle.std.{specs.Prelude.{ℤ, codes, filter, flat_map, ◌==◌}, specs.List.{AllByRecursion, range_with_len}, proofs.lemmas.Bool.{cases_eq, cond-false}, proofs.lemmas.Grind.flat_map-append, proofs.lemmas.List.{get_or-map, length-map}}
use Rattle.key_lists.{specs.Keys.{is_among, IsRising, run_with, runs}, proofs.Every.{every_weaker, map_map}, proofs.Rising.as_filter}
use Rattle.row_set.{specs.declared.ranges.Range.Range, specs.Ranges.{preceded, ranges_of}, proofs.Held.range_rises, proofs.Middles.span}
use Rattle.tick_model.{specs.declared.plan.ColumnSpec.ColumnSpec, specs.Changes.{Change, is_empty, is_none, rows_under}, specs.Texts.{change_records, column_name, columns_record, comma_before, records_text, removed_record, row_record, shift_record, step_record}}
use Rattle.update_text.specs.Told.{parts_shown, range_record, records_of}

abbrev Record : Type 0
Record = List (List ℕ)

-- the longest ranges of keys are their longest runs
abbrev ends_of : Range → ℕ × ℕ
ends_of range = (range.first, range.last)

preceded_ends : (key : ℕ) (ranges : List Range) → map ends_of (preceded key ranges) ≡ run_with key (map ends_of ranges)
preceded_ends key [] = refl
preceded_ends key (range ∷ ranges) =
    let chosen = λ (b : Bool). cond b (span key range.last ∷ ranges) (span key key ∷ range ∷ ranges) in
    let run = λ (b : Bool). let ends : List (ℕ × ℕ) = cond b ((key, range.last) ∷ map ends_of ranges) ((key, key) ∷ map ends_of (range ∷ ranges)) in ends in
    elim (cases_eq (key + 1) range.first) [
      | inl touch ↦ ap (λ b. map ends_of (chosen b)) (eq-eqb (key + 1) range.first touch) ∙ sym (ap run (eq-eqb range.first (key + 1) (sym touch)))
      | inr gap ↦ ap (λ b. map ends_of (chosen b)) (ne_eqb (key + 1) range.first gap) ∙ sym (ap run (ne_eqb range.first (key + 1) (λ e. gap (sym e))))
    ]

ends_of_ranges : (keys : List ℕ) → map ends_of (ranges_of keys) ≡ runs keys
ends_of_ranges [] = refl
ends_of_ranges (key ∷ keys) = preceded_ends key (ranges_of keys) ∙ ap (run_with key) (ends_of_ranges keys)

pub range_records : (keys : List ℕ) → map range_record (ranges_of keys) ≡ map removed_record (runs keys)
range_records keys = sym (map_map removed_record ends_of (ranges_of keys)) ∙ ap (map removed_record) (ends_of_ranges keys)

pub length-ranges : (keys : List ℕ) → length (ranges_of keys) ≡ length (runs keys)
length-ranges keys = sym (length-map (ranges_of keys) ends_of) ∙ ap length (ends_of_ranges keys)

-- the texts of five lists of records, one after the other
pub five_texts : (text : List ℕ) (a b c d e : List Record) →
    ((((text ++ records_text a) ++ records_text b) ++ records_text c) ++ records_text d) ++ records_text e ≡ text ++ records_text (a ++ b ++ c ++ d ++ e)
five_texts text a b c d e =
    sym (
    ap (λ more. text ++ more) (records_more (a ++ b ++ c ++ d) e ∙ ap (λ more. more ++ records_text e) (records_more (a ++ b ++ c) d ∙ ap (λ more. more ++ records_text d) (records_more (a ++ b) c ∙ ap (λ more. more ++ records_text c) (records_more a b))))
    ∙ sym (append_assoc text (((records_text a ++ records_text b) ++ records_text c) ++ records_text d) (records_text e))
    ∙ ap (λ more. more ++ records_text e) (sym (append_assoc text ((records_text a ++ records_text b) ++ records_text c) (records_text d))
    ∙ ap (λ more. more ++ records_text d) (sym (append_assoc text (records_text a ++ records_text b) (records_text c))
    ∙ ap (λ more. more ++ records_text c) (sym (append_assoc text (records_text a) (records_text b)))))
    )
  where
    records_more : (xs ys : List Record) → records_text (xs ++ ys) ≡ records_text xs ++ records_text ys
    records_more xs ys = flat_map-append _ xs ys

-- a change that is not empty: its first record, and the others
pub first_and_parts : (step : ℕ) (name : List ℕ) (columns : List ColumnSpec) (texts : List (List ℕ)) (change : Change) → is_empty change.update ≡ false →
    change_records step name columns texts change ≡ step_record step name ∷ parts_shown columns texts change
first_and_parts step name columns texts change some = cond-false (is_empty change.update) [] (step_record step name ∷ parts_shown columns texts change) some

-- how many records there are
length-rows_under : (width : ℕ) (ks : List ℕ) (cells : List ℤ) → length (rows_under width ks cells) ≡ length ks
length-rows_under width [] cells = refl
length-rows_under width (k ∷ ks) cells = ap suc (length-rows_under width ks (drop width cells))

length-columns : (columns : List ColumnSpec) (cs : List ℕ) → length (columns_record columns cs) ≡ cond (is_none cs) 0 1
length-columns columns [] = refl
length-columns columns (c ∷ cs) = refl

pub length-parts : (columns : List ColumnSpec) (texts : List (List ℕ)) (change : Change) → 1 + length (parts_shown columns texts change) ≡ records_of change.update
length-parts columns texts change =
    let update = change.update in
    let width = length columns in
    let removed = map removed_record (runs update.removed) in
    let shifts = map shift_record update.shifted in
    let added = map (row_record (codes "a") texts columns) (rows_under width update.added change.cells) in
    let which = columns_record columns update.columns in
    let modified = map (row_record (codes "m") texts columns) (rows_under width update.modified (drop (width * length update.added) change.cells)) in
    omega (
      arith,
      length-append (removed ++ shifts ++ added ++ which) modified,
      length-append (removed ++ shifts ++ added) which,
      length-append (removed ++ shifts) added,
      length-append removed shifts,
      length-map (runs update.removed) removed_record,
      length-map update.shifted shift_record,
      length-map (rows_under width update.added change.cells) (row_record (codes "a") texts columns),
      length-map (rows_under width update.modified (drop (width * length update.added) change.cells)) (row_record (codes "m") texts columns),
      length-rows_under width update.added change.cells,
      length-rows_under width update.modified (drop (width * length update.added) change.cells),
      length-columns columns update.columns,
    )

-- the names of chosen columns, from a place on
abbrev pub chosen_from : List ℕ → ℕ → ℕ → List ℕ
chosen_from chosen place end = filter (λ column. is_among column chosen) (range_with_len place (end - place))

among_range : (first count key : ℕ) → first ≤ key → key < first + count → is_among key (range_with_len first count) ≡ true
among_range first zero key low high = absurd (omega arith)
among_range first (suc count) key low high =
    (elim (cases_eq first key) as (λ _. ((first == key) || is_among key (range_with_len (first + 1) count)) ≡ true) [
      | inl same ↦ ap (λ b. b || is_among key (range_with_len (first + 1) count)) (eq-eqb first key same)
      | inr other ↦ ap (λ b. b || is_among key (range_with_len (first + 1) count)) (ne_eqb first key other) ∙ among_range (first + 1) count key (omega (arith, other)) (omega arith)
    ])

pub chosen_all : (chosen : List ℕ) (end : ℕ) → IsRising chosen → AllByRecursion (λ column. column < end) chosen → chosen_from chosen 0 end ≡ chosen
chosen_all chosen end rising below =
    as_filter chosen (range_with_len 0 (end - 0)) rising (range_rises 0 (end - 0))
    (every_weaker (λ column. column < end) (λ column. is_among column (range_with_len 0 (end - 0)) ≡ true) chosen (λ column h. among_range 0 (end - 0) column (omega arith) (omega (arith, h))) below)

pub chosen_next : (columns : List ColumnSpec) (chosen : List ℕ) (place : ℕ) (name text : List ℕ) (is_chosen : Bool) → place < length columns →
    is_chosen ≡ is_among place chosen → name ≡ column_name columns place →
    (text ++ cond is_chosen (comma_before name) []) ++ flat_map comma_before (map (column_name columns) (chosen_from chosen (place + 1) (length columns)))
    ≡ text ++ flat_map comma_before (map (column_name columns) (chosen_from chosen place (length columns)))
chosen_next columns chosen place name text is_chosen less said named =
    let others = chosen_from chosen (place + 1) (length columns) in
    let told = λ (ks : List ℕ). flat_map comma_before (map (column_name columns) ks) in
    let more : length columns - place ≡ suc (length columns - (place + 1)) = omega arith in
    append_assoc text (cond is_chosen (comma_before name) []) (told others)
    ∙ ap (λ rest. text ++ rest) (
    ap (λ b. cond b (comma_before name) [] ++ told others) said
    ∙ ap (λ bytes. cond (is_among place chosen) (comma_before bytes) [] ++ told others) named
    ∙ joined (is_among place chosen) others
    ∙ ap (λ n. told (filter (λ column. is_among column chosen) (range_with_len place n))) (sym more)
    )
  where
    joined : (b : Bool) (others : List ℕ) → cond b (comma_before (column_name columns place)) [] ++ flat_map comma_before (map (column_name columns) others) ≡ flat_map comma_before (map (column_name columns) (cond b (place ∷ others) others))
    joined true others = refl
    joined false others = refl

pub column_named : (columns : List ColumnSpec) (place : ℕ) (column : ColumnSpec) → place < length columns → column ≡ get_or columns place column → column.name ≡ column_name columns place
column_named columns place column less same =
    ap (λ (spec : ColumnSpec). spec.name) same ∙ sym (get_or-map (λ (spec : ColumnSpec). spec.name) columns place column [] less)
