-- A text of a change is of one change.
use Rattle.std.proofs.Common.{◌≡◌, refl, ap, sym, ◌∙◌, subst, Bool, false, cond, ℕ, ◌-◌, ◌*◌, ◌^◌, ◌<◌, arith, List, [], ◌∷◌, ◌++◌, length, map, drop}
use Rattle.std.{specs.Prelude.{ℤ, pos, negsuc, ◌<ℤ◌, codes, filter, flat_map}, specs.Int.Signed.mag, specs.List.AllByRecursion, specs.Fmt.{decimal, signed_decimal}, proofs.lemmas.Bool.cond-false, proofs.lemmas.Fmt.{decimal_injective, signed_decimal_injective}, proofs.lemmas.Int.ints, proofs.lemmas.List.{append-nil, length-map}, proofs.lemmas.List.Elements.filter-append}
use Rattle.tick_model.{proofs.RowLists.keys-rows_under, specs.declared.plan.ColumnSpec.ColumnSpec, specs.declared.table.PlainRow.PlainRow, specs.declared.update.ShiftRange.ShiftRange, specs.Changes.{Change, rows_under, told_keys, is_none, is_empty}, specs.LawfulRuns.AreTexts, specs.Names.same_name, specs.Printable.{IsPrintable, IsShiftRange}, specs.Tables.keys, specs.Texts.{change_records, column_name, columns_record, removed_record, row_record, shift_record, step_record, told_records, records_text}}
use Rattle.key_lists.{specs.Keys.runs, proofs.Every.{every, every-map, every-append}, proofs.Parts.{every_front, every_back}}
use Rattle.update_text.{specs.OneToOne.UpdateTextIsOneToOne, proofs.Apart.names_apart, proofs.Backwards.{AreApart, first_same, rest_same, unmapped, place_same, some_is_none, filter_passed, filter_missed}, proofs.Quoting.records_same, specs.Reading.IsToldRow, proofs.RowsBack.row_same, proofs.RowsUnder.{rows_under-append, cells_under, told_under}, proofs.RunsBack.{runs_same, runs_below}}

abbrev Record : Type 0
Record = List (List ℕ)

-- the first field of a record, and whether it is this tag
abbrev first_field : Record → List ℕ
first_field [] = []
first_field (field ∷ fields) = field

abbrev has_tag : List ℕ → Record → Bool
has_tag tag fields = same_name (first_field fields) tag

abbrev pub rows_added : List ColumnSpec → Change → List PlainRow
rows_added columns change = rows_under (length columns) change.update.added change.cells

abbrev pub rows_modified : List ColumnSpec → Change → List PlainRow
rows_modified columns change = rows_under (length columns) change.update.modified (drop (length columns * length change.update.added) change.cells)

-- the records of each kind
five : (p : Record → Bool) (a b c d e a' b' c' d' e' : List Record) → filter p a ≡ a' → filter p b ≡ b' → filter p c ≡ c' → filter p d ≡ d' → filter p e ≡ e' →
    filter p (a ++ b ++ c ++ d ++ e) ≡ a' ++ b' ++ c' ++ d' ++ e'
five p a b c d e a' b' c' d' e' ea eb ec ed ee =
    filter-append p (a ++ b ++ c ++ d) e
    ∙ ap (λ xs. xs ++ filter p e) (filter-append p (a ++ b ++ c) d ∙ ap (λ xs. xs ++ filter p d) (filter-append p (a ++ b) c ∙ ap (λ xs. xs ++ filter p c) (filter-append p a b)))
    ∙ ap (λ xs. xs ++ filter p b ++ filter p c ++ filter p d ++ filter p e) ea
    ∙ ap (λ xs. a' ++ xs ++ filter p c ++ filter p d ++ filter p e) eb
    ∙ ap (λ xs. a' ++ b' ++ xs ++ filter p d ++ filter p e) ec
    ∙ ap (λ xs. a' ++ b' ++ c' ++ xs ++ filter p e) ed
    ∙ ap (λ xs. a' ++ b' ++ c' ++ d' ++ xs) ee

columns_missed : (tag : List ℕ) (columns : List ColumnSpec) (cs : List ℕ) → same_name (codes "c") tag ≡ false → filter (has_tag tag) (columns_record columns cs) ≡ []
columns_missed tag columns [] h = refl
columns_missed tag columns (c ∷ cs) h = let record_ : Record = codes "c" ∷ map (column_name columns) (c ∷ cs) in ap (λ b. cond b (record_ ∷ []) []) h

columns_passed : (columns : List ColumnSpec) (cs : List ℕ) → filter (has_tag (codes "c")) (columns_record columns cs) ≡ columns_record columns cs
columns_passed columns [] = refl
columns_passed columns (c ∷ cs) = refl

module _ (columns : List ColumnSpec) (texts : List (List ℕ)) where
  abbrev added_row : PlainRow → Record
  added_row = row_record (codes "a") texts columns

  abbrev modified_row : PlainRow → Record
  modified_row = row_record (codes "m") texts columns

  abbrev all_told : Change → List Record
  all_told change =
      map removed_record (runs change.update.removed)
      ++ map shift_record change.update.shifted
      ++ map added_row (rows_added columns change)
      ++ columns_record columns change.update.columns
      ++ map modified_row (rows_modified columns change)

  removed_told : (change : Change) → filter (has_tag (codes "r")) (all_told change) ≡ map removed_record (runs change.update.removed)
  removed_told change =
      let tag = has_tag (codes "r") in
      let removed = map removed_record (runs change.update.removed) in
      five tag removed (map shift_record change.update.shifted) (map added_row (rows_added columns change)) (columns_record columns change.update.columns) (map modified_row (rows_modified columns change))
      removed [] [] [] []
      (filter_passed tag removed_record (runs change.update.removed) (λ x. refl)) (filter_missed tag shift_record change.update.shifted (λ x. refl)) (filter_missed tag added_row (rows_added columns change) (λ x. refl)) (columns_missed (codes "r") columns change.update.columns refl) (filter_missed tag modified_row (rows_modified columns change) (λ x. refl))
      ∙ append-nil _ ∙ append-nil _ ∙ append-nil _ ∙ append-nil _

  shifts_told : (change : Change) → filter (has_tag (codes "s")) (all_told change) ≡ map shift_record change.update.shifted
  shifts_told change =
      let tag = has_tag (codes "s") in
      let shifts = map shift_record change.update.shifted in
      five tag (map removed_record (runs change.update.removed)) shifts (map added_row (rows_added columns change)) (columns_record columns change.update.columns) (map modified_row (rows_modified columns change))
      [] shifts [] [] []
      (filter_missed tag removed_record (runs change.update.removed) (λ x. refl)) (filter_passed tag shift_record change.update.shifted (λ x. refl)) (filter_missed tag added_row (rows_added columns change) (λ x. refl)) (columns_missed (codes "s") columns change.update.columns refl) (filter_missed tag modified_row (rows_modified columns change) (λ x. refl))
      ∙ append-nil _ ∙ append-nil _ ∙ append-nil _

  added_told : (change : Change) → filter (has_tag (codes "a")) (all_told change) ≡ map added_row (rows_added columns change)
  added_told change =
      let tag = has_tag (codes "a") in
      let added = map added_row (rows_added columns change) in
      five tag (map removed_record (runs change.update.removed)) (map shift_record change.update.shifted) added (columns_record columns change.update.columns) (map modified_row (rows_modified columns change))
      [] [] added [] []
      (filter_missed tag removed_record (runs change.update.removed) (λ x. refl)) (filter_missed tag shift_record change.update.shifted (λ x. refl)) (filter_passed tag added_row (rows_added columns change) (λ x. refl)) (columns_missed (codes "a") columns change.update.columns refl) (filter_missed tag modified_row (rows_modified columns change) (λ x. refl))
      ∙ append-nil _ ∙ append-nil _

  columns_told : (change : Change) → filter (has_tag (codes "c")) (all_told change) ≡ columns_record columns change.update.columns
  columns_told change =
      let tag = has_tag (codes "c") in
      five tag (map removed_record (runs change.update.removed)) (map shift_record change.update.shifted) (map added_row (rows_added columns change)) (columns_record columns change.update.columns) (map modified_row (rows_modified columns change))
      [] [] [] (columns_record columns change.update.columns) []
      (filter_missed tag removed_record (runs change.update.removed) (λ x. refl)) (filter_missed tag shift_record change.update.shifted (λ x. refl)) (filter_missed tag added_row (rows_added columns change) (λ x. refl)) (columns_passed columns change.update.columns) (filter_missed tag modified_row (rows_modified columns change) (λ x. refl))
      ∙ append-nil _

  modified_told : (change : Change) → filter (has_tag (codes "m")) (all_told change) ≡ map modified_row (rows_modified columns change)
  modified_told change =
      let tag = has_tag (codes "m") in
      let modified = map modified_row (rows_modified columns change) in
      five tag (map removed_record (runs change.update.removed)) (map shift_record change.update.shifted) (map added_row (rows_added columns change)) (columns_record columns change.update.columns) modified
      [] [] [] [] modified
      (filter_missed tag removed_record (runs change.update.removed) (λ x. refl)) (filter_missed tag shift_record change.update.shifted (λ x. refl)) (filter_missed tag added_row (rows_added columns change) (λ x. refl)) (columns_missed (codes "m") columns change.update.columns refl) (filter_passed tag modified_row (rows_modified columns change) (λ x. refl))

-- the records of runs and of shifts
run_same : (x y : ℕ × ℕ) → (x.0 < 2 ^ 62) × (x.1 < 2 ^ 62) → (y.0 < 2 ^ 62) × (y.1 < 2 ^ 62) → removed_record x ≡ removed_record y → x ≡ y
run_same x y p q e =
    let numbers = rest_same (codes "r") (codes "r") (decimal x.0 ∷ decimal x.1 ∷ []) (decimal y.0 ∷ decimal y.1 ∷ []) e in
    let first = decimal_injective x.0 y.0 (omega (arith, p.0)) (omega (arith, q.0)) (first_same (decimal x.0) (decimal y.0) (decimal x.1 ∷ []) (decimal y.1 ∷ []) numbers) in
    let last = decimal_injective x.1 y.1 (omega (arith, p.1)) (omega (arith, q.1)) (first_same (decimal x.1) (decimal y.1) [] [] (rest_same (decimal x.0) (decimal y.0) (decimal x.1 ∷ []) (decimal y.1 ∷ []) numbers)) in
    ap (λ a. let run : ℕ × ℕ = (a, x.1) in run) first ∙ ap (λ b. let run : ℕ × ℕ = (y.0, b) in run) last

pub delta_bounded : (z : ℤ) → z <ℤ pos (2 ^ 62) → negsuc (2 ^ 62 - 1) <ℤ z → mag z < 2 ^ 63
delta_bounded (pos n) up down = omega (arith, ints)
delta_bounded (negsuc n) up down = omega (arith, ints)

shift_same : (x y : ShiftRange) → IsShiftRange (2 ^ 62) x → IsShiftRange (2 ^ 62) y → shift_record x ≡ shift_record y → x ≡ y
shift_same x y p q e =
    let tail_of = λ (range : ShiftRange). let fields : Record = decimal range.end ∷ signed_decimal range.delta ∷ [] in fields in
    let numbers = rest_same (codes "s") (codes "s") (decimal x.begin ∷ tail_of x) (decimal y.begin ∷ tail_of y) e in
    let begin = decimal_injective x.begin y.begin (omega (arith, p.begin)) (omega (arith, q.begin)) (first_same (decimal x.begin) (decimal y.begin) (tail_of x) (tail_of y) numbers) in
    let more = rest_same (decimal x.begin) (decimal y.begin) (tail_of x) (tail_of y) numbers in
    let end = decimal_injective x.end y.end (omega (arith, p.end)) (omega (arith, q.end)) (first_same (decimal x.end) (decimal y.end) (signed_decimal x.delta ∷ []) (signed_decimal y.delta ∷ []) more) in
    let delta = signed_decimal_injective x.delta y.delta (delta_bounded x.delta p.up p.down) (delta_bounded y.delta q.up q.down)
    (first_same (signed_decimal x.delta) (signed_decimal y.delta) [] [] (rest_same (decimal x.end) (decimal y.end) (signed_decimal x.delta ∷ []) (signed_decimal y.delta ∷ []) more)) in
    ap (λ n. let range : ShiftRange = record { begin = n; end = x.end; delta = x.delta } in range) begin
    ∙ ap (λ n. let range : ShiftRange = record { begin = y.begin; end = n; delta = x.delta } in range) end
    ∙ ap (λ z. let range : ShiftRange = record { begin = y.begin; end = y.end; delta = z } in range) delta

-- the record of modified columns
columns_same : (columns : List ColumnSpec) (cs ds : List ℕ) → AreApart (map (λ spec. spec.name) columns) →
    AllByRecursion (λ column. column < length columns) cs → AllByRecursion (λ column. column < length columns) ds → columns_record columns cs ≡ columns_record columns ds → cs ≡ ds
columns_same columns [] [] h p q e = refl
columns_same columns [] (d ∷ ds) h p q e = absurd (some_is_none (codes "c" ∷ map (column_name columns) (d ∷ ds)) [] (sym e))
columns_same columns (c ∷ cs) [] h p q e = absurd (some_is_none (codes "c" ∷ map (column_name columns) (c ∷ cs)) [] e)
columns_same columns (c ∷ cs) (d ∷ ds) h p q e =
    let fields = first_same (codes "c" ∷ map (column_name columns) (c ∷ cs)) (codes "c" ∷ map (column_name columns) (d ∷ ds)) [] [] e in
    unmapped (column_name columns) (λ column. column < length columns)
    (λ x y less more same. place_same (map (λ spec. spec.name) columns) x y [] h (omega (arith, less, length-map columns (λ spec. spec.name))) (omega (arith, more, length-map columns (λ spec. spec.name))) same)
    (c ∷ cs) (d ∷ ds) p q
    (rest_same (codes "c") (codes "c") (map (column_name columns) (c ∷ cs)) (map (column_name columns) (d ∷ ds)) fields)

-- the rows that a printable change tells
pub rows_told_all : (columns : List ColumnSpec) (texts : List (List ℕ)) (change : Change) → IsPrintable columns texts change → AllByRecursion (IsToldRow columns texts) (rows_added columns change ++ rows_modified columns change)
rows_told_all columns texts change p =
    subst (AllByRecursion (IsToldRow columns texts)) (rows_under-append (length columns) change.update.added change.update.modified change.cells)
    (told_under columns texts (length columns) (told_keys change.update) change.cells (every_back (λ key. key < 2 ^ 62) change.update.removed (told_keys change.update) p.keys) p.numbers p.cells)

pub cells_told : (columns : List ColumnSpec) (texts : List (List ℕ)) (change : Change) → IsPrintable columns texts change → change.cells ≡ flat_map (λ row. row.cells) (rows_added columns change ++ rows_modified columns change)
cells_told columns texts change p =
    sym (cells_under (length columns) (told_keys change.update) change.cells p.whole)
    ∙ ap (flat_map (λ row. row.cells)) (rows_under-append (length columns) change.update.added change.update.modified change.cells)

abbrev change_from : List ℕ → List ℕ → List ℕ → List ShiftRange → List ℕ → List ℤ → Change
change_from removed added modified shifted cs cells =
    record { update = record { removed = removed; added = added; modified = modified; shifted = shifted; columns = cs }; cells = cells }

-- the records after the first tell the change
pub told_same : (columns : List ColumnSpec) (texts : List (List ℕ)) (change other : Change) → AreApart (map (λ spec. spec.name) columns) → AreTexts texts →
    IsPrintable columns texts change → IsPrintable columns texts other → all_told columns texts change ≡ all_told columns texts other → change ≡ other
told_same columns texts change other names h p q e =
    let Rows = AllByRecursion (IsToldRow columns texts) in
    let mine = rows_told_all columns texts change p in
    let its = rows_told_all columns texts other q in
    let same_runs = unmapped removed_record (λ (run : ℕ × ℕ). (run.0 < 2 ^ 62) × (run.1 < 2 ^ 62)) run_same (runs change.update.removed) (runs other.update.removed)
    (runs_below (2 ^ 62) change.update.removed (every_front (λ key. key < 2 ^ 62) change.update.removed (told_keys change.update) p.keys))
    (runs_below (2 ^ 62) other.update.removed (every_front (λ key. key < 2 ^ 62) other.update.removed (told_keys other.update) q.keys))
    (sym (removed_told columns texts change) ∙ ap (filter (has_tag (codes "r"))) e ∙ removed_told columns texts other) in
    let removed = runs_same change.update.removed other.update.removed same_runs in
    let shifted = unmapped shift_record (IsShiftRange (2 ^ 62)) shift_same change.update.shifted other.update.shifted p.ranges q.ranges
    (sym (shifts_told columns texts change) ∙ ap (filter (has_tag (codes "s"))) e ∙ shifts_told columns texts other) in
    let added_rows = unmapped (added_row columns texts) (IsToldRow columns texts) (row_same (codes "a") texts columns h) (rows_added columns change) (rows_added columns other)
    (every_front (IsToldRow columns texts) (rows_added columns change) (rows_modified columns change) mine) (every_front (IsToldRow columns texts) (rows_added columns other) (rows_modified columns other) its)
    (sym (added_told columns texts change) ∙ ap (filter (has_tag (codes "a"))) e ∙ added_told columns texts other) in
    let modified_rows = unmapped (modified_row columns texts) (IsToldRow columns texts) (row_same (codes "m") texts columns h) (rows_modified columns change) (rows_modified columns other)
    (every_back (IsToldRow columns texts) (rows_added columns change) (rows_modified columns change) mine) (every_back (IsToldRow columns texts) (rows_added columns other) (rows_modified columns other) its)
    (sym (modified_told columns texts change) ∙ ap (filter (has_tag (codes "m"))) e ∙ modified_told columns texts other) in
    let added : change.update.added ≡ other.update.added =
    sym (keys-rows_under (length columns) change.update.added change.cells) ∙ ap keys added_rows ∙ keys-rows_under (length columns) other.update.added other.cells in
    let modified : change.update.modified ≡ other.update.modified =
    sym (keys-rows_under (length columns) change.update.modified (drop (length columns * length change.update.added) change.cells)) ∙ ap keys modified_rows
    ∙ keys-rows_under (length columns) other.update.modified (drop (length columns * length other.update.added) other.cells) in
    let which = columns_same columns change.update.columns other.update.columns names p.columns_there q.columns_there
    (sym (columns_told columns texts change) ∙ ap (filter (has_tag (codes "c"))) e ∙ columns_told columns texts other) in
    let cells : change.cells ≡ other.cells =
    cells_told columns texts change p
    ∙ ap (λ rows. flat_map (λ row. row.cells) (rows ++ rows_modified columns change)) added_rows
    ∙ ap (λ rows. flat_map (λ row. row.cells) (rows_added columns other ++ rows)) modified_rows
    ∙ sym (cells_told columns texts other q) in
    ap (λ x. change_from x change.update.added change.update.modified change.update.shifted change.update.columns change.cells) removed
    ∙ ap (λ x. change_from other.update.removed x change.update.modified change.update.shifted change.update.columns change.cells) added
    ∙ ap (λ x. change_from other.update.removed other.update.added x change.update.shifted change.update.columns change.cells) modified
    ∙ ap (λ x. change_from other.update.removed other.update.added other.update.modified x change.update.columns change.cells) shifted
    ∙ ap (λ x. change_from other.update.removed other.update.added other.update.modified other.update.shifted x change.cells) which
    ∙ ap (λ x. change_from other.update.removed other.update.added other.update.modified other.update.shifted other.update.columns x) cells

-- each record has some fields
some_records : {X : Type 0} (f : X → Record) (xs : List X) → ((x : X) → is_none (f x) ≡ false) → AllByRecursion (λ fields. is_none fields ≡ false) (map f xs)
some_records f xs h = every-map (λ fields. is_none fields ≡ false) f xs (every (λ x. is_none (f x) ≡ false) xs h)

some_columns : (columns : List ColumnSpec) (cs : List ℕ) → AllByRecursion (λ fields. is_none fields ≡ false) (columns_record columns cs)
some_columns columns [] = tt
some_columns columns (c ∷ cs) = (refl, tt)

some_told : (columns : List ColumnSpec) (texts : List (List ℕ)) (change : Change) → AllByRecursion (λ fields. is_none fields ≡ false) (all_told columns texts change)
some_told columns texts change =
    let IsSome = λ (fields : Record). is_none fields ≡ false in
    let removed = map removed_record (runs change.update.removed) in
    let shifts = map shift_record change.update.shifted in
    let added = map (added_row columns texts) (rows_added columns change) in
    let which = columns_record columns change.update.columns in
    let modified = map (modified_row columns texts) (rows_modified columns change) in
    every-append IsSome (removed ++ shifts ++ added ++ which) modified
    (every-append IsSome (removed ++ shifts ++ added) which
    (every-append IsSome (removed ++ shifts) added
    (every-append IsSome removed shifts (some_records removed_record (runs change.update.removed) (λ x. refl)) (some_records shift_record change.update.shifted (λ x. refl)))
    (some_records (added_row columns texts) (rows_added columns change) (λ x. refl)))
    (some_columns columns change.update.columns))
    (some_records (modified_row columns texts) (rows_modified columns change) (λ x. refl))

-- the first record tells the step and the name
step_same : (step other : ℕ) (name name' : List ℕ) → step < 2 ^ 64 → other < 2 ^ 64 → step_record step name ≡ step_record other name' → (step ≡ other) × (name ≡ name')
step_same step other name name' less more e =
    let fields = rest_same (codes "step") (codes "step") (decimal step ∷ name ∷ []) (decimal other ∷ name' ∷ []) e in (
      decimal_injective step other less more (first_same (decimal step) (decimal other) (name ∷ []) (name' ∷ []) fields),
      first_same name name' [] [] (rest_same (decimal step) (decimal other) (name ∷ []) (name' ∷ []) fields),
    )

records_of : (step : ℕ) (name : List ℕ) (columns : List ColumnSpec) (texts : List (List ℕ)) (change : Change) → is_empty change.update ≡ false →
    change_records step name columns texts change ≡ step_record step name ∷ all_told columns texts change
records_of step name columns texts change some = cond-false (is_empty change.update) [] (told_records step name columns texts change) some

-- a text is of one change at one step under one name
pub text_same : UpdateTextIsOneToOne
text_same columns texts step other_step name other_name change other can mine its e =
    let first = records_of step name columns texts change mine.some in
    let second = records_of other_step other_name columns texts other its.some in
    let records = records_same (step_record step name ∷ all_told columns texts change) (step_record other_step other_name ∷ all_told columns texts other)
    (refl, some_told columns texts change) (refl, some_told columns texts other) (ap records_text (sym first) ∙ e ∙ ap records_text second) in
    let head = step_same step other_step name other_name mine.within its.within (first_same (step_record step name) (step_record other_step other_name) (all_told columns texts change) (all_told columns texts other) records) in (
      head.0,
      head.1,
      told_same columns texts change other (names_apart (map (λ spec. spec.name) columns) can.distinct) can.rising mine.printable its.printable
          (rest_same (step_record step name) (step_record other_step other_name) (all_told columns texts change) (all_told columns texts other) records),
    )
