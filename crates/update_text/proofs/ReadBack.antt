-- A change, read back from the records of its parts.
use Rattle.std.proofs.Common.{◌≡◌, refl, ap, sym, ◌∙◌, subst, Bool, true, false, cond, ℕ, ◌+◌, ◌*◌, ◌^◌, ◌<◌, ◌≤◌, arith, List, [], ◌∷◌, ◌++◌, length, length-append, drop, map, append_assoc, ne_eqb}
use Rattle.std.{specs.Prelude.{ℤ, codes, flat_map, FitsSigned, ◌==◌, Result, Ok, Err, IfOk, OnOk}, specs.Int.w64, specs.List.AllByRecursion, proofs.lemmas.Grind.flat_map-append, proofs.lemmas.List.{append-nil, map-append}}
use Rattle.tick_laws.proofs.LawfulSources.{length-fit_columns}
use Rattle.tick_model.{proofs.RowLists.keys-rows_under, specs.declared.plan.ColumnSpec.ColumnSpec, specs.declared.table.PlainRow.PlainRow, specs.declared.update.ShiftRange.ShiftRange, specs.Changes.{Change, is_empty, is_none, rows_under, told_keys}, specs.Printable.{IsPrintable, IsShiftRange, fit_columns}, specs.Tables.keys, specs.Texts.{column_name, columns_record, record_text, records_text, removed_record, row_record, shift_record, step_record}}
use Rattle.key_lists.{specs.Keys.{IsRising, is_among, runs}, proofs.Every.{every_both, every_weaker, every-append, filter_none}, proofs.Parts.{every_front, every_back}}
use Rattle.row_set.specs.Sets.{IsKeySet, common}
use Rattle.shift_data.specs.ShiftLists.{IsShiftList}
use Rattle.update_text.{specs.declared.printed.PrintedFault.PrintedFault, specs.OneToOne.change_text, specs.Reading.{AreAhead, AreTold, IsConsistent, IsToldRow, cells_of, has_tag, is_run, run_keys}, specs.Told.parts_shown, proofs.AddedRows.rows_under-keys, proofs.Backwards.some_is_none, proofs.ChangeRecords.{five_texts, first_and_parts}, proofs.ChangesBack.{rows_added, rows_modified, rows_told_all, cells_told}, proofs.ReadRows.none_from_test, proofs.RunsBack.{keys_of-runs, runs_below, runs_ordered}}

-- records of another tag
no_tag : {X : Type 0} (tag : ℕ) (record_of : X → List (List ℕ)) (xs : List X) (rest : List ℕ) → ((x : X) (u : List ℕ) → has_tag tag (record_text (record_of x) ++ u) ≡ false) → has_tag tag rest ≡ false →
    has_tag tag (records_text (map record_of xs) ++ rest) ≡ false
no_tag tag record_of [] rest other h = h
no_tag tag record_of (x ∷ xs) rest other h =
    ap (has_tag tag) (append_assoc (record_text (record_of x)) (records_text (map record_of xs)) rest) ∙ other x (records_text (map record_of xs) ++ rest)

module _ (columns : List ColumnSpec) (texts : List (List ℕ)) (change : Change) where
  -- what stands behind the modified columns, the added rows, the shifts and the removed keys
  abbrev pub behind_columns : List ℕ
  behind_columns = records_text (map (row_record (109 ∷ []) texts columns) (rows_modified columns change)) ++ []

  abbrev pub behind_added : List ℕ
  behind_added = records_text (columns_record columns change.update.columns) ++ behind_columns

  abbrev pub behind_shifts : List ℕ
  behind_shifts = records_text (map (row_record (97 ∷ []) texts columns) (rows_added columns change)) ++ behind_added

  abbrev pub behind_removed : List ℕ
  behind_removed = records_text (map shift_record change.update.shifted) ++ behind_shifts

  parts_text : records_text (parts_shown columns texts change) ≡ records_text (map removed_record (runs change.update.removed)) ++ behind_removed
  parts_text =
      let a = records_text (map removed_record (runs change.update.removed)) in
      let b = records_text (map shift_record change.update.shifted) in
      let c = records_text (map (row_record (codes "a") texts columns) (rows_added columns change)) in
      let d = records_text (columns_record columns change.update.columns) in
      let e = records_text (map (row_record (codes "m") texts columns) (rows_modified columns change)) in
      sym (five_texts [] (map removed_record (runs change.update.removed)) (map shift_record change.update.shifted) (map (row_record (codes "a") texts columns) (rows_added columns change)) (columns_record columns change.update.columns) (map (row_record (codes "m") texts columns) (rows_modified columns change)))
      ∙ append_assoc ((a ++ b) ++ c) d e
      ∙ append_assoc (a ++ b) c (d ++ e)
      ∙ append_assoc a b (c ++ (d ++ e))
      ∙ ap (λ (end : List ℕ). a ++ (b ++ (c ++ (d ++ end)))) (sym (append-nil e))

  no_columns_tag : (tag : ℕ) (rest : List ℕ) → ((cs : List ℕ) (c : ℕ) (u : List ℕ) → has_tag tag (record_text (codes "c" ∷ map (column_name columns) (c ∷ cs)) ++ u) ≡ false) → has_tag tag rest ≡ false →
      (cs : List ℕ) → has_tag tag (records_text (columns_record columns cs) ++ rest) ≡ false
  no_columns_tag tag rest other h [] = h
  no_columns_tag tag rest other h (c ∷ cs) =
      ap (λ (text : List ℕ). has_tag tag (text ++ rest)) (append-nil (record_text (codes "c" ∷ map (column_name columns) (c ∷ cs)))) ∙ other cs c rest

  pub columns_end : has_tag 99 behind_columns ≡ false
  columns_end = no_tag 99 (row_record (109 ∷ []) texts columns) (rows_modified columns change) [] (λ x u. refl) refl

  added_ends : has_tag 97 behind_added ≡ false
  added_ends = no_columns_tag 97 behind_columns (λ cs c u. refl) (no_tag 97 (row_record (109 ∷ []) texts columns) (rows_modified columns change) [] (λ x u. refl) refl) change.update.columns

  shifts_end : has_tag 115 behind_shifts ≡ false
  shifts_end =
      no_tag 115 (row_record (97 ∷ []) texts columns) (rows_added columns change) behind_added (λ x u. refl)
      (no_columns_tag 115 behind_columns (λ cs c u. refl) (no_tag 115 (row_record (109 ∷ []) texts columns) (rows_modified columns change) [] (λ x u. refl) refl) change.update.columns)

  removed_ends : has_tag 114 behind_removed ≡ false
  removed_ends =
      no_tag 114 shift_record change.update.shifted behind_shifts (λ x u. refl)
      (no_tag 114 (row_record (97 ∷ []) texts columns) (rows_added columns change) behind_added (λ x u. refl)
      (no_columns_tag 114 behind_columns (λ cs c u. refl) (no_tag 114 (row_record (109 ∷ []) texts columns) (rows_modified columns change) [] (λ x u. refl) refl) change.update.columns))

  -- what each part is to read
  pub removed_ahead : (bytes : List ℕ) → IsPrintable columns texts change → bytes ≡ records_text (parts_shown columns texts change) → AreAhead removed_record is_run 114 (runs change.update.removed) behind_removed bytes
  removed_ahead bytes p e =
      let removed = change.update.removed in record {
        fit =
            every_both (λ (run : ℕ × ℕ). run.0 ≤ run.1) (λ (run : ℕ × ℕ). (run.0 < 2 ^ 62) × (run.1 < 2 ^ 62)) is_run (runs removed) (λ run order small. (order, small.1)) (runs_ordered removed)
            (runs_below (2 ^ 62) removed (every_front (λ key. key < 2 ^ 62) removed (told_keys change.update) p.keys));
        told = e ∙ parts_text;
        ends = removed_ends;
      }

  pub removed_rise : IsPrintable columns texts change → IsRising (flat_map run_keys (runs change.update.removed))
  removed_rise p = subst IsRising (sym (keys_of-runs change.update.removed)) p.removed

  pub removed_same : flat_map run_keys (runs change.update.removed) ≡ change.update.removed
  removed_same = keys_of-runs change.update.removed

  pub shifts_ahead : (bytes : List ℕ) → IsPrintable columns texts change → bytes ≡ behind_removed → AreAhead shift_record (IsShiftRange (2 ^ 62)) 115 change.update.shifted behind_shifts bytes
  shifts_ahead bytes p e = record { fit = p.ranges; told = e; ends = shifts_end }

  pub added_ahead : (bytes : List ℕ) → IsPrintable columns texts change → bytes ≡ behind_shifts → AreAhead (row_record (97 ∷ []) texts columns) (IsToldRow columns texts) 97 (rows_added columns change) behind_added bytes
  added_ahead bytes p e = record { fit = every_front (IsToldRow columns texts) (rows_added columns change) (rows_modified columns change) (rows_told_all columns texts change p); told = e; ends = added_ends }

  pub added_keys : keys (rows_added columns change) ≡ change.update.added
  added_keys = keys-rows_under (length columns) change.update.added change.cells

  pub added_rise : IsPrintable columns texts change → IsRising (keys (rows_added columns change))
  added_rise p = subst IsRising (sym added_keys) p.added

  pub modified_ahead : (bytes : List ℕ) → IsPrintable columns texts change → bytes ≡ behind_columns → AreAhead (row_record (109 ∷ []) texts columns) (IsToldRow columns texts) 109 (rows_modified columns change) [] bytes
  modified_ahead bytes p e = record { fit = every_back (IsToldRow columns texts) (rows_added columns change) (rows_modified columns change) (rows_told_all columns texts change p); told = e; ends = refl }

  pub modified_keys : keys (rows_modified columns change) ≡ change.update.modified
  modified_keys = keys-rows_under (length columns) change.update.modified (drop (length columns * length change.update.added) change.cells)

  pub modified_rise : IsPrintable columns texts change → IsRising (keys (rows_modified columns change))
  modified_rise p = subst IsRising (sym modified_keys) p.modified

  pub cells_same : IsPrintable columns texts change → cells_of (rows_added columns change) ++ cells_of (rows_modified columns change) ≡ change.cells
  cells_same p = sym (flat_map-append (λ (row : PlainRow). row.cells) (rows_added columns change) (rows_modified columns change)) ∙ sym (cells_told columns texts change p)

-- two changes of the same parts
pub parts_same : (removed added modified cs : List ℕ) (shifted : List ShiftRange) (cells : List ℤ) (change : Change) → removed ≡ change.update.removed → added ≡ change.update.added → modified ≡ change.update.modified →
    shifted ≡ change.update.shifted → cs ≡ change.update.columns → cells ≡ change.cells →
    (let c : Change = record { update = record { removed = removed; added = added; modified = modified; shifted = shifted; columns = cs }; cells = cells } in c) ≡ change
parts_same removed added modified cs shifted cells change a b c d e f =
    let own = change.update in
    let change_from = λ (r p m : List ℕ) (s : List ShiftRange) (k : List ℕ) (z : List ℤ). let c : Change = record { update = record { removed = r; added = p; modified = m; shifted = s; columns = k }; cells = z } in c in
    ap (λ x. change_from x added modified shifted cs cells) a
    ∙ ap (λ x. change_from own.removed x modified shifted cs cells) b
    ∙ ap (λ x. change_from own.removed own.added x shifted cs cells) c
    ∙ ap (λ x. change_from own.removed own.added own.modified x cs cells) d
    ∙ ap (λ x. change_from own.removed own.added own.modified own.shifted x cells) e
    ∙ ap (λ x. change_from own.removed own.added own.modified own.shifted own.columns x) f

pub rows_whole : (columns : List ColumnSpec) (texts : List (List ℕ)) (rows : List PlainRow) → AllByRecursion (IsToldRow columns texts) rows → AllByRecursion (λ row. length row.cells ≡ length columns) rows
rows_whole columns texts rows h = every_weaker (IsToldRow columns texts) (λ (row : PlainRow). length row.cells ≡ length columns) rows (λ row told. length-fit_columns (length texts) columns row.cells told.fit) h

pub count_cells : (width : ℕ) (rows : List PlainRow) → AllByRecursion (λ row. length row.cells ≡ width) rows → length (cells_of rows) ≡ width * length (keys rows)
count_cells width [] h = omega arith
count_cells width (row ∷ rows) h = omega (arith, length-append row.cells (cells_of rows), h.0, count_cells width rows h.1)

all_numbers : (columns : List ColumnSpec) (texts : List (List ℕ)) (rows : List PlainRow) → AllByRecursion (IsToldRow columns texts) rows → AllByRecursion (FitsSigned w64) (cells_of rows)
all_numbers columns texts [] h = tt
all_numbers columns texts (row ∷ rows) h = every-append (FitsSigned w64) row.cells (cells_of rows) h.0.numbers (all_numbers columns texts rows h.1)

-- what was read is a change that can be printed
pub printable_from : (columns : List ColumnSpec) (texts : List (List ℕ)) (added modified : List PlainRow) (change : Change) → AreTold columns texts added modified change →
    IsKeySet change.update.removed → IsKeySet change.update.added → IsKeySet change.update.modified → IsShiftList change.update.shifted → IsConsistent change.update → IsPrintable columns texts change
printable_from columns texts added modified change told r a m s consistent =
    let width = length columns in
    let rows = added ++ modified in
    let rows_told = every-append (IsToldRow columns texts) added modified told.added_rows told.modified_rows in
    let same_keys : keys rows ≡ told_keys change.update = map-append (λ (row : PlainRow). row.key) added modified ∙ ap (λ (ks : List ℕ). ks ++ keys modified) (sym told.added_keys) ∙ ap (λ (ks : List ℕ). change.update.added ++ ks) (sym told.modified_keys) in
    let same_cells : cells_of rows ≡ change.cells = flat_map-append (λ (row : PlainRow). row.cells) added modified ∙ sym told.cells in
    let whole = rows_whole columns texts rows rows_told in
    let under : rows_under width (told_keys change.update) change.cells ≡ rows =
    ap (λ (ks : List ℕ). rows_under width ks change.cells) (sym same_keys) ∙ ap (λ (cells : List ℤ). rows_under width (keys rows) cells) (sym same_cells) ∙ rows_under-keys width rows whole in record {
      removed = r.rising;
      added = a.rising;
      modified = m.rising;
      keys = every-append (λ key. key < 2 ^ 62) change.update.removed (told_keys change.update) r.small (every-append (λ key. key < 2 ^ 62) change.update.added change.update.modified a.small m.small);
      shift = s.apart;
      ranges = s.small;
      apart = consistent.0;
      columns_rise = told.columns_rise;
      columns_there = told.columns_there;
      columns_say = consistent.1;
      whole = ap length (sym same_cells) ∙ count_cells width rows whole ∙ ap (λ (ks : List ℕ). width * length ks) same_keys;
      numbers = subst (AllByRecursion (FitsSigned w64)) same_cells (all_numbers columns texts rows rows_told);
      cells =
          subst (AllByRecursion (λ row. fit_columns (length texts) columns row.cells ≡ true)) (sym under)
          (every_weaker (IsToldRow columns texts) (λ (row : PlainRow). fit_columns (length texts) columns row.cells ≡ true) rows (λ row h. h.fit) rows_told);
    }

pub told_text : (step : ℕ) (name : List ℕ) (columns : List ColumnSpec) (texts : List (List ℕ)) (change : Change) → is_empty change.update ≡ false →
    change_text step name columns texts change ≡ record_text (step_record step name) ++ records_text (parts_shown columns texts change)
told_text step name columns texts change some = ap records_text (first_and_parts step name columns texts change some)

-- what a search for common keys says
pub apart_from : (added modified both : List ℕ) → both ≡ common modified added → (length both == 0) ≡ true → AllByRecursion (λ key. is_among key added ≡ false) modified
apart_from added modified both e none = all_missed modified (none_from_test (common modified added) (ap (λ (ks : List ℕ). length ks == 0) (sym e) ∙ none))
  where
    all_missed : (keys : List ℕ) → common keys added ≡ [] → AllByRecursion (λ key. is_among key added ≡ false) keys
    all_missed [] e = tt
    all_missed (key ∷ keys) e =
        (elim (is_among key added) as (λ b. is_among key added ≡ b → cond b (key ∷ common keys added) (common keys added) ≡ [] → AllByRecursion (λ key. is_among key added ≡ false) (key ∷ keys)) [
          | true ↦ λ _ e. absurd (some_is_none key (common keys added) e)
          | false ↦ λ missed e. (missed, all_missed keys e)
        ]) refl e

pub none_common : (added modified both : List ℕ) → both ≡ common modified added → AllByRecursion (λ key. is_among key added ≡ false) modified → (length both == 0) ≡ true
none_common added modified both e apart = ap (λ (ks : List ℕ). length ks == 0) (e ∙ filter_none (λ key. is_among key added) modified apart)

pub empty_test : (keys : List ℕ) → (length keys == 0) ≡ is_none keys
empty_test [] = refl
empty_test (key ∷ keys) = ne_eqb (length (key ∷ keys)) 0 (λ e. omega arith)

pub ok_three : {T : Type 0} (result : Result T PrintedFault) (P Q : T → Type 0) (R : Type 0) (S : T → Type 0) → ((x : T) → P x → Q x → R → S x) → IfOk result P → IfOk result Q → OnOk result R → IfOk result S
ok_three (Ok x) P Q R S f p q r = f x p q r
ok_three (Err fault) P Q R S f p q r = p
