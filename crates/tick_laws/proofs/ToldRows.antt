-- The rows that a change tells, as cells one after the other, are rows of the new table.
use Rattle.std.proofs.Common.{◌≡◌, refl, ap, ap₂, sym, ◌∙◌, subst, Bool, true, false, cond, not, ◌&&◌, ◌||◌, ℕ, ◌==◌, List, [], ◌∷◌, ◌++◌, map, ℤ, take, drop, length, append-nil, Some, unwrap_or, true≢false}
use Rattle.std.{specs.Prelude.{filter, option_map, flat_map}, specs.List.AllByRecursion, proofs.Math.Seq.{take-append_seam, drop-append_seam}, proofs.lemmas.List.Elements.filter-append, proofs.lemmas.Bool.not-true, proofs.lemmas.List.map-id}
use Rattle.tick_model.{specs.declared.table.PlainRow.PlainRow, specs.declared.table.PlainTable.PlainTable, specs.declared.update.KeyPair.KeyPair, specs.Tables.{keys, row_at, cells_at, IsRow}, specs.Sources.same_key, specs.Updates.{Tick, IsTick, new_keys, differs, between, adding, shifting, removing, modifying, rows_at, told}, specs.Changes.{rows_under, told_cells, change_of, changed}}
use Rattle.key_lists.{specs.Keys.{is_among, IsRising, without}, proofs.Among.{each_among, among-append, among-filter, of_among}, proofs.Every.{every, every_weaker, every-map, every_unmapped, every-filter, every-append, map_map, filter-map, filter_same, filter_none, filter_all, filter_in, filter_passes}, proofs.Rising.{rising-filter, rising_some}}
use Rattle.tick_laws.proofs.Carried.{within_from, named_rows, carry-between}

-- the row of a table under a key
abbrev pub row_under : List PlainRow → ℕ → PlainRow
row_under rows key = record { key = key; cells = cells_at key rows }

-- rows of one width, laid one after the other, are found again
pub rows_under-told : (width : ℕ) (cells : ℕ → List ℤ) (ks : List ℕ) → AllByRecursion (λ key. length (cells key) ≡ width) ks
    → rows_under width ks (flat_map cells ks) ≡ map (λ key. let row : PlainRow = record { key = key; cells = cells key } in row) ks
rows_under-told width cells [] h = refl
rows_under-told width cells (key ∷ ks) h =
    ap₂ (λ first rest. let row : PlainRow = record { key = key; cells = first } in row ∷ rows_under width ks rest)
    (ap (λ n. take n (cells key ++ flat_map cells ks)) (sym h.0) ∙ take-append_seam (cells key) (flat_map cells ks))
    (ap (λ n. drop n (cells key ++ flat_map cells ks)) (sym h.0) ∙ drop-append_seam (cells key) (flat_map cells ks))
    ∙ ap (λ rest. let row : PlainRow = record { key = key; cells = cells key } in row ∷ rest) (rows_under-told width cells ks h.1)

-- the cells under a key that is there are those of a row
pub cells_of_row : (P : List ℤ → Type 0) (key : ℕ) (rows : List PlainRow) → AllByRecursion (λ row. P row.cells) rows → is_among key (keys rows) ≡ true → P (cells_at key rows)
cells_of_row P key [] h e = absurd (true≢false (sym e))
cells_of_row P key (row ∷ rows) h e =
    (elim (row.key == key) as (λ b. (b || is_among key (keys rows)) ≡ true → P (unwrap_or (option_map (λ (row : PlainRow). row.cells) (cond b (Some row) (row_at key rows))) [])) [
      | true ↦ λ e. h.0
      | false ↦ λ e. cells_of_row P key rows h.1 e
    ]) e

-- the rows of rising keys that are all among a table's, as rows under these keys
pub rows_of_keys : (ks : List ℕ) (rows : List PlainRow) → IsRising (keys rows) → IsRising ks → AllByRecursion (λ key. is_among key (keys rows) ≡ true) ks
    → filter (λ row. is_among row.key ks) rows ≡ map (row_under rows) ks
rows_of_keys ks rows r s h =
    ap (λ these. filter (λ (row : PlainRow). is_among row.key these) rows) (sym same)
    ∙ named_rows (λ pair. pair.old) (map same_key ks) rows r (within_from (λ pair. pair.old) (map same_key ks) rows r (subst IsRising (sym same) s) (subst (AllByRecursion (λ key. is_among key (keys rows) ≡ true)) (sym same) h))
    ∙ map_map (λ (pair : KeyPair). row_under rows pair.old) same_key ks
  where
    same : map (λ (pair : KeyPair). pair.old) (map same_key ks) ≡ ks
    same = map_map (λ (pair : KeyPair). pair.old) same_key ks ∙ map-id ks

-- of two lists of which the second has none of the first, those of the first, and of the second
pub first_of_two : (xs ys : List ℕ) → AllByRecursion (λ y. is_among y xs ≡ false) ys → filter (λ z. is_among z xs) (xs ++ ys) ≡ xs
first_of_two xs ys h =
    filter-append (λ z. is_among z xs) xs ys
    ∙ ap₂ (λ us vs. us ++ vs) (filter_same (λ z. is_among z xs) (λ _. true) xs (each_among xs) ∙ filter_all xs) (filter_none (λ z. is_among z xs) ys h)
    ∙ append-nil xs

pub second_of_two : (xs ys : List ℕ) → AllByRecursion (λ x. is_among x ys ≡ false) xs → filter (λ z. is_among z ys) (xs ++ ys) ≡ ys
second_of_two xs ys h =
    filter-append (λ z. is_among z ys) xs ys
    ∙ ap₂ (λ us vs. us ++ vs) (filter_none (λ z. is_among z ys) xs h) (filter_same (λ z. is_among z ys) (λ _. true) ys (each_among ys) ∙ filter_all ys)

-- none of the others is among what is left without them
pub none_without : (others all : List ℕ) → AllByRecursion (λ key. is_among key (without others all) ≡ false) others
none_without others all =
    every_weaker (λ key. is_among key others ≡ true) (λ key. is_among key (without others all) ≡ false) others
    (λ key own. among-filter (λ key. not (is_among key others)) key all ∙ ap (λ b. not b && is_among key all) own) (each_among others)

pub without_apart : (others all : List ℕ) → AllByRecursion (λ key. is_among key others ≡ false) (without others all)
without_apart others all =
    every_weaker (λ key. not (is_among key others) ≡ true) (λ key. is_among key others ≡ false) (without others all) (λ key h. not-true (is_among key others) h) (filter_passes (λ key. not (is_among key others)) all)

module _ (tick : Tick) (h : IsTick tick) where
  abbrev added : List ℕ
  added = (between tick).added

  abbrev modified : List ℕ
  modified = (between tick).modified

  abbrev rows : List PlainRow
  rows = tick.new.rows

  pub added_rise : IsRising added
  added_rise = rising_some (λ key. not (is_among key (new_keys tick.kept))) (keys rows) h.new_table.rising

  pub modified_rise : IsRising modified
  modified_rise = rising-filter (λ pair. pair.new) (differs tick.old tick.new) tick.kept h.rising_new

  pub added_there : AllByRecursion (λ key. is_among key (keys rows) ≡ true) added
  added_there = every-filter (λ key. is_among key (keys rows) ≡ true) (λ key. not (is_among key (new_keys tick.kept))) (keys rows) (each_among (keys rows))

  -- what holds of all new keys of pairs holds of the modified keys
  pub each_modified : (P : ℕ → Type 0) → AllByRecursion P (new_keys tick.kept) → AllByRecursion P modified
  each_modified P k = every-map P (λ pair. pair.new) (filter (differs tick.old tick.new) tick.kept) (every-filter (λ (pair : KeyPair). P pair.new) (differs tick.old tick.new) tick.kept (every_unmapped P (λ pair. pair.new) tick.kept k))

  pub modified_there : AllByRecursion (λ key. is_among key (keys rows) ≡ true) modified
  modified_there = each_modified (λ key. is_among key (keys rows) ≡ true) h.of_new

  -- no key is both added and modified
  pub modified_apart : AllByRecursion (λ key. is_among key added ≡ false) modified
  modified_apart = each_modified (λ key. is_among key added ≡ false) (none_without (new_keys tick.kept) (keys rows))

  pub added_apart : AllByRecursion (λ key. is_among key modified ≡ false) added
  added_apart =
      every_weaker (λ key. is_among key (new_keys tick.kept) ≡ false) (λ key. is_among key modified ≡ false) added
      (λ key apart. not_there key (is_among key modified) refl apart) (without_apart (new_keys tick.kept) (keys rows))
    where
      not_there : (key : ℕ) (b : Bool) → is_among key modified ≡ b → is_among key (new_keys tick.kept) ≡ false → is_among key modified ≡ false
      not_there key true e apart =
          absurd (true≢false (sym (of_among (λ k. is_among k (new_keys tick.kept) ≡ true) key modified (each_modified (λ k. is_among k (new_keys tick.kept) ≡ true) (each_among (new_keys tick.kept))) e) ∙ apart))
      not_there key false e apart = e

  -- the rows told under some of the told keys
  told_of : (these : List ℕ) → ((key : ℕ) → is_among key (added ++ modified) ≡ false → is_among key these ≡ false) → rows_at these (told tick) ≡ rows_at these rows
  told_of these k = filter_in (λ row. is_among row.key these) (λ row. is_among row.key (added ++ modified)) rows (every (λ row. is_among row.key (added ++ modified) ≡ false → is_among row.key these ≡ false) rows (λ row. k row.key))

  not_either : (a b : Bool) → (a || b) ≡ false → (a ≡ false) × (b ≡ false)
  not_either true b e = absurd (true≢false e)
  not_either false b e = (refl, e)

  pub told_there : AllByRecursion (λ key. is_among key (keys rows) ≡ true) (added ++ modified)
  told_there = every-append (λ key. is_among key (keys rows) ≡ true) added modified added_there modified_there

  -- the told cells are whole rows
  told_whole : AllByRecursion (λ key. length (cells_at key rows) ≡ tick.old.width) (added ++ modified)
  told_whole =
      every_weaker (λ key. is_among key (keys rows) ≡ true) (λ key. length (cells_at key rows) ≡ tick.old.width) (added ++ modified)
      (λ key there. cells_of_row (λ cells. length cells ≡ tick.old.width) key rows (every_weaker (IsRow tick.new.width) (λ row. length row.cells ≡ tick.old.width) rows (λ row r. r.whole ∙ h.one_width) h.new_table.rows) there)
      told_there

  pub rows_told : rows_under tick.old.width (added ++ modified) (told_cells tick) ≡ map (row_under rows) (added ++ modified)
  rows_told = rows_under-told tick.old.width (λ key. cells_at key rows) (added ++ modified) told_whole

  under_of : (these : List ℕ) → IsRising these → AllByRecursion (λ key. is_among key (keys rows) ≡ true) these → filter (λ key. is_among key these) (added ++ modified) ≡ these
      → ((key : ℕ) → is_among key (added ++ modified) ≡ false → is_among key these ≡ false)
      → rows_at these (rows_under tick.old.width (added ++ modified) (told_cells tick)) ≡ rows_at these (told tick)
  under_of these rise there are less =
      ap (rows_at these) rows_told
      ∙ filter-map (λ row. is_among row.key these) (row_under rows) (added ++ modified)
      ∙ ap (map (row_under rows)) are
      ∙ sym (rows_of_keys these rows h.new_table.rising rise there)
      ∙ sym (told_of these less)

  pub change-carries : changed tick.old (change_of tick) ≡ tick.new
  change-carries =
      ap₂ (λ a m. let table : PlainTable = record { width = tick.old.width; rows = modifying m (adding a (shifting (between tick).shifted (removing (between tick).removed tick.old.rows))) } in table)
      (under_of added added_rise added_there (first_of_two added modified modified_apart) (λ key e. (not_either (is_among key added) (is_among key modified) (sym (among-append key added modified) ∙ e)).0))
      (under_of modified modified_rise modified_there (second_of_two added modified added_apart) (λ key e. (not_either (is_among key added) (is_among key modified) (sym (among-append key added modified) ∙ e)).1))
      ∙ carry-between tick h
