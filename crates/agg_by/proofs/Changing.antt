-- The rows that stay, as the cells of now of the modified ones come in place of those from before.
use Rattle.std.proofs.Common.{◌≡◌, ◌≢◌, is_some, refl, ap, ap₂, sym, ◌∙◌, subst, Bool, true, false, not, ◌&&◌, ◌||◌, ◌==◌, ℕ, zero, suc, ◌+◌, ◌<◌, ◌≤◌, arith, List, [], ◌∷◌, ◌++◌, map, filter, get_or, length, take, drop, Option, Some, None, ℤ, inl, inr, if◌then◌else◌, unwrap_or, pos, true≢false, cond, ltb, eqb-true, append_assoc, length-append}
use Rattle.std.{specs.Prelude.{option_map, slice_index}, specs.Cmp.signed_Decides, specs.Cmp.Rules.signed_items, specs.List.{AllByRecursion, AllZip, list_any, range_with_len}, proofs.lemmas.Bool.{and_parts, cases_lt, eq-eqb, ne_eqb, not-false, not-true, or_parts, or_right}, proofs.lemmas.List.Elements.AllZip-get_or, proofs.lemmas.List.Folds.list_any-append, proofs.lemmas.List.{get_or_at, get_or-map, get_or_past, length-map, map-append, take-append-drop, take_more}}
use Rattle.key_lists.{specs.Keys.{is_among, IsRising, without}, proofs.Among.{among-append, among-filter, among_above, each_among, of_among}, proofs.Booleans.{or_assoc, or_false, or_swap, or_twice}, proofs.Every.{any-map, every_both, every_weaker, every-append, every-filter, every-map, every_unmapped, filter-map, filter_all, filter_filter, filter_passes, filter_same, map_map, map_same, turned}, proofs.Parts.{every_at, every_front, some_at}, proofs.Ranges.among_range, proofs.Rising.rising-filter}
use Rattle.row_groups.{specs.Members.{Grouped, IsNumberOf, IsNumberUnder, IsPart, IsRegrouped, Member, Names, Numbered, group_of, groups_of, left_members, member_of, member_under, name_at, with_member}, proofs.Keys.some_of}
use Rattle.row_set.{specs.Sets.{united, with_key}, proofs.Windows.rising_before}
use Rattle.shown_rows.proofs.Restricted.{is_modified, kept, modified_even, modified_new, modified_old}
use Rattle.table_update.specs.Kept.{old_modified}
use Rattle.tick_model.{proofs.Among.each_found, specs.Agg.key_cells, specs.Tables.{cell, cells_at, keys, null, row_at, same_cells}, specs.Updates.{Update, differs_in, new_keys, pairs, removing, shifting}, specs.declared.table.PlainRow.PlainRow, specs.declared.update.KeyPair.KeyPair}
use Rattle.tick_table.{proofs.WholeRows.row_whole, specs.Exact.IsExact, specs.Ticking.Ticking}
use Rattle.agg_by.{specs.Answers.{HasRow, with_row, without_row}, specs.Kept.{Answers, group_rows, indexed}, specs.Steps.{come, come_cells, gone, keeps_groups, key_at, staying_cells, touched_cells}, specs.Touched.{AreLeaving, AreNoted, HaveNoted}, specs.declared.moving.Leaving.Leaving, specs.declared.running.Accumulator.Accumulator, proofs.Answering.{cells_known, group_is, own_cells as kept_own_cells, own_there}, proofs.Bringing.{left-members, members, placed_none, put_back}, proofs.KeptSteps.{gains, has_row, indexed_gains, indexed_left, loses, same_answers}, proofs.Made.{no_rows, same_named}, proofs.Noted.{alone_in, any_of, named_is, noted_next, noted_none, noted_rows, number_carried, numbered_both, part_own}, proofs.Touching.{changed_there, removed_there}, proofs.Unmoved.{added_at, and_with, moved_rows, new_rows, now_row, old_at, quiet_cells}, proofs.Untouched.{group_without, none_of, own_cells}}

-- the rows that stay, each under its key of now: those under some keys have their cells of now, the others those from before
abbrev pub row_in : Ticking → List ℕ → KeyPair → PlainRow
row_in t ks pair = record { key = pair.new; cells = if is_among pair.new ks then cells_at pair.new t.new.rows else cells_at pair.old t.old.rows }

abbrev pub rows_in : Ticking → List ℕ → List PlainRow
rows_in t ks = map (row_in t ks) (pairs t.old t.update)

-- what is told of some of the keys of two sets is told of some of those of the one or the other
any_with_key : {X : Type 0} (test : X → Bool) (f : ℕ → X) (key : ℕ) (keys : List ℕ) → list_any test (map f (with_key key keys)) ≡ (test (f key) || list_any test (map f keys))
any_with_key test f key [] = refl
any_with_key test f key (first ∷ rest) =
    elim (ltb key first) as (λ b. list_any test (map f (cond b (key ∷ first ∷ rest) (cond (key == first) (first ∷ rest) (first ∷ with_key key rest)))) ≡ (test (f key) || (test (f first) || list_any test (map f rest)))) [
      | true ↦ refl
      | false ↦
          (elim (key == first) as (λ b. (key == first) ≡ b → list_any test (map f (cond b (first ∷ rest) (first ∷ with_key key rest))) ≡ (test (f key) || (test (f first) || list_any test (map f rest)))) [
            | true ↦ λ e. sym (or_twice (test (f first)) (list_any test (map f rest))) ∙ ap (λ k. test (f k) || (test (f first) || list_any test (map f rest))) (sym (eqb-true key first e))
            | false ↦ λ e. ap (λ b. test (f first) || b) (any_with_key test f key rest) ∙ or_swap (test (f first)) (test (f key)) (list_any test (map f rest))
          ]) refl
    ]

any_united : {X : Type 0} (test : X → Bool) (f : ℕ → X) (keys others : List ℕ) → list_any test (map f (united keys others)) ≡ (list_any test (map f keys) || list_any test (map f others))
any_united test f [] others = refl
any_united test f (key ∷ keys) others =
    any_with_key test f key (united keys others) ∙ ap (λ b. test (f key) || b) (any_united test f keys others) ∙ or_assoc (test (f key)) (list_any test (map f keys)) (list_any test (map f others))

-- a row is in its group, also where others are left out
in_group : (by : List ℕ) (rows : List PlainRow) → IsRising (keys rows) → (key : ℕ) → is_among key (keys rows) ≡ true → (others : List ℕ) → is_among key others ≡ false → group_of (key_at by rows key) (members by None (removing others rows)) ≢ []
in_group by rows rising key own others apart none =
    let cells = key_at by rows key in
    let left = λ (k : ℕ). not (is_among k others) in
    let there : is_among key (keys (group_rows by cells (removing others rows))) ≡ true =
    ap (λ some. is_among key (keys some))
    (filter_filter (λ (row : PlainRow). same_cells cells (key_cells by row.cells)) (λ (row : PlainRow). left row.key) rows
    ∙ filter_same (λ (row : PlainRow). left row.key && same_cells cells (key_cells by row.cells)) (λ (row : PlainRow). left row.key && same_cells cells (key_at by rows row.key)) rows
    (every_weaker (λ (row : PlainRow). key_at by rows row.key ≡ key_cells by row.cells) (λ row. (left row.key && same_cells cells (key_cells by row.cells)) ≡ (left row.key && same_cells cells (key_at by rows row.key))) rows (λ row same. ap (λ own. left row.key && same_cells cells own) (sym same)) (own_cells by rows rising)))
    ∙ ap (is_among key) (sym (filter-map (λ k. left k && same_cells cells (key_at by rows k)) (λ (row : PlainRow). row.key) rows))
    ∙ among-filter (λ k. left k && same_cells cells (key_at by rows k)) key (keys rows)
    ∙ ap₂ (λ a b. (not a && b) && is_among key (keys rows)) apart ((signed_items cells cells).1 refl) ∙ own in
    true≢false (sym there ∙ ap (λ some. is_among key (keys some)) (no_rows by (group_rows by cells (removing others rows)) (sym (group_is by (removing others rows) cells) ∙ none)))

-- a key of a rising list is above those before it
below_at : (ks : List ℕ) (place : ℕ) → IsRising ks → place < length ks → AllByRecursion (λ key. key < get_or ks place 0) (take place ks)
below_at ks place rising within = rising_before (take place ks) (get_or ks place 0) (drop (place + 1) ks) (subst IsRising (sym (split ks place within)) rising)
  where
    split : (ks : List ℕ) (place : ℕ) → place < length ks → take place ks ++ get_or ks place 0 ∷ drop (place + 1) ks ≡ ks
    split ks place within = sym (append_assoc (take place ks) (get_or ks place 0 ∷ []) (drop (place + 1) ks)) ∙ ap (λ some. some ++ drop (place + 1) ks) (sym (take_more ks place 0 within)) ∙ take-append-drop (place + 1) ks

-- so it is none of them
pub apart_at : (ks : List ℕ) (place count : ℕ) → IsRising ks → place < length ks → count ≤ place → is_among (get_or ks place 0) (take count ks) ≡ false
apart_at ks place count rising within few =
    among_above (get_or ks place 0) (take count ks)
    (every_front (λ key. key < get_or ks place 0) (take count ks) (drop count (take place ks))
    (subst (AllByRecursion (λ key. key < get_or ks place 0)) (sym (parted count place few ks)) (below_at ks place rising within)))
  where
    parted : (count place : ℕ) → count ≤ place → (ks : List ℕ) → take count ks ++ drop count (take place ks) ≡ take place ks
    parted zero place few ks = refl
    parted (suc count) zero few ks = absurd (omega (arith, few))
    parted (suc count) (suc place) few [] = refl
    parted (suc count) (suc place) few (key ∷ ks) = ap (λ some. key ∷ some) (parted count place (omega (arith, few)) ks)

not_not : (b : Bool) → not (not b) ≡ b
not_not true = refl
not_not false = refl

-- the key cells of the rows that go or change, as they were
abbrev pub went_cells : List ℕ → Ticking → List (List ℤ)
went_cells by t = map (key_at by t.old.rows) t.update.removed ++ map (key_at by t.old.rows) (old_modified (keys t.old.rows) t.update)

-- a number is that of the group that the row under a key had
abbrev pub IsNumberIn : List ℕ → Ticking → Names → ℕ → ℕ → Type 0
IsNumberIn by t names key number = IsNumberOf number (key_at by t.old.rows key) names

-- the numbers are those of the groups of the modified rows from a place on
abbrev pub HasNumbers : List ℕ → Ticking → Names → List ℕ → ℕ → Type 0
HasNumbers by t names numbers place = (other : ℕ) → place ≤ other → other < length t.update.modified → IsNumberIn by t names (slice_index (old_modified (keys t.old.rows) t.update) other) (get_or numbers other 0)

zipped_weaker : (R S : ℕ → ℕ → Type 0) (keys : List ℕ) → AllByRecursion (λ key. (number : ℕ) → R key number → S key number) keys → (numbers : List ℕ) → AllZip R keys numbers → AllZip S keys numbers
zipped_weaker R S [] h [] all = tt
zipped_weaker R S [] h (number ∷ numbers) all = absurd all
zipped_weaker R S (key ∷ keys) h [] all = absurd all
zipped_weaker R S (key ∷ keys) h (number ∷ numbers) all = (h.0 number all.0, zipped_weaker R S keys h.1 numbers all.1)

module _ (by : List ℕ) (t : Ticking) (e : IsExact t) where
  -- the rows of a pair are of one group
  abbrev pub StaysIn : KeyPair → Type 0
  StaysIn pair = key_at by t.old.rows pair.old ≡ key_at by t.new.rows pair.new

  abbrev IsSame : ℕ → KeyPair → Type 0
  IsSame column pair = cell (cells_at pair.old t.old.rows) column ≡ cell (cells_at pair.new t.new.rows) column

  -- in a column in which no row differs all pairs have the same cell, and so they have beyond the last column
  same_cell : (column : ℕ) → is_among column t.update.columns ≡ false → AllByRecursion (IsSame column) (kept t e)
  same_cell column absent =
      elim (cases_lt column t.new.width) [
        | inl below ↦
            let differs = list_any (differs_in t.old t.new column) (kept t e) in
            let none : differs ≡ false =
            sym (and_with differs (is_among column (range_with_len 0 t.new.width)) (among_range column 0 t.new.width (omega arith) (omega arith)))
            ∙ sym (among-filter (λ column. list_any (differs_in t.old t.new column) (kept t e)) column (range_with_len 0 t.new.width))
            ∙ sym (ap (λ (update : Update). is_among column update.columns) e.update) ∙ absent in
            every_weaker (λ pair. differs_in t.old t.new column pair ≡ false) (IsSame column) (kept t e)
            (λ pair same. (signed_Decides (cell (cells_at pair.old t.old.rows) column) (cell (cells_at pair.new t.new.rows) column)).0 (not-false _ same))
            (none_of (differs_in t.old t.new column) (kept t e) none)
        | inr past ↦
            every_both (λ pair. is_among pair.old (keys t.old.rows) ≡ true) (λ pair. is_among pair.new (keys t.new.rows) ≡ true) (IsSame column) (kept t e)
            (λ pair was now.
            let before = row_whole pair.old t.old e.tick.old_table was in
            let after = row_whole pair.new t.new e.tick.new_table now in
            let width = e.tick.one_width in
            get_or_past (cells_at pair.old t.old.rows) column null (omega (arith, before, width, past)) ∙ sym (get_or_past (cells_at pair.new t.new.rows) column null (omega (arith, after, past))))
            (every_unmapped (λ key. is_among key (keys t.old.rows) ≡ true) (λ (pair : KeyPair). pair.old) (kept t e) e.tick.of_old)
            (every_unmapped (λ key. is_among key (keys t.new.rows) ≡ true) (λ (pair : KeyPair). pair.new) (kept t e) e.tick.of_new)
      ]

  -- where rows differ in none of the columns of the key cells
  pub stay_in : keeps_groups by t ≡ true → AllByRecursion StaysIn (kept t e)
  stay_in keeps =
      every_weaker (λ pair. AllByRecursion (λ column. IsSame column pair) by) StaysIn (kept t e)
      (λ pair same. map_same (cell (cells_at pair.old t.old.rows)) (cell (cells_at pair.new t.new.rows)) by same)
      (turned IsSame by (kept t e)
      (every_weaker (λ column. is_among column t.update.columns ≡ false) (λ column. AllByRecursion (IsSame column) (kept t e)) by same_cell
      (none_of (λ column. is_among column t.update.columns) by (not-true _ keeps))))

  -- so the modified rows have the same key cells before and now
  same_cells_of : AllByRecursion StaysIn (kept t e) → map (key_at by t.old.rows) (old_modified (keys t.old.rows) t.update) ≡ map (key_at by t.new.rows) t.update.modified
  same_cells_of stays =
      ap (map (key_at by t.old.rows)) (modified_old t e) ∙ map_map (key_at by t.old.rows) (λ (pair : KeyPair). pair.old) (filter (is_modified t e) (kept t e))
      ∙ map_same (λ (pair : KeyPair). key_at by t.old.rows pair.old) (λ (pair : KeyPair). key_at by t.new.rows pair.new) (filter (is_modified t e) (kept t e)) (every-filter StaysIn (is_modified t e) (kept t e) stays)
      ∙ sym (map_map (key_at by t.new.rows) (λ (pair : KeyPair). pair.new) (filter (is_modified t e) (kept t e))) ∙ ap (map (key_at by t.new.rows)) (sym (modified_new t e))

  -- what is told of the cells of the rows that leave, change and come is told of all touched cells
  abbrev any_keys : List PlainRow → List ℕ → (List ℤ → Bool) → Bool
  any_keys rows ks test = list_any test (map (key_at by rows) ks)

  pub touched_any : (test : List ℤ → Bool) → list_any test (touched_cells by t)
      ≡ ((any_keys t.old.rows t.update.removed test || any_keys t.old.rows (old_modified (keys t.old.rows) t.update) test) || (any_keys t.new.rows t.update.added test || any_keys t.new.rows t.update.modified test))
  touched_any test =
      list_any-append test (map (key_at by t.old.rows) (gone t)) (map (key_at by t.new.rows) (come t))
      ∙ ap₂ (λ c d. c || d) (any_united test (key_at by t.old.rows) t.update.removed (old_modified (keys t.old.rows) t.update)) (any_united test (key_at by t.new.rows) t.update.added t.update.modified)

  went_any : (test : List ℤ → Bool) → list_any test (went_cells by t) ≡ (any_keys t.old.rows t.update.removed test || any_keys t.old.rows (old_modified (keys t.old.rows) t.update) test)
  went_any test = list_any-append test (map (key_at by t.old.rows) t.update.removed) (map (key_at by t.old.rows) (old_modified (keys t.old.rows) t.update))

  -- in the order in which they are noted, where all modified rows stay in their groups or not
  pub touched_kept : keeps_groups by t ≡ true → (test : List ℤ → Bool) → list_any test ((went_cells by t) ++ map (key_at by t.new.rows) t.update.added) ≡ list_any test (touched_cells by t)
  touched_kept keeps test =
      list_any-append test (went_cells by t) (map (key_at by t.new.rows) t.update.added) ∙ ap (λ b. b || any_keys t.new.rows t.update.added test) (went_any test)
      ∙ twice (any_keys t.old.rows t.update.removed test) (any_keys t.old.rows (old_modified (keys t.old.rows) t.update) test) (any_keys t.new.rows t.update.added test)
      ∙ ap (λ (cells : List (List ℤ)). (any_keys t.old.rows t.update.removed test || any_keys t.old.rows (old_modified (keys t.old.rows) t.update) test) || (any_keys t.new.rows t.update.added test || list_any test cells)) (same_cells_of (stay_in keeps))
      ∙ sym (touched_any test)
    where
      twice : (g m c : Bool) → ((g || m) || c) ≡ ((g || m) || (c || m))
      twice true m c = refl
      twice false true c = refl
      twice false false c = sym (or_false c)

  pub touched_all : (test : List ℤ → Bool) → list_any test (((went_cells by t) ++ map (key_at by t.new.rows) t.update.added) ++ map (key_at by t.new.rows) t.update.modified) ≡ list_any test (touched_cells by t)
  touched_all test =
      list_any-append test ((went_cells by t) ++ map (key_at by t.new.rows) t.update.added) (map (key_at by t.new.rows) t.update.modified)
      ∙ ap (λ b. b || any_keys t.new.rows t.update.modified test) (list_any-append test (went_cells by t) (map (key_at by t.new.rows) t.update.added) ∙ ap (λ b. b || any_keys t.new.rows t.update.added test) (went_any test))
      ∙ sym (or_assoc (any_keys t.old.rows t.update.removed test || any_keys t.old.rows (old_modified (keys t.old.rows) t.update) test) (any_keys t.new.rows t.update.added test) (any_keys t.new.rows t.update.modified test))
      ∙ sym (touched_any test)

  -- in the order in which they come
  pub touched_come : (test : List ℤ → Bool) → list_any test ((went_cells by t) ++ come_cells by t) ≡ list_any test (touched_cells by t)
  touched_come test =
      list_any-append test (went_cells by t) (come_cells by t)
      ∙ ap₂ (λ b c. b || c) (went_any test)
      (ap (list_any test) (map-append (key_at by t.new.rows) t.update.modified t.update.added) ∙ list_any-append test (map (key_at by t.new.rows) t.update.modified) (map (key_at by t.new.rows) t.update.added)
      ∙ either (any_keys t.new.rows t.update.modified test) (any_keys t.new.rows t.update.added test))
      ∙ sym (touched_any test)
    where
      either : (a b : Bool) → (a || b) ≡ (b || a)
      either true b = sym (or_right b true refl)
      either false b = sym (or_false b)

  -- the rows that stay, before and now
  pub rows_before : shifting t.update.shifted (removing t.update.removed t.old.rows) ≡ rows_in t []
  rows_before =
      moved_rows t e (λ _. true) t.update.removed (λ key own. sym (old_at t e (λ _. true) key ∙ and_with (not (is_among key t.update.removed)) (is_among key (keys t.old.rows)) own))
      ∙ ap (map (row_in t [])) (filter_all (kept t e))

  now_in : (ks : List ℕ) (pair : KeyPair) → (is_modified t e pair ≡ false → cells_at pair.old t.old.rows ≡ cells_at pair.new t.new.rows) → is_among pair.new ks ≡ is_among pair.new t.update.modified → row_in t ks pair ≡ now_row t e pair
  now_in ks pair same is = ap (λ (cells : List ℤ). let row : PlainRow = record { key = pair.new; cells = cells } in row) (by_case (is_modified t e pair) refl)
    where
      by_case : (m : Bool) → is_modified t e pair ≡ m → (if is_among pair.new ks then cells_at pair.new t.new.rows else cells_at pair.old t.old.rows) ≡ cells_at pair.new t.new.rows
      by_case true m = ap (λ d. if d then cells_at pair.new t.new.rows else cells_at pair.old t.old.rows) (is ∙ m)
      by_case false m = ap (λ d. if d then cells_at pair.new t.new.rows else cells_at pair.old t.old.rows) (is ∙ m) ∙ same m

  pub rows_after : rows_in t t.update.modified ≡ removing t.update.added t.new.rows
  rows_after =
      map_same (row_in t t.update.modified) (now_row t e) (kept t e)
      (every_weaker (λ pair. is_modified t e pair ≡ false → cells_at pair.old t.old.rows ≡ cells_at pair.new t.new.rows) (λ pair. row_in t t.update.modified pair ≡ now_row t e pair) (kept t e) (λ pair same. now_in t.update.modified pair same refl) (quiet_cells t e))
      ∙ ap (map (now_row t e)) (sym (filter_all (kept t e)))
      ∙ sym (new_rows t e (λ _. true) t.update.added (λ key own. ap not (added_at t e key own) ∙ not_not (is_among key (new_keys (kept t e))) ∙ ap (λ (some : List KeyPair). is_among key (new_keys some)) (sym (filter_all (kept t e)))))

  keys_in : (ks : List ℕ) → keys (rows_in t ks) ≡ new_keys (kept t e)
  keys_in ks = map_map (λ (row : PlainRow). row.key) (row_in t ks) (kept t e)

  rising_in : (ks : List ℕ) → IsRising (keys (rows_in t ks))
  rising_in ks = subst IsRising (sym (keys_in ks)) e.tick.rising_new

  found_in : (ks : List ℕ) → AllByRecursion (λ pair. row_at pair.new (rows_in t ks) ≡ Some (row_in t ks pair)) (kept t e)
  found_in ks = every_unmapped (λ (row : PlainRow). row_at row.key (rows_in t ks) ≡ Some row) (row_in t ks) (kept t e) (each_found (rows_in t ks) (rising_in ks))

  -- the key cells of the row under a key
  cells_in_row : (rows : List PlainRow) (key : ℕ) (row : PlainRow) → row_at key rows ≡ Some row → cells_at key rows ≡ row.cells
  cells_in_row rows key row found = ap (λ (row : Option PlainRow). unwrap_or (option_map (λ (row : PlainRow). row.cells) row) []) found

  done_in : (ks : List ℕ) → AllByRecursion (λ key. is_among key ks ≡ is_among key t.update.modified → key_at by (rows_in t ks) key ≡ key_at by t.new.rows key) (new_keys (kept t e))
  done_in ks =
      every-map (λ key. is_among key ks ≡ is_among key t.update.modified → key_at by (rows_in t ks) key ≡ key_at by t.new.rows key) (λ (pair : KeyPair). pair.new) (kept t e)
      (every_both (λ pair. is_modified t e pair ≡ false → cells_at pair.old t.old.rows ≡ cells_at pair.new t.new.rows) (λ pair. row_at pair.new (rows_in t ks) ≡ Some (row_in t ks pair))
      (λ pair. is_among pair.new ks ≡ is_among pair.new t.update.modified → key_at by (rows_in t ks) pair.new ≡ key_at by t.new.rows pair.new) (kept t e)
      (λ pair same found is. ap (key_cells by) (cells_in_row (rows_in t ks) pair.new (now_row t e pair) (found ∙ ap Some (now_in ks pair same is)))) (quiet_cells t e) (found_in ks))

  pub rising_modified : IsRising t.update.modified
  rising_modified = subst IsRising (sym (modified_new t e)) (rising-filter (λ (pair : KeyPair). pair.new) (is_modified t e) (kept t e) e.tick.rising_new)

  modified_kept : AllByRecursion (λ key. is_among key (new_keys (kept t e)) ≡ true) t.update.modified
  modified_kept =
      subst (AllByRecursion (λ key. is_among key (new_keys (kept t e)) ≡ true)) (sym (modified_new t e))
      (every-map (λ key. is_among key (new_keys (kept t e)) ≡ true) (λ (pair : KeyPair). pair.new) (filter (is_modified t e) (kept t e))
      (every-filter (λ pair. is_among pair.new (new_keys (kept t e)) ≡ true) (is_modified t e) (kept t e) (every_unmapped (λ key. is_among key (new_keys (kept t e)) ≡ true) (λ (pair : KeyPair). pair.new) (kept t e) (each_among (new_keys (kept t e))))))

  -- the rows that stay as they are
  abbrev pub still : List ℕ
  still = without (t.update.modified ++ t.update.added) (keys t.new.rows)

  record IsStill (key : ℕ) : Type 0 where
    kept : is_among key (new_keys (kept t e)) ≡ true
    quiet : is_among key t.update.modified ≡ false

  all_still : AllByRecursion IsStill still
  all_still =
      every_weaker (λ key. is_among key still ≡ true) IsStill still
      (λ key own.
      let parts = and_parts _ _ (sym (among-filter (λ key. not (is_among key (t.update.modified ++ t.update.added))) key (keys t.new.rows)) ∙ own) in
      let absent = or_parts _ _ (sym (among-append key t.update.modified t.update.added) ∙ not-true _ parts.0) in
      record { kept = sym (not_not (is_among key (new_keys (kept t e)))) ∙ ap not (sym (added_at t e key parts.1) ∙ absent.1); quiet = absent.0 })
      (each_among still)

  taken : (count : ℕ) (key : ℕ) → is_among key t.update.modified ≡ (is_among key (take count t.update.modified) || is_among key (drop count t.update.modified))
  taken count key = ap (is_among key) (sym (take-append-drop count t.update.modified)) ∙ among-append key (take count t.update.modified) (drop count t.update.modified)

  -- the pair of a modified row
  pub record IsNext (place : ℕ) (pair : KeyPair) : Type 0 where
    pub old : pair.old ≡ slice_index (old_modified (keys t.old.rows) t.update) place
    pub new : pair.new ≡ slice_index t.update.modified place
    pub own : is_among pair.new (new_keys (kept t e)) ≡ true
    pub found : (ks : List ℕ) → row_at pair.new (rows_in t ks) ≡ Some (row_in t ks pair)
    pub stays : keeps_groups by t ≡ true → StaysIn pair
    pub apart : (count : ℕ) → count ≤ place → is_among pair.new (take count t.update.modified) ≡ false
    pub more : take (place + 1) t.update.modified ≡ take place t.update.modified ++ pair.new ∷ []

  pub next_pair : (place : ℕ) → place < length t.update.modified → (pair : KeyPair) × IsNext place pair
  next_pair place within =
      let some = filter (is_modified t e) (kept t e) in
      let inside : place < length some = omega (arith, within, ap length (modified_new t e), length-map some (λ (pair : KeyPair). pair.new)) in
      let pair = (some_at some place inside).0 in
      let at = λ (P : KeyPair → Type 0) (all : AllByRecursion P (kept t e)). subst P (sym (some_at some place inside).1) (every_at P some place pair inside (every-filter P (is_modified t e) (kept t e) all)) in
      let old : pair.old ≡ slice_index (old_modified (keys t.old.rows) t.update) place =
      sym (ap (λ (ks : List ℕ). get_or ks place 0) (modified_old t e) ∙ get_or-map (λ (pair : KeyPair). pair.old) some place pair 0 inside ∙ ap (λ (pair : KeyPair). pair.old) (sym (some_at some place inside).1)) in
      let new : pair.new ≡ slice_index t.update.modified place =
      sym (ap (λ (ks : List ℕ). get_or ks place 0) (modified_new t e) ∙ get_or-map (λ (pair : KeyPair). pair.new) some place pair 0 inside ∙ ap (λ (pair : KeyPair). pair.new) (sym (some_at some place inside).1)) in (
        pair,
        record {
          old = old;
          new = new;
          own = at (λ pair. is_among pair.new (new_keys (kept t e)) ≡ true) (every_unmapped (λ key. is_among key (new_keys (kept t e)) ≡ true) (λ (pair : KeyPair). pair.new) (kept t e) (each_among (new_keys (kept t e))));
          found = λ ks. at (λ pair. row_at pair.new (rows_in t ks) ≡ Some (row_in t ks pair)) (found_in ks);
          stays = λ keeps. at StaysIn (stay_in keeps);
          apart = λ count few. ap (λ key. is_among key (take count t.update.modified)) new ∙ apart_at t.update.modified place count rising_modified within few;
          more = take_more t.update.modified place 0 within ∙ ap (λ key. take place t.update.modified ++ key ∷ []) (sym new);
        },
      )

  -- the rows in which the modified ones before a place have their cells of now
  abbrev pub rows_until : ℕ → List PlainRow
  rows_until place = rows_in t (take place t.update.modified)

  pub has_numbers : (names : Names) (numbers : List ℕ) → AllZip (IsNumberIn by t names) (old_modified (keys t.old.rows) t.update) numbers → HasNumbers by t names numbers 0
  has_numbers names numbers all other few within = AllZip-get_or (IsNumberIn by t names) (old_modified (keys t.old.rows) t.update) numbers other 0 0 all (omega (arith, within, modified_even t e))

  module _ (place : ℕ) (pair : KeyPair) (n : IsNext place pair) where
    abbrev was : List ℤ
    was = cells_at pair.old t.old.rows

    abbrev now : List ℤ
    now = cells_at pair.new t.new.rows

    cells_of : (ks : List ℕ) (c : Bool) → is_among pair.new ks ≡ c → cells_at pair.new (rows_in t ks) ≡ (if c then now else was)
    cells_of ks c is = cells_in_row (rows_in t ks) pair.new (row_in t ks pair) (n.found ks) ∙ ap (λ c. if c then now else was) is

    here : (ks : List ℕ) → is_among pair.new (keys (rows_in t ks)) ≡ true
    here ks = ap (is_among pair.new) (keys_in ks) ∙ n.own

    pub was_cells : (count : ℕ) → count ≤ place → cells_at pair.new (rows_until count) ≡ was
    was_cells count few = cells_of (take count t.update.modified) false (n.apart count few)

    now_cells : cells_at pair.new (rows_until (place + 1)) ≡ now
    now_cells =
        cells_of (take (place + 1) t.update.modified) true
        (ap (is_among pair.new) n.more ∙ among-append pair.new (take place t.update.modified) (pair.new ∷ [])
        ∙ or_right (is_among pair.new (take place t.update.modified)) ((pair.new == pair.new) || false) (ap (λ c. c || false) (eq-eqb pair.new pair.new refl)))

    -- the other rows stay as they are
    others : removing (pair.new ∷ []) (rows_until place) ≡ removing (pair.new ∷ []) (rows_until (place + 1))
    others =
        let other = λ (row : PlainRow). not (is_among row.key (pair.new ∷ [])) in
        let other_pair = λ (next : KeyPair). not (is_among next.new (pair.new ∷ [])) in
        let before = take place t.update.modified in
        let after = take (place + 1) t.update.modified in
        filter-map other (row_in t before) (kept t e)
        ∙ map_same (row_in t before) (row_in t after) (filter other_pair (kept t e))
        (every_weaker (λ pair. other_pair pair ≡ true) (λ pair. row_in t before pair ≡ row_in t after pair) (filter other_pair (kept t e))
        (λ next passes.
        ap (λ c. let row : PlainRow = record { key = next.new; cells = if c then cells_at next.new t.new.rows else cells_at next.old t.old.rows } in row)
        (sym (ap (is_among next.new) n.more ∙ among-append next.new before (pair.new ∷ []) ∙ ap (λ c. is_among next.new before || c) (not-true _ passes) ∙ or_false (is_among next.new before))))
        (filter_passes other_pair (kept t e)))
        ∙ sym (filter-map other (row_in t after) (kept t e))

    -- what is kept of the row
    module _ (groups : Numbered) (count : ℕ) (few : count ≤ place) (are : groups_of groups ≡ indexed by None (rows_until count)) where
      pub known : option_map (λ (member : Member). member.cells) (member_under pair.new groups.members) ≡ Some (key_at by t.old.rows pair.old)
      known =
          ap (λ (grouped : Grouped). option_map (λ (member : Member). member.cells) (member_under pair.new grouped.members)) are ∙ cells_known by None (rows_until count) pair.new (here (take count t.update.modified))
          ∙ ap (λ cells. Some (key_cells by cells)) (was_cells count few)

      pub there : is_some (member_under pair.new groups.members) ≡ true
      there = some_of (λ (member : Member). member.cells) (member_under pair.new groups.members) (key_at by t.old.rows pair.old) known

      pub placed : option_map (λ (member : Member). member.at) (member_under pair.new groups.members) ≡ Some (pos 0)
      placed =
          let same = ap (λ (grouped : Grouped). member_under pair.new grouped.members) are in
          ap (option_map (λ (member : Member). member.at)) same ∙ placed_none by (rows_until count) pair.new (ap is_some (sym same) ∙ there)

      -- it can be put back
      pub back : with_member (member_of pair.new (key_at by t.old.rows pair.old) (pos 0)) (left_members (pair.new ∷ []) groups.members) ≡ groups.members
      back =
          let same = ap (λ (grouped : Grouped). grouped.members) are in
          let rows = rows_until count in
          ap₂ (λ (cells : List ℤ) (ms : List Member). with_member (member_of pair.new (key_cells by cells) (pos 0)) (left_members (pair.new ∷ []) ms)) (sym (was_cells count few)) same
          ∙ ap (with_member (member_of pair.new (key_at by rows pair.new) (pos 0))) (left-members by None (pair.new ∷ []) rows)
          ∙ put_back by None pair.new [] rows (rising_in (take count t.update.modified)) (here (take count t.update.modified)) refl ∙ ap (members by None) (filter_all rows) ∙ sym same

    module _ (names : Names) (number : ℕ) (x : Accumulator) where
      module _ (is : IsNumberOf number (key_at by t.old.rows pair.old) names) where
        number_was : IsNumberOf number (key_at by (rows_until place) pair.new) names
        number_was = subst (λ cells. IsNumberOf number cells names) (sym (ap (key_cells by) (was_cells place (omega arith)))) is

        all_there : Answers by names (rows_until place) x → Answers by names (removing [] (rows_until place)) x
        all_there p = subst (λ rows. Answers by names rows x) (sym (filter_all (rows_until place))) p

        pub was_held : Answers by names (rows_until place) x → HasRow number was x
        was_held p =
            subst (λ row. HasRow number row x) (was_cells place (omega arith))
            (has_row by (rows_until place) (rising_in (take place t.update.modified)) pair.new [] (here (take place t.update.modified)) refl names number number_was x (all_there p))

        pub goes : Answers by names (rows_until place) x → Answers by names (removing (pair.new ∷ []) (rows_until (place + 1))) (without_row number was x)
        goes p =
            subst (λ rows. Answers by names rows (without_row number was x)) others
            (subst (λ row. Answers by names (removing (pair.new ∷ []) (rows_until place)) (without_row number row x)) (was_cells place (omega arith))
            (loses by (rows_until place) (rising_in (take place t.update.modified)) pair.new [] (here (take place t.update.modified)) refl names number number_was x (all_there p)))

      pub comes : IsNumberOf number (key_at by t.new.rows pair.new) names → Answers by names (removing (pair.new ∷ []) (rows_until (place + 1))) x → Answers by names (rows_until (place + 1)) (with_row number now x)
      comes is p =
          subst (λ rows. Answers by names rows (with_row number now x)) (filter_all (rows_until (place + 1)))
          (subst (λ row. Answers by names (removing [] (rows_until (place + 1))) (with_row number row x)) now_cells
          (gains by (rows_until (place + 1)) (rising_in (take (place + 1) t.update.modified)) pair.new [] (here (take (place + 1) t.update.modified)) refl names number
          (subst (λ cells. IsNumberOf number cells names) (sym (ap (key_cells by) now_cells)) is) x p))

    -- the row goes into the group of its cells of now
    module _ (old new : Numbered) (r : IsRegrouped (member_of pair.new (key_at by t.new.rows pair.new) (pos 0)) old new) (are : groups_of old ≡ indexed by None (rows_until place)) where
      mid : groups_of r.between ≡ indexed by None (removing (pair.new ∷ []) (rows_until place))
      mid = r.left ∙ indexed_left by (rows_until place) (pair.new ∷ []) (groups_of old) are

      mids : groups_of r.between ≡ indexed by None (removing (pair.new ∷ []) (rows_until (place + 1)))
      mids = mid ∙ ap (indexed by None) others

      pub news : groups_of new ≡ indexed by None (rows_until (place + 1))
      news =
          r.came
          ∙ ap₂ (λ (width : ℕ) (cells : List ℤ). let grouped : Grouped = record { width = width; members = with_member (member_of pair.new (key_cells by cells) (pos 0)) r.between.members } in grouped)
          (sym (ap (λ (grouped : Grouped). grouped.width) r.left)) (sym now_cells)
          ∙ indexed_gains by (rows_until (place + 1)) (rising_in (take (place + 1) t.update.modified)) pair.new [] (here (take (place + 1) t.update.modified)) refl (groups_of r.between) mids
          ∙ ap (indexed by None) (filter_all (rows_until (place + 1)))

      pub switched : (x : Accumulator) → Answers by old.names (removing (pair.new ∷ []) (rows_until (place + 1))) x → Answers by new.names (removing (pair.new ∷ []) (rows_until (place + 1))) x
      switched =
          let rows = removing (pair.new ∷ []) (rows_until (place + 1)) in
          let are = ap (λ (grouped : Grouped). grouped.members) mids in
          same_answers by old.names new.names rows rows (λ column n. sym (same_named by column rows r.between old r.fewer are n) ∙ same_named by column rows r.between new r.more are n)

      -- each group has a number still
      pub whole_after : (number : ℕ) → IsNumberOf number (key_at by t.new.rows pair.new) new.names → IsPart new new
      whole_after number is = record { kept = λ number cells e. e; named = none; alone = r.more.alone }
        where
          rows : List PlainRow
          rows = rows_until (place + 1)

          by_cells : (cells : List ℤ) → ((number : ℕ) → name_at number new.names ≢ Some cells) → (b : Bool) → same_cells cells (key_at by rows pair.new) ≡ b → group_of cells new.members ≡ []
          by_cells cells unnamed true same = absurd (unnamed number (is.own ∙ ap Some (sym ((signed_items cells (key_at by rows pair.new)).0 same ∙ ap (key_cells by) now_cells))))
          by_cells cells unnamed false same =
              ap (λ (grouped : Grouped). group_of cells grouped.members) news ∙ group_is by rows cells
              ∙ ap (members by None) (sym (group_without by rows (pair.new ∷ []) cells (rising_in (take (place + 1) t.update.modified)) (same, tt)))
              ∙ sym (ap (λ (grouped : Grouped). group_of cells grouped.members) mids ∙ group_is by (removing (pair.new ∷ []) rows) cells)
              ∙ r.more.named cells (λ n e. unnamed n (r.more.kept n cells e))

          none : (cells : List ℤ) → ((number : ℕ) → name_at number new.names ≢ Some cells) → group_of cells new.members ≡ []
          none cells unnamed = by_cells cells unnamed (same_cells cells (key_at by rows pair.new)) refl

      in_between : (key : ℕ) → is_among key (new_keys (kept t e)) ≡ true → is_among key (pair.new ∷ []) ≡ false → group_of (key_at by (rows_until place) key) r.between.members ≢ []
      in_between key own apart none =
          in_group by (rows_until place) (rising_in (take place t.update.modified)) key (ap (is_among key) (keys_in (take place t.update.modified)) ∙ own) (pair.new ∷ []) apart
          (sym (ap (λ (grouped : Grouped). group_of (key_at by (rows_until place) key) grouped.members) mid) ∙ none)

      -- the group of a row that changes later keeps its number
      later_number : (other : ℕ) (next : KeyPair) → IsNext other next → place < other → (number : ℕ) → IsNumberOf number (key_at by t.old.rows next.old) old.names → IsNumberOf number (key_at by t.old.rows next.old) new.names
      later_number other next m later =
          let few : place ≤ other = omega (arith, later) in
          let own : key_at by (rows_until place) next.new ≡ key_at by t.old.rows next.old =
          ap (key_cells by) (cells_in_row (rows_until place) next.new (row_in t (take place t.update.modified) next) (m.found (take place t.update.modified)) ∙ ap (λ c. if c then cells_at next.new t.new.rows else cells_at next.old t.old.rows) (m.apart place few)) in
          let apart : is_among next.new (pair.new ∷ []) ≡ false =
          (or_parts _ _ (sym (ap (is_among next.new) n.more ∙ among-append next.new (take place t.update.modified) (pair.new ∷ [])) ∙ m.apart (place + 1) (omega (arith, later)))).1 in
          number_carried old r.between new r.fewer r.more (key_at by t.old.rows next.old) (subst (λ cells. group_of cells r.between.members ≢ []) own (in_between next.new m.own apart))

      pub later_numbers : (numbers : List ℕ) → HasNumbers by t old.names numbers place → HasNumbers by t new.names numbers (place + 1)
      later_numbers numbers have other few within =
          let next = next_pair other within in
          subst (λ key. IsNumberIn by t new.names key (get_or numbers other 0)) next.1.old
          (later_number other next.0 next.1 (omega (arith, few)) (get_or numbers other 0) (subst (λ key. IsNumberIn by t old.names key (get_or numbers other 0)) (sym next.1.old) (have other (omega (arith, few)) within)))

      -- and so do those of the rows that stay as they are or have changed
      abbrev Both : List ℤ → Type 0
      Both own = (number : ℕ) × ((name_at number old.names ≡ Some own) × (name_at number new.names ≡ Some own))

      done : (key : ℕ) → is_among key (new_keys (kept t e)) ≡ true → is_among key (take place t.update.modified) ≡ is_among key t.update.modified → is_among key (pair.new ∷ []) ≡ false → Both (key_at by t.new.rows key)
      done key own is apart =
          subst Both (of_among (λ key. is_among key (take place t.update.modified) ≡ is_among key t.update.modified → key_at by (rows_until place) key ≡ key_at by t.new.rows key) key (new_keys (kept t e)) (done_in (take place t.update.modified)) own is)
          (numbered_both old r.between new r.fewer r.more (key_at by (rows_until place) key) (in_between key own apart))

      pub both_numbered : AllByRecursion Both (staying_cells by t ++ map (key_at by t.new.rows) (take place t.update.modified))
      both_numbered =
          every-append Both (staying_cells by t) (map (key_at by t.new.rows) (take place t.update.modified))
          (every-map Both (key_at by t.new.rows) still
          (every_weaker IsStill (λ key. Both (key_at by t.new.rows key)) still
          (λ key is.
          done key is.kept ((or_parts _ _ (sym (taken place key) ∙ is.quiet)).0 ∙ sym is.quiet)
          (or_parts _ _ (sym (ap (is_among key) n.more ∙ among-append key (take place t.update.modified) (pair.new ∷ [])) ∙ (or_parts _ _ (sym (taken (place + 1) key) ∙ is.quiet)).0)).1)
          all_still))
          (every-map Both (key_at by t.new.rows) (take place t.update.modified)
          (every_weaker (λ key. is_among key (take place t.update.modified) ≡ true) (λ key. Both (key_at by t.new.rows key)) (take place t.update.modified)
          (λ key own.
          let among : is_among key t.update.modified ≡ true = taken place key ∙ ap (λ b. b || is_among key (drop place t.update.modified)) own in
          done key (of_among (λ key. is_among key (new_keys (kept t e)) ≡ true) key t.update.modified modified_kept among) (own ∙ sym among)
          (ap (λ b. b || false) (ne_eqb pair.new key (λ same. true≢false (sym own ∙ ap (λ k. is_among k (take place t.update.modified)) (sym same) ∙ n.apart place (omega arith))))))
          (each_among (take place t.update.modified))))

  -- groups, from which rows have gone and whose others have moved
  module _ (old mid : Numbered) (part : IsPart mid old) (mids : groups_of mid ≡ indexed by None (rows_in t [])) where
    some_in : (key : ℕ) → is_among key (new_keys (kept t e)) ≡ true → group_of (key_at by (rows_in t []) key) mid.members ≢ []
    some_in key own none =
        in_group by (rows_in t []) (rising_in []) key (ap (is_among key) (keys_in []) ∙ own) [] refl
        (ap (λ rows. group_of (key_at by (rows_in t []) key) (members by None rows)) (filter_all (rows_in t [])) ∙ sym (ap (λ (grouped : Grouped). group_of (key_at by (rows_in t []) key) grouped.members) mids) ∙ none)

    pub moved_noted : (before : List ℕ) → AreNoted old.names mid.names before before (staying_cells by t) []
    moved_noted before =
        noted_none old.names mid.names before (staying_cells by t)
        (every-map Both (key_at by t.new.rows) still
        (every_weaker IsStill (λ key. Both (key_at by t.new.rows key)) still
        (λ key is.
        subst Both (of_among (λ key. is_among key [] ≡ is_among key t.update.modified → key_at by (rows_in t []) key ≡ key_at by t.new.rows key) key (new_keys (kept t e)) (done_in []) is.kept (sym is.quiet))
        (numbered_both old mid mid part (part_own mid old part) (key_at by (rows_in t []) key) (some_in key is.kept)))
        all_still))
        (alone_in mid old part)
      where
        Both : List ℤ → Type 0
        Both own = (number : ℕ) × ((name_at number old.names ≡ Some own) × (name_at number mid.names ≡ Some own))

    module _ (olds : groups_of old ≡ indexed by None t.old.rows) (numbers : List ℕ) (all : AllZip (IsNumberUnder old) (old_modified (keys t.old.rows) t.update) numbers) where
      known_old : (key number : ℕ) → is_among key (keys t.old.rows) ≡ true → IsNumberUnder old key number → IsNumberOf number (key_at by t.old.rows key) old.names
      known_old key number there under =
          under (key_at by t.old.rows key) (ap (λ (grouped : Grouped). option_map (λ (member : Member). member.cells) (member_under key grouped.members)) olds ∙ cells_known by None t.old.rows key there)

      -- the numbers of the groups of the rows that change are the same
      pub moved_numbers : AllZip (IsNumberIn by t mid.names) (old_modified (keys t.old.rows) t.update) numbers
      moved_numbers =
          zipped_weaker (IsNumberUnder old) (IsNumberIn by t mid.names) (old_modified (keys t.old.rows) t.update)
          (subst (AllByRecursion Stays) (sym (modified_old t e))
          (every-map Stays (λ (pair : KeyPair). pair.old) (filter (is_modified t e) (kept t e))
          (every-filter (λ pair. Stays pair.old) (is_modified t e) (kept t e)
          (every_both (λ pair. is_among pair.old (keys t.old.rows) ≡ true) (λ pair. group_of (key_at by t.old.rows pair.old) mid.members ≢ []) (λ pair. Stays pair.old) (kept t e)
          (λ pair there some number under. number_carried old mid mid part (part_own mid old part) (key_at by t.old.rows pair.old) some number (known_old pair.old number there under))
          (every_unmapped (λ key. is_among key (keys t.old.rows) ≡ true) (λ (pair : KeyPair). pair.old) (kept t e) e.tick.of_old)
          (every_both (λ pair. row_at pair.new (rows_in t []) ≡ Some (row_in t [] pair)) (λ pair. is_among pair.new (new_keys (kept t e)) ≡ true) (λ pair. group_of (key_at by t.old.rows pair.old) mid.members ≢ []) (kept t e)
          (λ pair found own. subst (λ cells. group_of (key_cells by cells) mid.members ≢ []) (cells_in_row (rows_in t []) pair.new (row_in t [] pair) found) (some_in pair.new own)) (found_in [])
          (every_unmapped (λ key. is_among key (new_keys (kept t e)) ≡ true) (λ (pair : KeyPair). pair.new) (kept t e) (each_among (new_keys (kept t e)))))))))
          numbers all
        where
          Stays : ℕ → Type 0
          Stays key = (number : ℕ) → IsNumberUnder old key number → IsNumberIn by t mid.names key number

      -- and they are noted, where the touched groups are
      pub numbers_noted : (touched : List ℕ) → HaveNoted old [] touched (touched_cells by t) → AllByRecursion (λ number. is_among number touched ≡ true) numbers
      numbers_noted touched noted = zipped (old_modified (keys t.old.rows) t.update) numbers (changed_there t e) (each_among (old_modified (keys t.old.rows) t.update)) all
        where
          one : (key number : ℕ) → is_among key (keys t.old.rows) ≡ true → is_among key (old_modified (keys t.old.rows) t.update) ≡ true → IsNumberUnder old key number → is_among number touched ≡ true
          one key number here own under =
              let cells = key_at by t.old.rows key in
              noted.named number ∙ named_is (touched_cells by t) cells old.names number (known_old key number here under).own ∙ touched_any (same_cells cells)
              ∙ ap (λ b. (any_keys t.old.rows t.update.removed (same_cells cells) || b) || (any_keys t.new.rows t.update.added (same_cells cells) || any_keys t.new.rows t.update.modified (same_cells cells)))
              (any-map (same_cells cells) (key_at by t.old.rows) (old_modified (keys t.old.rows) t.update) ∙ any_of (λ k. same_cells cells (key_at by t.old.rows k)) key (old_modified (keys t.old.rows) t.update) own ((signed_items cells cells).1 refl))
              ∙ ap (λ b. b || (any_keys t.new.rows t.update.added (same_cells cells) || any_keys t.new.rows t.update.modified (same_cells cells))) (or_right (any_keys t.old.rows t.update.removed (same_cells cells)) true refl)

          zipped : (ks numbers : List ℕ) → AllByRecursion (λ key. is_among key (keys t.old.rows) ≡ true) ks → AllByRecursion (λ key. is_among key (old_modified (keys t.old.rows) t.update) ≡ true) ks → AllZip (IsNumberUnder old) ks numbers
              → AllByRecursion (λ number. is_among number touched ≡ true) numbers
          zipped [] [] h own all = tt
          zipped [] (number ∷ numbers) h own all = absurd all
          zipped (key ∷ ks) [] h own all = absurd all
          zipped (key ∷ ks) (number ∷ numbers) h own all = (one key number h.0 own.0 all.0, zipped ks numbers h.1 own.1 all.1)

-- the groups of the rows that go or change are noted
pub went_noted : (by : List ℕ) (t : Ticking) → IsExact t → (rows : Numbered) → groups_of rows ≡ indexed by None t.old.rows → (leaving : Leaving) → AreLeaving leaving by rows t → (start first second : List ℕ) → start ≡ []
    → ((test : ℕ → Bool) → list_any test first ≡ (list_any test start || list_any test leaving.removed.items)) → ((test : ℕ → Bool) → list_any test second ≡ (list_any test first || list_any test leaving.modified.items)) → HaveNoted rows [] second (went_cells by t)
went_noted by t e rows are leaving is start first second nothing one two =
    noted_next rows [] first (map (key_at by t.old.rows) t.update.removed)
    (subst (HaveNoted rows [] first) (kept_own_cells by t.old e.tick.old_table (groups_of rows) are t.update.removed (removed_there t e))
    (noted_rows rows [] first t.update.removed leaving.removed.items (λ test. one test ∙ ap (λ some. list_any test some || list_any test leaving.removed.items) nothing) (own_there by t.old e.tick.old_table (groups_of rows) are t.update.removed (removed_there t e)) is.removed))
    second (map (key_at by t.old.rows) modified)
    (subst (HaveNoted rows first second) (kept_own_cells by t.old e.tick.old_table (groups_of rows) are modified (changed_there t e))
    (noted_rows rows first second modified leaving.modified.items two (own_there by t.old e.tick.old_table (groups_of rows) are modified (changed_there t e)) is.modified))
  where
    modified : List ℕ
    modified = old_modified (keys t.old.rows) t.update

-- one row more
pub cells_more : (some : List (List ℤ)) (f : ℕ → List ℤ) (ks : List ℕ) (place : ℕ) → place < length ks → (own : List ℤ) → own ≡ f (get_or ks place 0) → (some ++ map f (take place ks)) ++ own ∷ [] ≡ some ++ map f (take (place + 1) ks)
cells_more some f ks place within own is =
    append_assoc some (map f (take place ks)) (own ∷ [])
    ∙ ap (λ more. some ++ more) (ap (λ own. map f (take place ks) ++ own ∷ []) is ∙ sym (map-append f (take place ks) (get_or ks place 0 ∷ [])) ∙ ap (map f) (sym (take_more ks place 0 within)))

-- the key at the place of a turn
pub key_in_turn : (keys yielded others : List ℕ) (key place : ℕ) → keys ≡ yielded ++ key ∷ others → place ≡ length yielded → (place < length keys) × (get_or keys place 0 ≡ key)
key_in_turn keys yielded others key place next count =
    (let long = ap length next ∙ length-append yielded (key ∷ others) in omega (arith, long, count), ap₂ (λ ks n. get_or ks n 0) next count ∙ get_or_at yielded key others 0 (length yielded) refl)
