-- The rows of a view are made of those of its input.
use Rattle.std.proofs.Common.{◌≡◌, refl, append-nil, ap, ap₂, sym, ◌∙◌, subst, Bool, true, false, not, ◌&&◌, ◌||◌, ◌==◌, ℕ, ◌+◌, ◌<◌, arith, List, [], ◌∷◌, ◌++◌, map, length, take, filter, get_or, get_or-append-add, ℤ, inl, inr, lt-ltb, le-ltb, true≢false}
use lib.ListN.{get_or-append}
use Rattle.std.{specs.Cmp.Rules.signed_items, specs.List.{AllByRecursion, list_any, range_with_len}, specs.Ordering.int_eq, specs.Prelude.{nat_lt, slice_index}, proofs.lemmas.Bool.{cases_eq, cases_lt, eq-eqb, ne_eqb, not-false, or_left}, proofs.lemmas.List.Folds.list_any-append, proofs.lemmas.List.{get_or-map, length-map, take_more}}
use Rattle.key_lists.{specs.Keys.{IsRising, is_among}, proofs.Among.{among-filter, among_above}, proofs.Booleans.{and_false, and_true, or_false}, proofs.Every.{any-map, any_in, every, every_both, every_unmapped, every_weaker, every-filter, filter_all, filter_passes, filter_same, map_same}, proofs.Parts.{every_at, every_back, every_front, some_at, take_front}, proofs.Ranges.{among_range, range_below}, proofs.Rising.rising_some}
use Rattle.shift_data.specs.Moves.{pairs_of}
use Rattle.table_update.specs.Kept.{old_modified}
use Rattle.tick_model.{specs.declared.plan.Expr.Expr, specs.declared.plan.Op.TheVariants.View, specs.declared.table.PlainTable.PlainTable, specs.declared.update.KeyPair.KeyPair, specs.Changes.{Change, change_of}, specs.Formulas.value, specs.Tables.{IsTable, cell, cells_at, keys, null}, specs.Updates.{IsTick, Tick, Update, between, differs, differs_in, new_keys, pairs}, specs.View.view_table}
use Rattle.tick_laws.{proofs.ResultTables.result_table, proofs.ToldRows.told_there}
use Rattle.row_set.{specs.Sets.with_key, proofs.Held.range_rises, proofs.United.among-with_key}
use Rattle.row_changes.{specs.Mapped.IsMapped, specs.Parts.{AreCompared, Parts, cells_under, tick_along}, proofs.Comparing.{cells_more, column_next, same_column}, proofs.Differing.{AreThose, column_more, column_passed}, proofs.MadeChange.change_is, proofs.MappedParts.mapped_parts, proofs.MadeRows.{cells-made, keys-made, made_compared}}
use Rattle.shown_rows.proofs.Restricted.{any_same, is_modified, kept, modified_by, modified_new, modified_old, modified_pairs}
use Rattle.tick_table.{specs.Exact.{IsExact, tick_of}, specs.Ticking.Ticking, proofs.WholeRows.row_whole}
use Rattle.row_ops.specs.Viewer.{with_values}

pub keys-view : (exprs : List Expr) (table : PlainTable) → keys (view_table exprs table).rows ≡ keys table.rows
keys-view exprs table = keys-made (with_values exprs) table.rows

pub cells-view : (exprs : List Expr) (table : PlainTable) (key : ℕ) → is_among key (keys table.rows) ≡ true → cells_at key (view_table exprs table).rows ≡ with_values exprs (cells_at key table.rows)
cells-view exprs table key own = cells-made (with_values exprs) key table.rows own

view_is_table : (exprs : List Expr) (table : PlainTable) → IsTable table → IsTable (view_table exprs table)
view_is_table exprs table t = result_table (View 0 exprs) (λ _. table) (t, tt) tt

pub view_mapped : (exprs : List Expr) (input : Tick) → IsTick input → IsMapped input (view_table exprs input.old) (view_table exprs input.new)
view_mapped exprs input h = record {
  before = keys-view exprs input.old;
  now = keys-view exprs input.new;
  old_table = view_is_table exprs input.old h.old_table;
  new_table = view_is_table exprs input.new h.new_table;
  one_width = ap (λ w. w + length exprs) h.one_width;
}

pub view_compared : (exprs : List Expr) (t : Ticking) → IsExact t → AreCompared (view_table exprs t.old) (view_table exprs t.new) (pairs t.old t.update) (old_modified (keys t.old.rows) t.update) t.update.modified
view_compared exprs t e = made_compared (with_values exprs) t e (view_table exprs t.old) (view_table exprs t.new) refl refl

-- whether rows differ in a column behind the first ones
abbrev pub differs_behind : ℕ → List ℤ → List ℤ → ℕ → Bool
differs_behind width before now column = not (nat_lt column width) && not (int_eq (cell before column) (cell now column))

-- the cell of a value
pub value_cell : (exprs : List Expr) (cells : List ℤ) (place : ℕ) (expr : Expr) → place < length exprs → expr ≡ get_or exprs place expr → cell (with_values exprs cells) (length cells + place) ≡ value expr cells
value_cell exprs cells place expr within is =
    get_or-append-add cells (map (λ expr. value expr cells) exprs) place null ∙ get_or-map (λ expr. value expr cells) exprs place expr null within ∙ ap (λ expr. value expr cells) (sym is)

-- rows with values are the same where the rows are
same_rows : (exprs : List Expr) (before now : List ℤ) → length before ≡ length now → with_values exprs before ≡ with_values exprs now → before ≡ now
same_rows exprs before now even same =
    sym (take_front before (map (λ expr. value expr before) exprs)) ∙ ap₂ (λ n cells. take n cells) even same ∙ take_front now (map (λ expr. value expr now) exprs)

-- the cells of one more row that is told
pub cells_told : (exprs : List Expr) (table : PlainTable) (told : List ℕ) (place : ℕ) (others cells more row : List ℤ) → AllByRecursion (λ key. is_among key (keys table.rows) ≡ true) told → place < length told → row ≡ cells_at (slice_index told place) table.rows
    → cells ≡ others ++ cells_under (view_table exprs table) (take place told) → more ≡ cells ++ with_values exprs row → more ≡ others ++ cells_under (view_table exprs table) (take (place + 1) told)
cells_told exprs table told place others cells more row there within is so_far next =
    let key = slice_index told place in
    cells_more (view_table exprs table) others cells more (take place told) (key ∷ []) (take (place + 1) told) so_far (take_more told place 0 within)
    (next ∙ ap (λ row. cells ++ row) (ap (with_values exprs) is ∙ sym (cells-view exprs table key (every_at (λ key. is_among key (keys table.rows) ≡ true) told place 0 within there)) ∙ sym (append-nil (cells_at key (view_table exprs table).rows))))

-- in the column of a value the values are compared
pub value_column : (exprs : List Expr) (before now : List ℤ) (place : ℕ) (expr : Expr) → place < length exprs → expr ≡ get_or exprs place expr
    → not (int_eq (value expr before) (cell now (length before + place))) ≡ differs_behind (length before) (with_values exprs before) now (length before + place)
value_column exprs before now place expr within is =
    sym (ap₂ (λ less was. not less && not (int_eq was (cell now (length before + place)))) (le-ltb (length before + place) (length before) (omega arith)) (value_cell exprs before place expr within is))

-- a column that is among those told need not be looked at
pub column_known : (columns set : List ℕ) (differ : ℕ → Bool) (place : ℕ) → AreThose columns differ place set → is_among place set ≡ true → AreThose columns differ (place + 1) set
column_known columns set differ place h own =
    (elim (differ place) as (λ b. differ place ≡ b → AreThose columns differ (place + 1) set) [
      | true ↦ λ e c. sym (same c) ∙ column_more columns set differ place h e c
      | false ↦ λ e. column_passed columns set differ place h e
    ]) refl
  where
    same : (c : ℕ) → is_among c (with_key place set) ≡ is_among c set
    same c =
        among-with_key c place set
        ∙ elim (cases_eq place c) [
          | inl here ↦ or_left (place == c) (is_among c set) (eq-eqb place c here) ∙ sym (ap (λ c. is_among c set) (sym here) ∙ own)
          | inr apart ↦ ap (λ b. b || is_among c set) (ne_eqb place c apart)
        ]

module _ (exprs : List Expr) (t : Ticking) where
  abbrev old : PlainTable
  old = view_table exprs t.old

  abbrev new : PlainTable
  new = view_table exprs t.new

  -- whether the two rows of a pair differ in a column of values
  abbrev pub value_differs : ℕ → KeyPair → Bool
  value_differs column pair = not (nat_lt column t.new.width) && differs_in old new column pair

  module _ (e : IsExact t) where
    pub columns_rise : IsRising t.update.columns
    columns_rise = subst (λ (update : Update). IsRising update.columns) (sym e.update) (rising_some (λ column. list_any (differs_in t.old t.new column) (kept t e)) (range_with_len 0 t.new.width) (range_rises 0 t.new.width))

    -- the rows that are told are there
    pub added_there : AllByRecursion (λ key. is_among key (keys t.new.rows) ≡ true) t.update.added
    added_there = subst (λ (update : Update). AllByRecursion (λ key. is_among key (keys t.new.rows) ≡ true) update.added) (sym e.update) (every_front (λ key. is_among key (keys t.new.rows) ≡ true) (between (tick_of t)).added (between (tick_of t)).modified (told_there (tick_of t) e.tick))

    pub modified_there : AllByRecursion (λ key. is_among key (keys t.new.rows) ≡ true) t.update.modified
    modified_there = subst (λ (update : Update). AllByRecursion (λ key. is_among key (keys t.new.rows) ≡ true) update.modified) (sym e.update) (every_back (λ key. is_among key (keys t.new.rows) ≡ true) (between (tick_of t)).added (between (tick_of t)).modified (told_there (tick_of t) e.tick))

    abbrev changed : List KeyPair
    changed = filter (is_modified t e) (kept t e)

    record IsChanged (pair : KeyPair) : Type 0 where
      was : is_among pair.old (keys t.old.rows) ≡ true
      now : is_among pair.new (keys t.new.rows) ≡ true
      differ : differs t.old t.new pair ≡ true

    all_changed : AllByRecursion IsChanged changed
    all_changed =
        every_both (λ (pair : KeyPair). is_modified t e pair ≡ true) (λ pair. is_modified t e pair ≡ true → IsChanged pair) IsChanged changed (λ pair is f. f is) (filter_passes (is_modified t e) (kept t e))
        (every-filter (λ pair. is_modified t e pair ≡ true → IsChanged pair) (is_modified t e) (kept t e)
        (every_both (λ (pair : KeyPair). is_among pair.old (keys t.old.rows) ≡ true) (λ pair. is_modified t e pair ≡ true → (is_among pair.new (keys t.new.rows) ≡ true) × (differs t.old t.new pair ≡ true)) (λ pair. is_modified t e pair ≡ true → IsChanged pair) (kept t e)
        (λ pair was f is. record { was = was; now = (f is).0; differ = (f is).1 })
        (every_unmapped (λ key. is_among key (keys t.old.rows) ≡ true) (λ (pair : KeyPair). pair.old) (kept t e) e.tick.of_old)
        (every_both (λ (pair : KeyPair). is_among pair.new (keys t.new.rows) ≡ true) (λ pair. is_modified t e pair ≡ differs t.old t.new pair) (λ pair. is_modified t e pair ≡ true → (is_among pair.new (keys t.new.rows) ≡ true) × (differs t.old t.new pair ≡ true)) (kept t e)
        (λ pair now same is. (now, sym same ∙ is))
        (every_unmapped (λ key. is_among key (keys t.new.rows) ≡ true) (λ (pair : KeyPair). pair.new) (kept t e) e.tick.of_new)
        (modified_by t e))))

    even : (pair : KeyPair) → IsChanged pair → length (cells_at pair.old t.old.rows) ≡ length (cells_at pair.new t.new.rows)
    even pair c = row_whole pair.old t.old e.tick.old_table c.was ∙ sym e.tick.one_width ∙ sym (row_whole pair.new t.new e.tick.new_table c.now)

    -- a modified row of the input is one of the view
    view_differs : (pair : KeyPair) → IsChanged pair → differs old new pair ≡ true
    view_differs pair c =
        (elim (differs old new pair) as (λ b. differs old new pair ≡ b → b ≡ true) [
          | true ↦ λ is. refl
          | false ↦ λ is.
              absurd (true≢false (sym c.differ
              ∙ ap not ((signed_items (cells_at pair.old t.old.rows) (cells_at pair.new t.new.rows)).1
              (same_rows exprs (cells_at pair.old t.old.rows) (cells_at pair.new t.new.rows) (even pair c)
              (sym (cells-view exprs t.old pair.old c.was) ∙ (signed_items (cells_at pair.old old.rows) (cells_at pair.new new.rows)).0 (not-false _ is) ∙ cells-view exprs t.new pair.new c.now)))))
        ]) refl

    -- whether one more modified row differs in a column of values
    pub column_told : (place : ℕ) (before now : List ℤ) → place < length t.update.modified → before ≡ cells_at (slice_index (old_modified (keys t.old.rows) t.update) place) t.old.rows → now ≡ with_values exprs (cells_at (slice_index t.update.modified place) t.new.rows)
        → (column : ℕ) (told was is : Bool) → was ≡ (told || (nat_lt column new.width && list_any (value_differs column) (take place (pairs_of (old_modified (keys t.old.rows) t.update) t.update.modified))))
        → is ≡ (was || (nat_lt column (length before + length exprs) && differs_behind (length before) (with_values exprs before) now column))
        → is ≡ (told || (nat_lt column new.width && list_any (value_differs column) (take (place + 1) (pairs_of (old_modified (keys t.old.rows) t.update) t.update.modified))))
    column_told place before now within before_is now_is column told was is so_far next =
        let inside : place < length changed = omega (arith, within, ap length (modified_new t e), length-map changed (λ (pair : KeyPair). pair.new)) in
        let pair = (some_at changed place inside).0 in
        let here : pair ≡ get_or changed place pair = (some_at changed place inside).1 in
        let c : IsChanged pair = subst IsChanged (sym here) (every_at IsChanged changed place pair inside all_changed) in
        let old_key : slice_index (old_modified (keys t.old.rows) t.update) place ≡ pair.old =
        ap (λ (ks : List ℕ). get_or ks place 0) (modified_old t e) ∙ get_or-map (λ (pair : KeyPair). pair.old) changed place pair 0 inside ∙ ap (λ (pair : KeyPair). pair.old) (sym here) in
        let new_key : slice_index t.update.modified place ≡ pair.new =
        ap (λ (ks : List ℕ). get_or ks place 0) (modified_new t e) ∙ get_or-map (λ (pair : KeyPair). pair.new) changed place pair 0 inside ∙ ap (λ (pair : KeyPair). pair.new) (sym here) in
        let was_row : before ≡ cells_at pair.old t.old.rows = before_is ∙ ap (λ key. cells_at key t.old.rows) old_key in
        let wide : length before ≡ t.new.width = ap length was_row ∙ row_whole pair.old t.old e.tick.old_table c.was ∙ sym e.tick.one_width in
        let before_row : with_values exprs before ≡ cells_at pair.old old.rows = ap (with_values exprs) was_row ∙ sym (cells-view exprs t.old pair.old c.was) in
        let now_row : now ≡ cells_at pair.new new.rows = now_is ∙ ap (λ key. with_values exprs (cells_at key t.new.rows)) new_key ∙ sym (cells-view exprs t.new pair.new c.now) in
        let more : take (place + 1) (pairs_of (old_modified (keys t.old.rows) t.update) t.update.modified) ≡ take place (pairs_of (old_modified (keys t.old.rows) t.update) t.update.modified) ++ pair ∷ [] =
        ap (take (place + 1)) (modified_pairs t e) ∙ take_more changed place pair inside ∙ ap₂ (λ some next. take place some ++ next ∷ []) (sym (modified_pairs t e)) (sym here) in
        let some = take place (pairs_of (old_modified (keys t.old.rows) t.update) t.update.modified) in
        next
        ∙ ap₂ (λ was n. was || (nat_lt column (n + length exprs) && differs_behind n (with_values exprs before) now column)) so_far wide
        ∙ ap₂ (λ one two. (told || (nat_lt column new.width && list_any (value_differs column) some)) || (nat_lt column new.width && differs_behind t.new.width one two column)) before_row now_row
        ∙ column_next told (nat_lt column new.width) (list_any (value_differs column) some) (value_differs column pair)
        ∙ ap (λ any. told || (nat_lt column new.width && any)) (ap (λ b. list_any (value_differs column) some || b) (sym (or_false (value_differs column pair))) ∙ sym (list_any-append (value_differs column) some (pair ∷ [])) ∙ ap (list_any (value_differs column)) (sym more))

    pub modified_viewed : t.update.modified ≡ new_keys (filter (differs old new) (pairs_of (old_modified (keys t.old.rows) t.update) t.update.modified))
    modified_viewed =
        modified_new t e
        ∙ ap new_keys (sym (filter_all changed) ∙ filter_same (λ _. true) (differs old new) changed (every_weaker IsChanged (λ pair. true ≡ differs old new pair) changed (λ pair c. sym (view_differs pair c)) all_changed))
        ∙ ap (λ some. new_keys (filter (differs old new) some)) (sym (modified_pairs t e))

    -- a column of the input differs where the view's does
    same_cells_in : (column : ℕ) → column < t.new.width → (pair : KeyPair) → IsChanged pair → differs_in t.old t.new column pair ≡ differs_in old new column pair
    same_cells_in column below pair c =
        ap₂ (λ x y. not (int_eq x y))
        (sym (ap (λ cells. cell cells column) (cells-view exprs t.old pair.old c.was) ∙ get_or-append (cells_at pair.old t.old.rows) (map (λ expr. value expr (cells_at pair.old t.old.rows)) exprs) null column (omega (arith, below, e.tick.one_width, row_whole pair.old t.old e.tick.old_table c.was))))
        (sym (ap (λ cells. cell cells column) (cells-view exprs t.new pair.new c.now) ∙ get_or-append (cells_at pair.new t.new.rows) (map (λ expr. value expr (cells_at pair.new t.new.rows)) exprs) null column (omega (arith, below, row_whole pair.new t.new e.tick.new_table c.now))))

    told_columns : (column : ℕ) → is_among column t.update.columns ≡ (list_any (differs_in t.old t.new column) changed && is_among column (range_with_len 0 t.new.width))
    told_columns column =
        ap (λ (update : Update). is_among column update.columns) e.update
        ∙ among-filter (λ column. list_any (differs_in t.old t.new column) (kept t e)) column (range_with_len 0 t.new.width)
        ∙ ap (λ b. b && is_among column (range_with_len 0 t.new.width))
        (sym (any_in (differs_in t.old t.new column) (is_modified t e) (kept t e)
        (every_weaker (λ pair. is_modified t e pair ≡ differs t.old t.new pair) (λ pair. is_modified t e pair ≡ false → differs_in t.old t.new column pair ≡ false) (kept t e)
        (λ pair same is. same_column t.old t.new column pair (sym same ∙ is)) (modified_by t e))))

    -- the columns of the view are those of the input and those in which values differ
    pub columns_viewed : (column : ℕ) → (is_among column t.update.columns || (nat_lt column new.width && list_any (value_differs column) (pairs_of (old_modified (keys t.old.rows) t.update) t.update.modified))) ≡ (nat_lt column new.width && list_any (differs_in old new column) (pairs_of (old_modified (keys t.old.rows) t.update) t.update.modified))
    columns_viewed column =
        ap (λ some. is_among column t.update.columns || (nat_lt column new.width && list_any (value_differs column) some)) (modified_pairs t e)
        ∙ elim (cases_lt column t.new.width) [
          | inl below ↦
              ap₂ (λ told less. told || (less && list_any (value_differs column) changed))
              (told_columns column ∙ ap (λ b. list_any (differs_in t.old t.new column) changed && b) (among_range column 0 t.new.width (omega arith) (omega (arith, below))) ∙ and_true _
              ∙ any_same (differs_in t.old t.new column) (differs_in old new column) changed (every_weaker IsChanged (λ pair. differs_in t.old t.new column pair ≡ differs_in old new column pair) changed (same_cells_in column below) all_changed))
              (lt-ltb column new.width (omega (arith, below)))
              ∙ ap (λ others. list_any (differs_in old new column) changed || others)
              (any_same (value_differs column) (λ _. false) changed (every (λ pair. value_differs column pair ≡ false) changed (λ pair. ap (λ less. not less && differs_in old new column pair) (lt-ltb column t.new.width below))) ∙ none changed)
              ∙ or_false _
              ∙ sym (ap (λ less. less && list_any (differs_in old new column) changed) (lt-ltb column new.width (omega (arith, below))))
          | inr past ↦
              ap₂ (λ told others. told || (nat_lt column new.width && others))
              (told_columns column ∙ ap (λ b. list_any (differs_in t.old t.new column) changed && b) (among_above column (range_with_len 0 t.new.width) (every_weaker (λ k. k < 0 + t.new.width) (λ k. k < column) (range_with_len 0 t.new.width) (λ k less. omega (arith, less, past)) (range_below 0 t.new.width))) ∙ and_false _)
              (any_same (value_differs column) (differs_in old new column) changed (every (λ pair. value_differs column pair ≡ differs_in old new column pair) changed (λ pair. ap (λ less. not less && differs_in old new column pair) (le-ltb column t.new.width past))))
        ]
        ∙ ap (λ some. nat_lt column new.width && list_any (differs_in old new column) some) (sym (modified_pairs t e))
      where
        none : (pairs : List KeyPair) → list_any (λ _. false) pairs ≡ false
        none [] = refl
        none (pair ∷ others) = none others

    -- so the input's update with these columns, and the rows that it tells with their values, are the view's change
    pub change_viewed : (update : Update) (columns : List ℕ) (cells : List ℤ) → update ≡ t.update → IsRising columns
        → ((column : ℕ) → is_among column columns ≡ (nat_lt column new.width && list_any (differs_in old new column) (pairs_of (old_modified (keys t.old.rows) t.update) t.update.modified)))
        → cells ≡ cells_under new t.update.added ++ cells_under new t.update.modified
        → let made : Change = record { update = record update { columns = columns }; cells = cells } in made ≡ change_of (tick_along old new (kept t e))
    change_viewed update columns cells is rising told rows =
        ap (λ (update : Update). let made : Change = record { update = record update { columns = columns }; cells = cells } in made) is
        ∙ change_is old new
        (let parts : Parts = record { removed = t.update.removed; added = t.update.added; shifted = t.update.shifted; compared_before = old_modified (keys t.old.rows) t.update; compared_now = t.update.modified } in parts) (kept t e)
        (mapped_parts t e old new (view_mapped exprs (tick_of t) e.tick) (old_modified (keys t.old.rows) t.update) t.update.modified (view_compared exprs t e)) t.update.modified columns cells modified_viewed rising told rows
