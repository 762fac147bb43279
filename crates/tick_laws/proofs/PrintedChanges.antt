-- The change of a tick is printable, where the rows of its new table fit the columns.
use Rattle.std.proofs.Common.{◌≡◌, refl, ap, ap₂, sym, ◌∙◌, subst, ℕ, zero, suc, ◌+◌, ◌*◌, ◌<◌, ◌≤◌, ◌^◌, arith, Bool, true, false, cond, not, ◌&&◌, ◌||◌, List, [], ◌∷◌, map, length, length-append, add-one, ℤ, pos}
use Rattle.std.{specs.Prelude.{filter, flat_map, FitsSigned}, specs.List.{AllByRecursion, list_any, range_with_len}, specs.Int.w64, specs.Ordering.int_eq, proofs.lemmas.Int.ints}
use Rattle.tick_model.{specs.declared.plan.ColumnSpec.ColumnSpec, specs.declared.table.PlainRow.PlainRow, specs.declared.table.PlainTable.PlainTable, specs.declared.update.KeyPair.KeyPair, specs.declared.update.ShiftRange.ShiftRange, specs.Tables.{cell, cells_at, same_cells, keys, IsRow, IsTable}, specs.Shifts.{delta, one, extend, stretches}, specs.Updates.{Tick, IsTick, Update, old_keys, differs, differs_in, between}, specs.Changes.{change_of, is_none, rows_under, told_keys, told_cells}, specs.Printable.{IsShift, IsShiftRange, fit_columns, IsPrintable}}
use Rattle.key_lists.{specs.Keys.is_among, proofs.Among.of_among, proofs.Every.{every, every_weaker, every_both, every-map, every_unmapped, every-filter, every-append}, proofs.Rising.rising_some, proofs.Ranges.range_below}
use Rattle.tick_laws.{specs.Fitting.{FitsColumns, HasColumns}, proofs.LawfulSources.rising_range, proofs.Moves.{IsApart, stretches_apart}, proofs.ToldRows.{row_under, cells_of_row, added_rise, modified_rise, modified_apart, told_there, rows_told}}

-- ranges that lie apart, without those that move nothing
apart_above : (low : ℕ) (ranges : List ShiftRange) → IsApart low ranges → AllByRecursion (λ (range : ShiftRange). low ≤ range.begin) ranges
apart_above low [] a = tt
apart_above low (range ∷ ranges) a = (a.0, every_weaker (λ (next : ShiftRange). suc range.end ≤ next.begin) (λ (next : ShiftRange). low ≤ next.begin) ranges (λ next h. omega (arith, h, a.0, a.1)) (apart_above (suc range.end) ranges a.2))

shift_moving : (low : ℕ) (ranges : List ShiftRange) → IsApart low ranges → IsShift (filter (λ (range : ShiftRange). not (int_eq range.delta (pos 0))) ranges)
shift_moving low [] a = tt
shift_moving low (range ∷ ranges) a =
    (elim (int_eq range.delta (pos 0)) as (λ b. int_eq range.delta (pos 0) ≡ b → IsShift (cond (not b) (range ∷ filter moving ranges) (filter moving ranges))) [
      | true ↦ λ e. shift_moving (suc range.end) ranges a.2
      | false ↦ λ e. (
        a.1,
        e,
        every-filter (λ (next : ShiftRange). range.end < next.begin) moving ranges (every_weaker (λ (next : ShiftRange). suc range.end ≤ next.begin) (λ (next : ShiftRange). range.end < next.begin) ranges (λ next h. h) (apart_above (suc range.end) ranges a.2)),
        shift_moving (suc range.end) ranges a.2,
      )
    ]) refl
  where
    moving : ShiftRange → Bool
    moving range = not (int_eq range.delta (pos 0))

-- the ranges of pairs of keys below a limit
one_range : (limit : ℕ) (pair : KeyPair) → pair.old < limit → pair.new < limit → IsShiftRange limit (one pair)
one_range limit pair o n = record { begin = o; end = o; up = omega (arith, ints, o, n); down = omega (arith, ints, o, n) }

ranges_of : (limit : ℕ) (pairs : List KeyPair) → AllByRecursion (λ (pair : KeyPair). (pair.old < limit) × (pair.new < limit)) pairs → AllByRecursion (IsShiftRange limit) (stretches pairs)
ranges_of limit [] h = tt
ranges_of limit (pair ∷ pairs) h = go (stretches pairs) (ranges_of limit pairs h.1)
  where
    go : (ranges : List ShiftRange) → AllByRecursion (IsShiftRange limit) ranges → AllByRecursion (IsShiftRange limit) (extend pair ranges)
    go [] r = (one_range limit pair h.0.0 h.0.1, tt)
    go (range ∷ ranges) r =
        elim (int_eq (delta pair) range.delta) as (λ b. AllByRecursion (IsShiftRange limit) (cond b ((record range { begin = pair.old }) ∷ ranges) (one pair ∷ range ∷ ranges))) [
          | true ↦ (record { begin = h.0.0; end = r.0.end; up = r.0.up; down = r.0.down }, r.1)
          | false ↦ (one_range limit pair h.0.0 h.0.1, r)
        ]

-- any of any, from either side
any_none : {X : Type 0} (xs : List X) → list_any (λ _. false) xs ≡ false
any_none [] = refl
any_none (x ∷ xs) = any_none xs

any_or : {X : Type 0} (p q : X → Bool) (xs : List X) → list_any (λ x. p x || q x) xs ≡ (list_any p xs || list_any q xs)
any_or p q [] = refl
any_or p q (x ∷ xs) = ap (λ b. (p x || q x) || b) (any_or p q xs) ∙ shuffle (p x) (q x) (list_any p xs) (list_any q xs)
  where
    shuffle : (a b c d : Bool) → ((a || b) || (c || d)) ≡ ((a || c) || (b || d))
    shuffle true b c d = refl
    shuffle false true true d = refl
    shuffle false true false d = refl
    shuffle false false c d = refl

any_swap : {X Y : Type 0} (r : X → Y → Bool) (xs : List X) (ys : List Y) → list_any (λ x. list_any (r x) ys) xs ≡ list_any (λ y. list_any (λ x. r x y) xs) ys
any_swap r [] ys = sym (any_none ys)
any_swap r (x ∷ xs) ys = ap (λ b. list_any (r x) ys || b) (any_swap r xs ys) ∙ sym (any_or (r x) (λ y. list_any (λ x. r x y) xs) ys)

any_same : {X : Type 0} (p q : X → Bool) (xs : List X) → AllByRecursion (λ x. p x ≡ q x) xs → list_any p xs ≡ list_any q xs
any_same p q [] h = refl
any_same p q (x ∷ xs) h = ap₂ (λ a b. a || b) h.0 (any_same p q xs h.1)

none_filtered : {X : Type 0} (p : X → Bool) (xs : List X) → is_none (filter p xs) ≡ not (list_any p xs)
none_filtered p [] = refl
none_filtered p (x ∷ xs) = elim (p x) as (λ b. is_none (cond b (x ∷ filter p xs) (filter p xs)) ≡ not (b || list_any p xs)) [ true ↦ refl | false ↦ none_filtered p xs ]

none_mapped : {X Y : Type 0} (f : X → Y) (xs : List X) → is_none (map f xs) ≡ is_none xs
none_mapped f [] = refl
none_mapped f (x ∷ xs) = refl

-- rows differ where they differ in some column
any_later : (p : ℕ → Bool) (a n : ℕ) → list_any p (range_with_len (a + 1) n) ≡ list_any (λ c. p (suc c)) (range_with_len a n)
any_later p a zero = refl
any_later p a (suc n) = ap₂ (λ b c. b || c) (ap p (add-one a)) (any_later p (a + 1) n)

columns_differ : (xs ys : List ℤ) (width : ℕ) → length xs ≡ width → length ys ≡ width → list_any (λ c. not (int_eq (cell xs c) (cell ys c))) (range_with_len 0 width) ≡ not (same_cells xs ys)
columns_differ [] [] zero h k = refl
columns_differ [] [] (suc width) h k = absurd (omega (arith, h))
columns_differ [] (y ∷ ys) zero h k = absurd (omega (arith, k))
columns_differ [] (y ∷ ys) (suc width) h k = absurd (omega (arith, h))
columns_differ (x ∷ xs) [] zero h k = absurd (omega (arith, h))
columns_differ (x ∷ xs) [] (suc width) h k = absurd (omega (arith, k))
columns_differ (x ∷ xs) (y ∷ ys) zero h k = absurd (omega (arith, h))
columns_differ (x ∷ xs) (y ∷ ys) (suc width) h k =
    ap (λ b. not (int_eq x y) || b) (any_later (λ c. not (int_eq (cell (x ∷ xs) c) (cell (y ∷ ys) c))) 0 width ∙ columns_differ xs ys width (omega (arith, h)) (omega (arith, k)))
    ∙ either (int_eq x y) (same_cells xs ys)
  where
    either : (a b : Bool) → (not a || not b) ≡ not (a && b)
    either true b = refl
    either false b = refl

length-whole : (width : ℕ) (f : ℕ → List ℤ) (ks : List ℕ) → AllByRecursion (λ k. length (f k) ≡ width) ks → length (flat_map f ks) ≡ width * length ks
length-whole width f [] h = omega arith
length-whole width f (k ∷ ks) h = let rest = length-whole width f ks h.1 in omega (arith, length-append (f k) (flat_map f ks), h.0, rest)

every-flat_map : (P : ℤ → Type 0) (f : ℕ → List ℤ) (ks : List ℕ) → AllByRecursion (λ k. AllByRecursion P (f k)) ks → AllByRecursion P (flat_map f ks)
every-flat_map P f [] h = tt
every-flat_map P f (k ∷ ks) h = every-append P (f k) (flat_map f ks) h.0 (every-flat_map P f ks h.1)

pub table_keys : (table : PlainTable) → IsTable table → AllByRecursion (λ k. k < 2 ^ 62) (keys table.rows)
table_keys table t = every-map (λ k. k < 2 ^ 62) (λ (row : PlainRow). row.key) table.rows (every_weaker (IsRow table.width) (λ row. row.key < 2 ^ 62) table.rows (λ row r. r.key) t.rows)

module _ (columns : List ColumnSpec) (texts : List (List ℕ)) (tick : Tick) (h : IsTick tick) (width : tick.new.width ≡ length columns) (fits : HasColumns columns (length texts) tick.new) where
  abbrev update : Update
  update = between tick

  pair_keys : AllByRecursion (λ (pair : KeyPair). (pair.old < 2 ^ 62) × (pair.new < 2 ^ 62)) tick.kept
  pair_keys =
      every_both (λ (pair : KeyPair). is_among pair.old (keys tick.old.rows) ≡ true) (λ (pair : KeyPair). is_among pair.new (keys tick.new.rows) ≡ true) (λ (pair : KeyPair). (pair.old < 2 ^ 62) × (pair.new < 2 ^ 62)) tick.kept
      (λ pair o n. (of_among (λ k. k < 2 ^ 62) pair.old (keys tick.old.rows) (table_keys tick.old h.old_table) o, of_among (λ k. k < 2 ^ 62) pair.new (keys tick.new.rows) (table_keys tick.new h.new_table) n))
      (every_unmapped (λ key. is_among key (keys tick.old.rows) ≡ true) (λ (pair : KeyPair). pair.old) tick.kept h.of_old)
      (every_unmapped (λ key. is_among key (keys tick.new.rows) ≡ true) (λ (pair : KeyPair). pair.new) tick.kept h.of_new)

  -- what holds of the cells of all new rows holds of those that are told
  told_every : (P : List ℤ → Type 0) → AllByRecursion (λ row. P row.cells) tick.new.rows → AllByRecursion (λ key. P (cells_at key tick.new.rows)) (told_keys update)
  told_every P all = every_weaker (λ key. is_among key (keys tick.new.rows) ≡ true) (λ key. P (cells_at key tick.new.rows)) (told_keys update) (λ key there. cells_of_row P key tick.new.rows all there) (told_there tick h)

  new_whole : AllByRecursion (λ row. length row.cells ≡ length columns) tick.new.rows
  new_whole = every_weaker (IsRow tick.new.width) (λ row. length row.cells ≡ length columns) tick.new.rows (λ row r. r.whole ∙ width) h.new_table.rows

  old_whole : AllByRecursion (λ row. length row.cells ≡ tick.new.width) tick.old.rows
  old_whole = every_weaker (IsRow tick.old.width) (λ row. length row.cells ≡ tick.new.width) tick.old.rows (λ row r. r.whole ∙ sym h.one_width) h.old_table.rows

  -- a pair of rows differs where it differs in a column
  pair_differs : AllByRecursion (λ (pair : KeyPair). list_any (λ column. differs_in tick.old tick.new column pair) (range_with_len 0 tick.new.width) ≡ differs tick.old tick.new pair) tick.kept
  pair_differs =
      every_both (λ (pair : KeyPair). is_among pair.old (keys tick.old.rows) ≡ true) (λ (pair : KeyPair). is_among pair.new (keys tick.new.rows) ≡ true) (λ (pair : KeyPair). list_any (λ column. differs_in tick.old tick.new column pair) (range_with_len 0 tick.new.width) ≡ differs tick.old tick.new pair) tick.kept
      (λ pair o n. columns_differ (cells_at pair.old tick.old.rows) (cells_at pair.new tick.new.rows) tick.new.width
      (cells_of_row (λ cells. length cells ≡ tick.new.width) pair.old tick.old.rows old_whole o)
      (cells_of_row (λ cells. length cells ≡ tick.new.width) pair.new tick.new.rows (every_weaker (IsRow tick.new.width) (λ row. length row.cells ≡ tick.new.width) tick.new.rows (λ row r. r.whole) h.new_table.rows) n))
      (every_unmapped (λ key. is_among key (keys tick.old.rows) ≡ true) (λ (pair : KeyPair). pair.old) tick.kept h.of_old)
      (every_unmapped (λ key. is_among key (keys tick.new.rows) ≡ true) (λ (pair : KeyPair). pair.new) tick.kept h.of_new)

  columns_say : is_none update.columns ≡ is_none update.modified
  columns_say =
      none_filtered (λ column. list_any (differs_in tick.old tick.new column) tick.kept) (range_with_len 0 tick.new.width)
      ∙ ap not (any_swap (differs_in tick.old tick.new) (range_with_len 0 tick.new.width) tick.kept ∙ any_same (λ pair. list_any (λ column. differs_in tick.old tick.new column pair) (range_with_len 0 tick.new.width)) (differs tick.old tick.new) tick.kept pair_differs)
      ∙ sym (none_filtered (differs tick.old tick.new) tick.kept)
      ∙ sym (none_mapped (λ (pair : KeyPair). pair.new) (filter (differs tick.old tick.new) tick.kept))

  pub change_printable : IsPrintable columns texts (change_of tick)
  change_printable = record {
    removed = rising_some (λ key. not (is_among key (old_keys tick.kept))) (keys tick.old.rows) h.old_table.rising;
    added = added_rise tick h;
    modified = modified_rise tick h;
    keys = every-append (λ key. key < 2 ^ 62) update.removed (told_keys update)
        (every-filter (λ key. key < 2 ^ 62) (λ key. not (is_among key (old_keys tick.kept))) (keys tick.old.rows) (table_keys tick.old h.old_table))
        (every_weaker (λ key. is_among key (keys tick.new.rows) ≡ true) (λ key. key < 2 ^ 62) (told_keys update) (λ key there. of_among (λ k. k < 2 ^ 62) key (keys tick.new.rows) (table_keys tick.new h.new_table) there) (told_there tick h));
    shift = shift_moving 0 (stretches tick.kept) (stretches_apart 0 tick.kept (every (λ key. 0 ≤ key) (old_keys tick.kept) (λ key. omega arith)) h.rising_old);
    ranges = every-filter (IsShiftRange (2 ^ 62)) (λ (range : ShiftRange). not (int_eq range.delta (pos 0))) (stretches tick.kept) (ranges_of (2 ^ 62) tick.kept pair_keys);
    apart = modified_apart tick h;
    columns_rise = rising_some (λ column. list_any (differs_in tick.old tick.new column) tick.kept) (range_with_len 0 tick.new.width) (rising_range 0 tick.new.width).1;
    columns_there = every-filter (λ column. column < length columns) (λ column. list_any (differs_in tick.old tick.new column) tick.kept) (range_with_len 0 tick.new.width)
        (every_weaker (λ k. k < 0 + tick.new.width) (λ k. k < length columns) (range_with_len 0 tick.new.width) (λ k less. omega (arith, less, width)) (range_below 0 tick.new.width));
    columns_say = columns_say;
    whole = length-whole (length columns) (λ key. cells_at key tick.new.rows) (told_keys update) (told_every (λ cells. length cells ≡ length columns) new_whole);
    numbers = every-flat_map (FitsSigned w64) (λ key. cells_at key tick.new.rows) (told_keys update)
        (told_every (AllByRecursion (FitsSigned w64)) (every_weaker (λ row. FitsColumns columns (length texts) row.cells) (λ row. AllByRecursion (FitsSigned w64) row.cells) tick.new.rows (λ row f. f.numbers) fits));
    cells = subst (λ w. AllByRecursion (λ (row : PlainRow). fit_columns (length texts) columns row.cells ≡ true) (rows_under w (told_keys update) (told_cells tick))) (sym h.one_width ∙ width)
        (subst (AllByRecursion (λ (row : PlainRow). fit_columns (length texts) columns row.cells ≡ true)) (sym (rows_told tick h))
        (every-map (λ (row : PlainRow). fit_columns (length texts) columns row.cells ≡ true) (row_under tick.new.rows) (told_keys update)
        (told_every (λ cells. fit_columns (length texts) columns cells ≡ true) (every_weaker (λ row. FitsColumns columns (length texts) row.cells) (λ row. fit_columns (length texts) columns row.cells ≡ true) tick.new.rows (λ row f. f.kinds) fits))));
  }
