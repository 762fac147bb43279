-- The update between two tables carries the old one to the new one.
use Rattle.std.proofs.Common.{◌≡◌, refl, ap, sym, ◌∙◌, subst, Bool, Option, true, false, cond, not, ◌&&◌, ◌||◌, ℕ, ◌<◌, ◌==◌, arith, List, [], ◌∷◌, ◌++◌, map, ℤ, Some, None, true≢false, unwrap_or, ◌⊎◌, inl, inr}
use Rattle.std.{specs.Prelude.{filter, find, option_map, IfSome}, specs.List.AllByRecursion, specs.Cmp.Rules.signed_items, proofs.lemmas.Bool.{le-ltb, lt-ltb, eqb-true, eq-eqb, ne_eqb, or_parts, not-false, cases_eq, or_right, false_from_ne_true}}
use Rattle.tick_model.{specs.declared.table.PlainRow.PlainRow, specs.declared.table.PlainTable.PlainTable, specs.declared.update.KeyPair.KeyPair, specs.Tables.{keys, row_at, cells_at, same_cells}, specs.Shifts.{moved, as_key, shifted}, specs.Updates.{Tick, IsTick, old_keys, new_keys, differs, between, insert_row, removing, moved_row, shifting, adding, modifying, rows_at, carry, kept_pair, pairs, told}, proofs.Among.{rows_among, row_own, row_past, rest_above, each_found, row_at-filter, row_at-filter_none}}
use Rattle.key_lists.{specs.Keys.{is_among, IsRising, without}, proofs.Among.{among_below, among_own, among_past, among-filter, among-append, of_among}, proofs.Every.{every, every_weaker, every_both, every-map, every_unmapped, every-filter, map_same, filter_same, filter_none, filter-map, map_map, map_own, filter_filter}, proofs.Booleans.and_true}
use Rattle.tick_laws.proofs.Moves.{each_moved}

-- the keys of the pairs, by f, stand among those of the rows, in order
abbrev pub Within : (KeyPair → ℕ) → List KeyPair → List PlainRow → Type 0
Within f [] rows = Unit {0}
Within f (pair ∷ rest) [] = ⊥
Within f (pair ∷ rest) (row ∷ rows) = ((f pair ≡ row.key) × Within f rest rows) ⊎ Within f (pair ∷ rest) rows

-- rising keys that are all among the rising keys of rows stand there in order
pub within_from : (f : KeyPair → ℕ) (kept : List KeyPair) (rows : List PlainRow) → IsRising (keys rows) → IsRising (map f kept) → AllByRecursion (λ key. is_among key (keys rows) ≡ true) (map f kept) → Within f kept rows
within_from f [] rows r s h = tt
within_from f (pair ∷ rest) [] r s h = absurd (true≢false (sym h.0))
within_from f (pair ∷ rest) (row ∷ rows) r s h =
    elim (cases_eq row.key (f pair)) [
      | inl same ↦ inl (sym same, within_from f rest rows r.1 s.1 (later (λ key above. subst (λ k. k < key) (sym same) above)))
      | inr other ↦
          let found : is_among (f pair) (keys rows) ≡ true = sym (ap (λ b. b || is_among (f pair) (keys rows)) (ne_eqb row.key (f pair) other)) ∙ h.0 in
          let above : row.key < f pair = of_among (λ key. row.key < key) (f pair) (keys rows) r.0 found in
          inr (within_from f (pair ∷ rest) rows r.1 s (found, later (λ key more. omega (arith, above, more))))
    ]
  where
    later : ((key : ℕ) → f pair < key → row.key < key) → AllByRecursion (λ key. is_among key (keys rows) ≡ true) (map f rest)
    later past =
        every_both (λ key. f pair < key) (λ key. is_among key (keys (row ∷ rows)) ≡ true) (λ key. is_among key (keys rows) ≡ true) (map f rest)
        (λ key more e. sym (among_past key row.key (keys rows) (past key more)) ∙ e) s.0 h.1

within_above : (low : ℕ) (f : KeyPair → ℕ) (kept : List KeyPair) (rows : List PlainRow) → AllByRecursion (λ row. low < row.key) rows → Within f kept rows → AllByRecursion (λ key. low < key) (map f kept)
within_above low f [] rows h w = tt
within_above low f (pair ∷ rest) [] h w = absurd w
within_above low f (pair ∷ rest) (row ∷ rows) h w =
    elim w [
      | inl here ↦ (subst (λ key. low < key) (sym here.0) h.0, within_above low f rest rows h.1 here.1)
      | inr there ↦ within_above low f (pair ∷ rest) rows h.1 there
    ]

-- the row that a pair names
abbrev row_named : (KeyPair → ℕ) → List PlainRow → KeyPair → PlainRow
row_named f rows pair = record { key = f pair; cells = cells_at (f pair) rows }

named_past : (f : KeyPair → ℕ) (row : PlainRow) (rows : List PlainRow) (kept : List KeyPair) → AllByRecursion (λ key. row.key < key) (map f kept) → map (row_named f rows) kept ≡ map (row_named f (row ∷ rows)) kept
named_past f row rows kept h =
    map_same (row_named f rows) (row_named f (row ∷ rows)) kept
    (every_weaker (λ pair. row.key < f pair) (λ pair. row_named f rows pair ≡ row_named f (row ∷ rows) pair) kept
    (λ pair above. ap (λ (found : Option PlainRow). let named : PlainRow = record { key = f pair; cells = unwrap_or (option_map (λ (row : PlainRow). row.cells) found) [] } in named) (sym (row_past (f pair) row rows above)))
    (every_unmapped (λ key. row.key < key) f kept h))

named_own : (f : KeyPair → ℕ) (row : PlainRow) (rows : List PlainRow) (pair : KeyPair) → f pair ≡ row.key → row ≡ row_named f (row ∷ rows) pair
named_own f row rows pair e =
    ap (λ (found : Option PlainRow). let named : PlainRow = record { key = row.key; cells = unwrap_or (option_map (λ (row : PlainRow). row.cells) found) [] } in named) (sym (row_own row rows))
    ∙ ap (λ key. let named : PlainRow = record { key = key; cells = cells_at key (row ∷ rows) } in named) (sym e)

-- the rows whose keys pairs name are the rows of the pairs
pub named_rows : (f : KeyPair → ℕ) (kept : List KeyPair) (rows : List PlainRow) → IsRising (keys rows) → Within f kept rows → filter (λ row. is_among row.key (map f kept)) rows ≡ map (row_named f rows) kept
named_rows f [] rows r w = filter_none (λ row. is_among row.key []) rows (every (λ row. is_among row.key [] ≡ false) rows (λ row. refl))
named_rows f (pair ∷ rest) [] r w = absurd w
named_rows f (pair ∷ rest) (row ∷ rows) r w =
    elim w [
      | inl here ↦
          ap (λ b. cond b (row ∷ filter test rows) (filter test rows)) (ap (λ key. is_among row.key (key ∷ map f rest)) here.0 ∙ among_own row.key (map f rest))
          ∙ ap (λ rows. row ∷ rows) (filter_same test (λ row. is_among row.key (map f rest)) rows (every_weaker (λ other. row.key < other.key) (λ other. test other ≡ is_among other.key (map f rest)) rows (λ other above. among_past other.key (f pair) (map f rest) (subst (λ key. key < other.key) (sym here.0) above)) (rest_above row rows r))
          ∙ named_rows f rest rows r.1 here.1 ∙ named_past f row rows rest (within_above row.key f rest rows (rest_above row rows r) here.1))
          ∙ ap (λ first. first ∷ map (row_named f (row ∷ rows)) rest) (named_own f row rows pair here.0)
      | inr there ↦
          let above : AllByRecursion (λ key. row.key < key) (map f (pair ∷ rest)) = within_above row.key f (pair ∷ rest) rows (rest_above row rows r) there in
          ap (λ b. cond b (row ∷ filter test rows) (filter test rows)) (among_below row.key (map f (pair ∷ rest)) above)
          ∙ named_rows f (pair ∷ rest) rows r.1 there ∙ named_past f row rows (pair ∷ rest) above
    ]
  where
    test : PlainRow → Bool
    test row = is_among row.key (map f (pair ∷ rest))

-- what is left when all but the named rows are removed
left_out : (p : Bool) → (not (not p && true)) ≡ p
left_out true = refl
left_out false = refl

pub survivors_named : (f : KeyPair → ℕ) (kept : List KeyPair) (rows : List PlainRow) → IsRising (keys rows) → Within f kept rows → removing (without (map f kept) (keys rows)) rows ≡ map (row_named f rows) kept
survivors_named f kept rows r w =
    filter_same (λ row. not (is_among row.key (without (map f kept) (keys rows)))) (λ row. is_among row.key (map f kept)) rows
    (every_weaker (λ row. is_among row.key (keys rows) ≡ true) (λ row. not (is_among row.key (without (map f kept) (keys rows))) ≡ is_among row.key (map f kept)) rows
    (λ row own. ap not (among-filter (λ key. not (is_among key (map f kept))) row.key (keys rows) ∙ ap (λ b. not (is_among row.key (map f kept)) && b) own) ∙ left_out (is_among row.key (map f kept)))
    (rows_among rows))
    ∙ named_rows f kept rows r w

-- the keys of what is left
survivor_keys : (kept : List KeyPair) (rows : List PlainRow) → IsRising (keys rows) → Within (λ pair. pair.old) kept rows → without (without (old_keys kept) (keys rows)) (keys rows) ≡ old_keys kept
survivor_keys kept rows r w =
    filter-map (λ key. not (is_among key (without (old_keys kept) (keys rows)))) (λ row. row.key) rows
    ∙ ap keys (survivors_named (λ pair. pair.old) kept rows r w)
    ∙ map_map (λ row. row.key) (row_named (λ pair. pair.old) rows) kept

-- `pairs` of the update between two tables are the pairs that it was made of
pub pairs-between : (tick : Tick) → IsTick tick → pairs tick.old (between tick) ≡ tick.kept
pairs-between tick h =
    ap (map (kept_pair (between tick))) (survivor_keys tick.kept tick.old.rows h.old_table.rising (within_from (λ pair. pair.old) tick.kept tick.old.rows h.old_table.rising h.rising_old h.of_old))
    ∙ map_map (kept_pair (between tick)) (λ (pair : KeyPair). pair.old) tick.kept
    ∙ map_own (λ pair. kept_pair (between tick) pair.old) tick.kept
    (every_weaker (λ pair. as_key (moved (shifted tick.kept) pair.old) ≡ pair.new) (λ pair. kept_pair (between tick) pair.old ≡ pair) tick.kept
    (λ pair e. ap (λ new. let same : KeyPair = record { old = pair.old; new = new } in same) e)
    (each_moved tick.kept h.rising_old))

-- the row of a pair, under its new key with its old cells
abbrev row_carried : (KeyPair → List ℤ) → KeyPair → PlainRow
row_carried cells pair = record { key = pair.new; cells = cells pair }

-- a row of the new table, with the old cells where it was kept
abbrev blended : (KeyPair → List ℤ) → List KeyPair → PlainRow → PlainRow
blended cells kept row = unwrap_or (option_map (λ pair. record row { cells = cells pair }) (find (λ (pair : KeyPair). pair.new == row.key) kept)) row

key_blended : (cells : KeyPair → List ℤ) (kept : List KeyPair) (row : PlainRow) → row.key ≡ (blended cells kept row).key
key_blended cells kept row = elim (find (λ (pair : KeyPair). pair.new == row.key) kept) as (λ o. row.key ≡ (unwrap_or (option_map (λ pair. record row { cells = cells pair }) o) row).key) [ None ↦ refl | Some pair ↦ refl ]

insert_first : (row : PlainRow) (rows : List PlainRow) → AllByRecursion (λ other. row.key < other.key) rows → insert_row row rows ≡ row ∷ rows
insert_first row [] h = refl
insert_first row (other ∷ others) h = ap (λ b. cond b (row ∷ other ∷ others) (other ∷ insert_row row others)) (lt-ltb row.key other.key h.0)

adding_past : (added : List PlainRow) (row : PlainRow) (rows : List PlainRow) → AllByRecursion (λ other. row.key < other.key) added → adding added (row ∷ rows) ≡ row ∷ adding added rows
adding_past [] row rows h = refl
adding_past (first ∷ added) row rows h =
    ap (insert_row first) (adding_past added row rows h.1)
    ∙ ap (λ b. cond b (first ∷ row ∷ adding added rows) (row ∷ insert_row first (adding added rows))) (le-ltb first.key row.key (omega (arith, h.0)))

blended_past : (cells : KeyPair → List ℤ) (pair : KeyPair) (kept : List KeyPair) (rows : List PlainRow) → AllByRecursion (λ row. pair.new < row.key) rows → map (blended cells kept) rows ≡ map (blended cells (pair ∷ kept)) rows
blended_past cells pair kept rows h =
    map_same (blended cells kept) (blended cells (pair ∷ kept)) rows
    (every_weaker (λ row. pair.new < row.key) (λ row. blended cells kept row ≡ blended cells (pair ∷ kept) row) rows
    (λ row above. ap (λ b. unwrap_or (option_map (λ pair. record row { cells = cells pair }) (cond b (Some pair) (find (λ (pair : KeyPair). pair.new == row.key) kept))) row) (sym (ne_eqb pair.new row.key (λ e. omega arith))))
    h)

find_above : (key : ℕ) (kept : List KeyPair) → AllByRecursion (λ other. key < other) (new_keys kept) → find (λ (pair : KeyPair). pair.new == key) kept ≡ None
find_above key [] h = refl
find_above key (pair ∷ kept) h = ap (λ b. cond b (Some pair) (find (λ (pair : KeyPair). pair.new == key) kept)) (ne_eqb pair.new key (λ e. omega arith)) ∙ find_above key kept h.1

-- the kept rows and the added ones together
pub rows_together : (cells : KeyPair → List ℤ) (kept : List KeyPair) (rows : List PlainRow) → IsRising (keys rows) → Within (λ pair. pair.new) kept rows
    → adding (filter (λ row. not (is_among row.key (new_keys kept))) rows) (map (row_carried cells) kept) ≡ map (blended cells kept) rows
rows_together cells [] [] r w = refl
rows_together cells (pair ∷ rest) [] r w = absurd w
rows_together cells [] (row ∷ rows) r w =
    ap (insert_row row) (rows_together cells [] rows r.1 (within_none rows))
    ∙ insert_first row (map (blended cells []) rows) (every-map (λ other. row.key < other.key) (blended cells []) rows (rest_above row rows r))
  where
    within_none : (rows : List PlainRow) → Within (λ pair. pair.new) [] rows
    within_none rows = tt
rows_together cells (pair ∷ rest) (row ∷ rows) r w =
    elim w [
      | inl here ↦
          let above : AllByRecursion (λ (other : PlainRow). pair.new < other.key) rows = subst (λ key. AllByRecursion (λ (other : PlainRow). key < other.key) rows) (sym here.0) (rest_above row rows r) in
          ap (λ b. adding (cond b (row ∷ filter test rows) (filter test rows)) (map (row_carried cells) (pair ∷ rest))) (ap not (ap (λ key. is_among row.key (key ∷ new_keys rest)) here.0 ∙ among_own row.key (new_keys rest)))
          ∙ ap (λ added. adding added (row_carried cells pair ∷ map (row_carried cells) rest)) (filter_same test (λ row. not (is_among row.key (new_keys rest))) rows (every_weaker (λ (other : PlainRow). pair.new < other.key) (λ other. test other ≡ not (is_among other.key (new_keys rest))) rows (λ other more. ap not (among_past other.key pair.new (new_keys rest) more)) above))
          ∙ adding_past (filter (λ row. not (is_among row.key (new_keys rest))) rows) (row_carried cells pair) (map (row_carried cells) rest) (every-filter (λ (other : PlainRow). pair.new < other.key) (λ row. not (is_among row.key (new_keys rest))) rows above)
          ∙ ap (λ rows. row_carried cells pair ∷ rows) (rows_together cells rest rows r.1 here.1 ∙ blended_past cells pair rest rows above)
          ∙ ap (λ first. first ∷ map (blended cells (pair ∷ rest)) rows)
          (ap (λ key. let carried : PlainRow = record { key = key; cells = cells pair } in carried) here.0
          ∙ ap (λ b. unwrap_or (option_map (λ pair. record row { cells = cells pair }) (cond b (Some pair) (find (λ (pair : KeyPair). pair.new == row.key) rest))) row) (sym (eq-eqb pair.new row.key here.0)))
      | inr there ↦
          let above : AllByRecursion (λ key. row.key < key) (new_keys (pair ∷ rest)) = within_above row.key (λ pair. pair.new) (pair ∷ rest) rows (rest_above row rows r) there in
          ap (λ b. adding (cond b (row ∷ filter test rows) (filter test rows)) (map (row_carried cells) (pair ∷ rest))) (ap not (among_below row.key (new_keys (pair ∷ rest)) above))
          ∙ ap (insert_row row) (rows_together cells (pair ∷ rest) rows r.1 there)
          ∙ insert_first row (map (blended cells (pair ∷ rest)) rows) (every-map (λ other. row.key < other.key) (blended cells (pair ∷ rest)) rows (every_weaker (λ other. row.key < other.key) (λ other. row.key < (blended cells (pair ∷ rest) other).key) rows (λ other more. subst (λ key. row.key < key) (key_blended cells (pair ∷ rest) other) more) (rest_above row rows r)))
          ∙ ap (λ o. unwrap_or (option_map (λ pair. record row { cells = cells pair }) o) row ∷ map (blended cells (pair ∷ rest)) rows) (sym (find_above row.key (pair ∷ rest) above))
    ]
  where
    test : PlainRow → Bool
    test row = not (is_among row.key (new_keys (pair ∷ rest)))

or_and_first : (a b : Bool) → ((a || b) && a) ≡ a
or_and_first true b = refl
or_and_first false true = refl
or_and_first false false = refl

-- the rows that an update tells as added are those of no pair
added_rows : (tick : Tick) → rows_at (between tick).added (told tick) ≡ filter (λ row. not (is_among row.key (new_keys tick.kept))) tick.new.rows
added_rows tick =
    filter_filter (λ row. is_among row.key added) (λ row. is_among row.key (added ++ modified)) tick.new.rows
    ∙ filter_same (λ row. is_among row.key (added ++ modified) && is_among row.key added) (λ row. not (is_among row.key (new_keys tick.kept))) tick.new.rows
    (every_weaker (λ row. is_among row.key (keys tick.new.rows) ≡ true) (λ row. (is_among row.key (added ++ modified) && is_among row.key added) ≡ not (is_among row.key (new_keys tick.kept))) tick.new.rows
    (λ row own.
    ap (λ b. b && is_among row.key added) (among-append row.key added modified)
    ∙ or_and_first (is_among row.key added) (is_among row.key modified)
    ∙ among-filter (λ key. not (is_among key (new_keys tick.kept))) row.key (keys tick.new.rows)
    ∙ ap (λ b. not (is_among row.key (new_keys tick.kept)) && b) own
    ∙ and_true (not (is_among row.key (new_keys tick.kept))))
    (rows_among tick.new.rows))
  where
    added : List ℕ
    added = (between tick).added

    modified : List ℕ
    modified = (between tick).modified

-- a pair found under a key that is not told as modified has equal rows
found_same : (d : KeyPair → Bool) (key : ℕ) (kept : List KeyPair) → is_among key (new_keys (filter d kept)) ≡ false → IfSome (find (λ (pair : KeyPair). pair.new == key) kept) (λ pair. (pair.new ≡ key) × (d pair ≡ false))
found_same d key [] h = tt
found_same d key (pair ∷ kept) h =
    (elim (pair.new == key) as (λ b. (pair.new == key) ≡ b → IfSome (cond b (Some pair) (find (λ (pair : KeyPair). pair.new == key) kept)) (λ pair. (pair.new ≡ key) × (d pair ≡ false))) [
      | true ↦ λ e. (eqb-true pair.new key e, false_from_ne_true (d pair) (λ yes. true≢false (sym (ap (λ b. b || is_among key (new_keys (filter d kept))) e) ∙ sym (ap (λ b. is_among key (new_keys (cond b (pair ∷ filter d kept) (filter d kept)))) yes) ∙ h)))
      | false ↦ λ e. found_same d key kept (rest (d pair) h)
    ]) refl
  where
    rest : (b : Bool) → is_among key (new_keys (cond b (pair ∷ filter d kept) (filter d kept))) ≡ false → is_among key (new_keys (filter d kept)) ≡ false
    rest true h = (or_parts _ _ h).1
    rest false h = h

-- a kept row with its old cells is the new row, where the two do not differ
same_blended : (tick : Tick) (row : PlainRow) → row_at row.key tick.new.rows ≡ Some row → is_among row.key (between tick).modified ≡ false → blended (λ pair. cells_at pair.old tick.old.rows) tick.kept row ≡ row
same_blended tick row found h = go (find (λ (pair : KeyPair). pair.new == row.key) tick.kept) (found_same (differs tick.old tick.new) row.key tick.kept h)
  where
    go : (o : Option KeyPair) → IfSome o (λ pair. (pair.new ≡ row.key) × (differs tick.old tick.new pair ≡ false)) → unwrap_or (option_map (λ (pair : KeyPair). record row { cells = cells_at pair.old tick.old.rows }) o) row ≡ row
    go None h = refl
    go (Some pair) h =
        ap (λ cells. let changed : PlainRow = record row { cells = cells } in changed)
        ((signed_items (cells_at pair.old tick.old.rows) (cells_at pair.new tick.new.rows)).0 (not-false (same_cells (cells_at pair.old tick.old.rows) (cells_at pair.new tick.new.rows)) h.1)
        ∙ ap (λ key. cells_at key tick.new.rows) h.0
        ∙ ap (λ o. unwrap_or (option_map (λ (row : PlainRow). row.cells) o) []) found)

-- the modified rows put back what differs
restored_row : (tick : Tick) (row : PlainRow) → row_at row.key tick.new.rows ≡ Some row → unwrap_or (row_at row.key (rows_at (between tick).modified (told tick))) (blended (λ pair. cells_at pair.old tick.old.rows) tick.kept row) ≡ row
restored_row tick row found =
    (elim (is_among row.key modified) as (λ b. is_among row.key modified ≡ b → unwrap_or (row_at row.key (rows_at modified (told tick))) (blended (λ pair. cells_at pair.old tick.old.rows) tick.kept row) ≡ row) [
      | true ↦ λ e.
          ap (λ o. unwrap_or o (blended (λ pair. cells_at pair.old tick.old.rows) tick.kept row))
          (row_at-filter (λ key. is_among key modified) row.key (told tick) e
          ∙ row_at-filter (λ key. is_among key ((between tick).added ++ modified)) row.key tick.new.rows (among-append row.key (between tick).added modified ∙ or_right (is_among row.key (between tick).added) (is_among row.key modified) e)
          ∙ found)
      | false ↦ λ e.
          ap (λ o. unwrap_or o (blended (λ pair. cells_at pair.old tick.old.rows) tick.kept row)) (row_at-filter_none (λ key. is_among key modified) row.key (told tick) e)
          ∙ same_blended tick row found e
    ]) refl
  where
    modified : List ℕ
    modified = (between tick).modified

restored : (tick : Tick) → IsRising (keys tick.new.rows) → modifying (rows_at (between tick).modified (told tick)) (map (blended (λ pair. cells_at pair.old tick.old.rows) tick.kept) tick.new.rows) ≡ tick.new.rows
restored tick r =
    map_map (λ row. unwrap_or (row_at row.key modified) row) (blended cells tick.kept) tick.new.rows
    ∙ map_own (λ row. unwrap_or (row_at (blended cells tick.kept row).key modified) (blended cells tick.kept row)) tick.new.rows
    (every_weaker (λ row. row_at row.key tick.new.rows ≡ Some row) (λ row. unwrap_or (row_at (blended cells tick.kept row).key modified) (blended cells tick.kept row) ≡ row) tick.new.rows
    (λ row found. ap (λ key. unwrap_or (row_at key modified) (blended cells tick.kept row)) (sym (key_blended cells tick.kept row)) ∙ restored_row tick row found)
    (each_found tick.new.rows r))
  where
    modified : List PlainRow
    modified = rows_at (between tick).modified (told tick)

    cells : KeyPair → List ℤ
    cells pair = cells_at pair.old tick.old.rows

-- the rows that stay, under their new keys
shifted_rows : (tick : Tick) → IsTick tick → shifting (between tick).shifted (removing (between tick).removed tick.old.rows) ≡ map (row_carried (λ pair. cells_at pair.old tick.old.rows)) tick.kept
shifted_rows tick h =
    ap (shifting (shifted tick.kept)) (survivors_named (λ pair. pair.old) tick.kept tick.old.rows h.old_table.rising (within_from (λ pair. pair.old) tick.kept tick.old.rows h.old_table.rising h.rising_old h.of_old))
    ∙ map_map (moved_row (shifted tick.kept)) (row_named (λ pair. pair.old) tick.old.rows) tick.kept
    ∙ map_same (λ pair. moved_row (shifted tick.kept) (row_named (λ pair. pair.old) tick.old.rows pair)) (row_carried (λ pair. cells_at pair.old tick.old.rows)) tick.kept
    (every_weaker (λ pair. as_key (moved (shifted tick.kept) pair.old) ≡ pair.new) (λ pair. moved_row (shifted tick.kept) (row_named (λ pair. pair.old) tick.old.rows pair) ≡ row_carried (λ pair. cells_at pair.old tick.old.rows) pair) tick.kept
    (λ pair e. ap (λ key. let carried : PlainRow = record { key = key; cells = cells_at pair.old tick.old.rows } in carried) e)
    (each_moved tick.kept h.rising_old))

-- the update between two tables, with the rows that it tells, makes the new table of the old one
pub carry-between : (tick : Tick) → IsTick tick → carry tick.old (between tick) (told tick) ≡ tick.new
carry-between tick h =
    ap (λ rows. let carried : PlainTable = record { width = tick.old.width; rows = rows } in carried)
    (ap (λ added. modifying modified (adding added (shifting (between tick).shifted (removing (between tick).removed tick.old.rows)))) (added_rows tick)
    ∙ ap (λ rows. modifying modified (adding (filter (λ row. not (is_among row.key (new_keys tick.kept))) tick.new.rows) rows)) (shifted_rows tick h)
    ∙ ap (modifying modified) (rows_together (λ pair. cells_at pair.old tick.old.rows) tick.kept tick.new.rows h.new_table.rising (within_from (λ pair. pair.new) tick.kept tick.new.rows h.new_table.rising h.rising_new h.of_new))
    ∙ restored tick h.new_table.rising)
    ∙ ap (λ width. let same : PlainTable = record { width = width; rows = tick.new.rows } in same) (sym h.one_width)
  where
    modified : List PlainRow
    modified = rows_at (between tick).modified (told tick)
