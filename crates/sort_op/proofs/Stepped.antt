-- What a step of a sort does: what its edits of the order come to, and which positions it touches.
use Rattle.std.proofs.Common.{◌≡◌, refl, ap, ap₂, sym, ◌∙◌, subst, arith, Bool, true, false, not, ◌&&◌, ◌||◌, ℕ, ◌+◌, ◌^◌, ◌≤◌, List, [], ◌∷◌, ◌++◌, map, filter, length, true≢false, ℤ, Some, is_lt}
use Rattle.std.{specs.Prelude.slice_get, specs.List.{AllByRecursion, range_with_len}, specs.Cmp.signed_Decides, specs.Cmp.Rules.signed_items, specs.Ordering.int_eq, proofs.lemmas.Bool.{and_parts, and_right, not-false, not-true}, proofs.lemmas.List.length-map}
use Rattle.key_lists.{specs.Keys.{IsRising, is_among, without}, proofs.Every.{every, every_both, every_weaker, every-filter, every-map, every_unmapped, filter_in, filter_passes, filter_same, filter_swap, filter-map, map_map, map_same}, proofs.Among.{among-append, each_among, of_among}, proofs.Rising.{as_filter, rising-filter}}
use Rattle.row_set.{specs.Sets.IsKeySet, proofs.United.{among-united, length-united, united_rises}}
use Rattle.row_changes.{specs.Parts.AreCompared, proofs.Comparing.pairs_of-keys}
use Rattle.shift_data.specs.Moves.{pairs_of}
use Rattle.shown_rows.{proofs.Named.named_by, proofs.Restricted.{modified_by, modified_new}}
use Rattle.tick_model.{specs.declared.plan.SortBy.SortBy, specs.declared.table.PlainRow.PlainRow, specs.declared.table.PlainTable.PlainTable, specs.declared.update.KeyPair.KeyPair, specs.Shifts.{as_key, moved}, specs.Sort.{in_order, same_place, sort_cmp, sort_pairs, sort_table}, specs.Tables.{IsTable, cell, cells_at, keys, same_cells}, specs.Updates.{Update, between, differs, kept_pair, new_keys, old_keys, pairs}}
use Rattle.tick_laws.{proofs.ResultCells.length-filter_most, proofs.ResultTables.{length-in_order, table_count}}
use Rattle.tick_table.{specs.Exact.{IsExact, tick_of}, specs.Ticking.Ticking}
use Rattle.sort_op.{specs.declared.entry.Entry.Entry, specs.Entries.{AreDistinct, Rises, is_in, keys_in, rekeyed}, specs.Places.{AreApart, AreUnder, other_places}, specs.Reading.{carried, coming, entries_under, entry_under, leaving, modified_pairs, moving_pairs, sort_cells_alike, staying, staying_pairs}, specs.Sorted.{entries_of, entry_of, sort_cells}, specs.Sorter.sorted, proofs.Halves.{left_over, left_within, rest, some_among}, proofs.KeptPlaces.keys-numbered, proofs.Members.{among-ordered, among_same, apart_rising, distinct_under, in_filter, in_map_same, in_rows, in_under, is_own, keys_under}, proofs.PlacedPairs.{IsKept, apart_in_order, each_kept, new_place, old_place}, proofs.Sides.{cells_here, others_are, position_here, within_placed}, proofs.SortedChange.sorted_tick, proofs.SortedRows.{one_list, sorted_rises}}

-- cells that are alike have one list of sort cells, and equal cells are alike
alike_same : (by : List SortBy) (xs ys : List ℤ) → sort_cells_alike by xs ys ≡ true → sort_cells by xs ≡ sort_cells by ys
alike_same [] xs ys h = refl
alike_same (sort ∷ by) xs ys h =
    let parts = and_parts (int_eq (cell xs sort.column) (cell ys sort.column)) (sort_cells_alike by xs ys) h in
    ap₂ (λ (z : ℤ) (zs : List ℤ). z ∷ zs) ((signed_Decides (cell xs sort.column) (cell ys sort.column)).0 parts.0) (alike_same by xs ys parts.1)

alike_own : (by : List SortBy) (xs : List ℤ) → sort_cells_alike by xs xs ≡ true
alike_own [] xs = refl
alike_own (sort ∷ by) xs = ap₂ (λ a b. a && b) ((signed_Decides (cell xs sort.column) (cell xs sort.column)).1 refl) (alike_own by xs)

-- who stays, from who leaves
stay_table : (l a s o : Bool) → (a ≡ true → l ≡ not s) → (s ≡ true → a ≡ true) → (not l && (a && o)) ≡ (s && o)
stay_table l true s o h k = ap (λ b. not b && o) (h refl) ∙ go s o
  where
    go : (s o : Bool) → (not (not s) && o) ≡ (s && o)
    go true o = refl
    go false o = refl
stay_table l false true o h k = absurd (true≢false (sym (k refl)))
stay_table l false false o h k = and_right (not l) false refl

-- which keys are there, from those that come and those that stay
all_table : (c k s n : Bool) → (n ≡ true → c ≡ not s) → (s ≡ true → k ≡ true) → (c ≡ true → n ≡ true) → (k ≡ true → n ≡ true) → (c || k) ≡ n
all_table true k s n h l m o = sym (m refl)
all_table false true s n h l m o = sym (o refl)
all_table false false true n h l m o = absurd (true≢false (sym (l refl)))
all_table false false false true h l m o = absurd (true≢false (sym (h refl)))
all_table false false false false h l m o = refl

-- who is there, from who stays and who comes
there_table : (s l a o : Bool) → (a ≡ true → l ≡ not s) → (s ≡ true → a ≡ true) → (l ≡ true → a ≡ true) → ((s && o) || (l && o)) ≡ (a && o)
there_table s l true o h k m = ap (λ b. (s && o) || (b && o)) (h refl) ∙ go s o
  where
    go : (s o : Bool) → ((s && o) || (not s && o)) ≡ o
    go true true = refl
    go true false = refl
    go false true = refl
    go false false = refl
there_table true l false o h k m = absurd (true≢false (sym (k refl)))
there_table false true false o h k m = absurd (true≢false (sym (m refl)))
there_table false false false o h k m = refl

module _ (by : List SortBy) where
  -- there are no more entries than keys
  pub few_entries : (table : PlainTable) → IsTable table → length (entries_of by table.rows) ≤ 2 ^ 62
  few_entries table h = let few = table_count table h in omega (arith, few, length-map (in_order by table.rows) (entry_of by), length-in_order by table.rows)

  -- the keys of the entries are those of the rows, none of which comes twice
  keys_listed : (rows : List PlainRow) → keys_in (entries_of by rows) ≡ keys (in_order by rows)
  keys_listed rows = map_map (λ (entry : Entry). entry.key) (entry_of by) (in_order by rows)

  pub among_listed : (rows : List PlainRow) (key : ℕ) → is_among key (keys_in (entries_of by rows)) ≡ is_among key (keys rows)
  among_listed rows key = ap (is_among key) (keys_listed rows) ∙ among-ordered (λ (row : PlainRow). row.key) (λ a b. is_lt (sort_cmp by a b)) key rows

  pub apart_listed : (rows : List PlainRow) → IsRising (keys rows) → AreApart (keys_in (entries_of by rows))
  apart_listed rows rising = subst AreApart (sym (keys_listed rows)) (apart_in_order by rows rising)

  -- the positions but some
  pub other_places_are : (table : PlainTable) (positions : List ℕ) → other_places (length (entries_of by table.rows)) positions ≡ without positions (keys (sort_table by table).rows)
  other_places_are table positions = ap (without positions) (ap (range_with_len 0) (length-map (in_order by table.rows) (entry_of by)) ∙ sym (keys-numbered 0 (in_order by table.rows)))

module _ (by : List SortBy) (t : Ticking) (e : IsExact t) where
  abbrev kept : List KeyPair
  kept = pairs t.old t.update

  abbrev alike : KeyPair → Bool
  alike = same_place by (tick_of t)

  abbrev is_modified : KeyPair → Bool
  is_modified pair = is_among pair.new t.update.modified

  -- the pairs whose rows stay in the order
  abbrev stay : List KeyPair
  stay = filter alike kept

  -- a pair that is not modified is alike
  alike_unmodified : (pair : KeyPair) → (is_modified pair ≡ differs t.old t.new pair) → is_modified pair ≡ false → alike pair ≡ true
  alike_unmodified pair by_rows other =
      let same : cells_at pair.old t.old.rows ≡ cells_at pair.new t.new.rows =
      (signed_items (cells_at pair.old t.old.rows) (cells_at pair.new t.new.rows)).0 (not-false (same_cells (cells_at pair.old t.old.rows) (cells_at pair.new t.new.rows)) (sym by_rows ∙ other)) in
      ap (sort_cells_alike by (cells_at pair.old t.old.rows)) (sym same) ∙ alike_own by (cells_at pair.old t.old.rows)

  moving_are : moving_pairs by t ≡ filter (λ pair. not (alike pair)) kept
  moving_are =
      filter_in (λ pair. not (alike pair)) is_modified kept
      (every_weaker (λ pair. is_modified pair ≡ differs t.old t.new pair) (λ pair. is_modified pair ≡ false → not (alike pair) ≡ false) kept (λ pair by_rows other. ap not (alike_unmodified pair by_rows other)) (modified_by t e))

  staying_are : staying_pairs by t ≡ filter is_modified stay
  staying_are = filter_swap alike is_modified kept

  leaving_among : (key : ℕ) → is_among key (leaving by t) ≡ is_among key (without (old_keys kept) (keys t.old.rows) ++ rest (λ (pair : KeyPair). pair.old) alike kept)
  leaving_among key =
      among-united key t.update.removed (old_keys (moving_pairs by t))
      ∙ sym (among-append key t.update.removed (old_keys (moving_pairs by t)))
      ∙ ap (is_among key) (ap₂ (λ xs ys. xs ++ ys) (ap (λ (u : Update). u.removed) e.update) (ap old_keys moving_are))

  coming_among : (key : ℕ) → is_among key (coming by t) ≡ is_among key (without (new_keys kept) (keys t.new.rows) ++ rest (λ (pair : KeyPair). pair.new) alike kept)
  coming_among key =
      among-united key t.update.added (new_keys (moving_pairs by t))
      ∙ sym (among-append key t.update.added (new_keys (moving_pairs by t)))
      ∙ ap (is_among key) (ap₂ (λ xs ys. xs ++ ys) (ap (λ (u : Update). u.added) e.update) (ap new_keys moving_are))

  leaves : (key : ℕ) → is_among key (keys t.old.rows) ≡ true → is_among key (leaving by t) ≡ not (is_among key (old_keys stay))
  leaves key here = leaving_among key ∙ left_over (λ (pair : KeyPair). pair.old) alike kept e.tick.rising_old (keys t.old.rows) key here

  comes : (key : ℕ) → is_among key (keys t.new.rows) ≡ true → is_among key (coming by t) ≡ not (is_among key (new_keys stay))
  comes key here = coming_among key ∙ left_over (λ (pair : KeyPair). pair.new) alike kept e.tick.rising_new (keys t.new.rows) key here

  pub leaving_within : AllByRecursion (λ key. is_among key (keys t.old.rows) ≡ true) (leaving by t)
  leaving_within =
      every_weaker (λ key. is_among key (leaving by t) ≡ true) (λ key. is_among key (keys t.old.rows) ≡ true) (leaving by t)
      (λ key own. of_among (λ key. is_among key (keys t.old.rows) ≡ true) key (without (old_keys kept) (keys t.old.rows) ++ rest (λ (pair : KeyPair). pair.old) alike kept) (left_within (λ (pair : KeyPair). pair.old) alike kept e.tick.rising_old (keys t.old.rows) e.tick.of_old) (sym (leaving_among key) ∙ own))
      (each_among (leaving by t))

  pub coming_within : AllByRecursion (λ key. is_among key (keys t.new.rows) ≡ true) (coming by t)
  coming_within =
      every_weaker (λ key. is_among key (coming by t) ≡ true) (λ key. is_among key (keys t.new.rows) ≡ true) (coming by t)
      (λ key own. of_among (λ key. is_among key (keys t.new.rows) ≡ true) key (without (new_keys kept) (keys t.new.rows) ++ rest (λ (pair : KeyPair). pair.new) alike kept) (left_within (λ (pair : KeyPair). pair.new) alike kept e.tick.rising_new (keys t.new.rows) e.tick.of_new) (sym (coming_among key) ∙ own))
      (each_among (coming by t))

  stay_old : (key : ℕ) → is_among key (old_keys stay) ≡ true → is_among key (keys t.old.rows) ≡ true
  stay_old key here = of_among (λ key. is_among key (keys t.old.rows) ≡ true) key (old_keys kept) e.tick.of_old (some_among (λ (pair : KeyPair). pair.old) alike kept key here)

  stay_new : (key : ℕ) → is_among key (new_keys stay) ≡ true → is_among key (keys t.new.rows) ≡ true
  stay_new key here = of_among (λ key. is_among key (keys t.new.rows) ≡ true) key (new_keys kept) e.tick.of_new (some_among (λ (pair : KeyPair). pair.new) alike kept key here)

  -- each old key of a kept pair leads to the new one
  abbrev land : ℕ → ℕ
  land key = as_key (moved t.update.shifted key)

  lands : AllByRecursion (λ (pair : KeyPair). land pair.old ≡ pair.new) kept
  lands =
      every-map (λ (pair : KeyPair). land pair.old ≡ pair.new) (kept_pair t.update) (without t.update.removed (keys t.old.rows))
      (every (λ key. land key ≡ land key) (without t.update.removed (keys t.old.rows)) (λ key. refl))

  staying_in : (entry : Entry) → is_in entry (staying by t) ≡ is_in entry (entries_under by t.old (old_keys stay))
  staying_in entry =
      in_filter (λ other. not (is_among other.key (leaving by t))) entry (entries_of by t.old.rows)
      ∙ ap (λ b. not (is_among entry.key (leaving by t)) && b) (in_rows by t.old e.tick.old_table.rising entry)
      ∙ stay_table (is_among entry.key (leaving by t)) (is_among entry.key (keys t.old.rows)) (is_among entry.key (old_keys stay)) (is_own by t.old entry) (leaves entry.key) (stay_old entry.key)
      ∙ sym (in_under by t.old entry (old_keys stay))

  -- under their keys now they are the entries of the rows that stay
  rekeyed_are : map (rekeyed t.update.shifted) (entries_under by t.old (old_keys stay)) ≡ entries_under by t.new (new_keys stay)
  rekeyed_are =
      ap (map (rekeyed t.update.shifted)) (map_map (entry_under by t.old) (λ (pair : KeyPair). pair.old) stay)
      ∙ map_map (rekeyed t.update.shifted) (λ (pair : KeyPair). entry_under by t.old pair.old) stay
      ∙ map_same (λ (pair : KeyPair). rekeyed t.update.shifted (entry_under by t.old pair.old)) (λ (pair : KeyPair). entry_under by t.new pair.new) stay
      (every_both (λ pair. alike pair ≡ true) (λ (pair : KeyPair). land pair.old ≡ pair.new) (λ (pair : KeyPair). rekeyed t.update.shifted (entry_under by t.old pair.old) ≡ entry_under by t.new pair.new) stay moves
      (filter_passes alike kept) (every-filter (λ (pair : KeyPair). land pair.old ≡ pair.new) alike kept lands))
      ∙ sym (map_map (entry_under by t.new) (λ (pair : KeyPair). pair.new) stay)
    where
      moves : (pair : KeyPair) → alike pair ≡ true → land pair.old ≡ pair.new → rekeyed t.update.shifted (entry_under by t.old pair.old) ≡ entry_under by t.new pair.new
      moves pair same is =
          ap₂ (λ (cells : List ℤ) (key : ℕ). let entry : Entry = record { cells = cells; key = key } in entry) (alike_same by (cells_at pair.old t.old.rows) (cells_at pair.new t.new.rows) same) is

  moved_in : (entry : Entry) → is_in entry (carried by t) ≡ (is_among entry.key (new_keys stay) && is_own by t.new entry)
  moved_in entry =
      in_map_same (rekeyed t.update.shifted) (staying by t) (entries_under by t.old (old_keys stay)) staying_in entry
      ∙ ap (is_in entry) rekeyed_are
      ∙ in_under by t.new entry (new_keys stay)

  moved_keys : (key : ℕ) → is_among key (keys_in (carried by t)) ≡ is_among key (new_keys stay)
  moved_keys key =
      among_same (carried by t) (entries_under by t.new (new_keys stay)) (λ entry. in_map_same (rekeyed t.update.shifted) (staying by t) (entries_under by t.old (old_keys stay)) staying_in entry ∙ ap (is_in entry) rekeyed_are) key
      ∙ ap (is_among key) (keys_under by t.new (new_keys stay))

  -- no row that stays is one that goes
  pub gone_apart : AllByRecursion (λ (entry : Entry). is_among entry.key t.update.removed ≡ false) (staying by t)
  gone_apart =
      every_weaker (λ (entry : Entry). not (is_among entry.key (leaving by t)) ≡ true) (λ (entry : Entry). is_among entry.key t.update.removed ≡ false) (staying by t)
      (λ entry out. neither_left (is_among entry.key t.update.removed) (is_among entry.key (old_keys (moving_pairs by t))) (sym (among-united entry.key t.update.removed (old_keys (moving_pairs by t))) ∙ not-true (is_among entry.key (leaving by t)) out))
      (filter_passes (λ (entry : Entry). not (is_among entry.key (leaving by t))) (entries_of by t.old.rows))
    where
      neither_left : (a b : Bool) → (a || b) ≡ false → a ≡ false
      neither_left true b h = h
      neither_left false b h = refl

  pub coming_absent : AllByRecursion (λ key. is_among key (keys_in (carried by t)) ≡ false) (coming by t)
  coming_absent =
      every_both (λ key. is_among key (coming by t) ≡ true) (λ key. is_among key (keys t.new.rows) ≡ true) (λ key. is_among key (keys_in (carried by t)) ≡ false) (coming by t)
      (λ key own here. moved_keys key ∙ not-true (is_among key (new_keys stay)) (sym (comes key here) ∙ own)) (each_among (coming by t)) coming_within

  coming_rises : IsRising (coming by t)
  coming_rises = united_rises t.update.added (new_keys (moving_pairs by t)) (subst (λ pairs. IsRising (new_keys pairs)) (sym moving_are) (rising-filter (λ (pair : KeyPair). pair.new) (λ pair. not (alike pair)) kept e.tick.rising_new))

  pub coming_distinct : AreDistinct (entries_under by t.new (coming by t))
  coming_distinct = distinct_under by t.new (coming by t) (apart_rising (coming by t) coming_rises)

  -- the keys of the rows now are those that come and those of the rows that are kept
  pub keys_now : (key : ℕ) → (is_among key (coming by t) || is_among key (new_keys kept)) ≡ is_among key (keys t.new.rows)
  keys_now key =
      all_table (is_among key (coming by t)) (is_among key (new_keys kept)) (is_among key (new_keys stay)) (is_among key (keys t.new.rows)) (comes key) (some_among (λ (pair : KeyPair). pair.new) alike kept key)
      (of_among (λ key. is_among key (keys t.new.rows) ≡ true) key (coming by t) coming_within) (of_among (λ key. is_among key (keys t.new.rows) ≡ true) key (new_keys kept) e.tick.of_new)

  -- an entry that stays, under its key now, or comes is that of a row now, and each of these is
  pub members : (entry : Entry) → (is_in entry (carried by t) || is_in entry (entries_under by t.new (coming by t))) ≡ is_in entry (entries_of by t.new.rows)
  members entry =
      ap₂ (λ a b. a || b) (moved_in entry) (in_under by t.new entry (coming by t))
      ∙ there_table (is_among entry.key (new_keys stay)) (is_among entry.key (coming by t)) (is_among entry.key (keys t.new.rows)) (is_own by t.new entry) (comes entry.key) (stay_new entry.key) (of_among (λ key. is_among key (keys t.new.rows) ≡ true) entry.key (coming by t) coming_within)
      ∙ sym (in_rows by t.new e.tick.new_table.rising entry)

  -- the entries after the edits are those of the rows now
  pub entries_now : (made : List Entry) → Rises by made → ((entry : Entry) → is_in entry made ≡ (is_in entry (carried by t) || is_in entry (entries_under by t.new (coming by t)))) → made ≡ entries_of by t.new.rows
  entries_now made rises are = one_list by made (entries_of by t.new.rows) rises (sorted_rises by t.new.rows e.tick.new_table.rising) (λ entry. are entry ∙ members entry)

  -- the pairs of positions
  abbrev placed : List KeyPair
  placed = sort_pairs by (tick_of t)

  of_new : AllByRecursion (λ (pair : KeyPair). is_among pair.new (keys t.new.rows) ≡ true) stay
  of_new = every-filter (λ (pair : KeyPair). is_among pair.new (keys t.new.rows) ≡ true) alike kept (every_unmapped (λ key. is_among key (keys t.new.rows) ≡ true) (λ (pair : KeyPair). pair.new) kept e.tick.of_new)

  of_old : AllByRecursion (λ (pair : KeyPair). is_among pair.old (keys t.old.rows) ≡ true) stay
  of_old = every-filter (λ (pair : KeyPair). is_among pair.old (keys t.old.rows) ≡ true) alike kept (every_unmapped (λ key. is_among key (keys t.old.rows) ≡ true) (λ (pair : KeyPair). pair.old) kept e.tick.of_old)

  old_places : (i : ℕ) (row : PlainRow) → slice_get (in_order by t.old.rows) i ≡ Some row → is_among i (old_keys placed) ≡ is_among row.key (old_keys stay)
  old_places = old_place by t.old.rows t.new.rows e.tick.old_table.rising e.tick.new_table.rising stay

  new_places : (i : ℕ) (row : PlainRow) → slice_get (in_order by t.new.rows) i ≡ Some row → is_among i (new_keys placed) ≡ is_among row.key (new_keys stay)
  new_places = new_place by t.old.rows t.new.rows e.tick.old_table.rising e.tick.new_table.rising stay of_new land (every-filter (λ (pair : KeyPair). land pair.old ≡ pair.new) alike kept lands) of_old

  -- the positions of the rows that leave are those of the rows that go, and likewise of those that come
  pub removed_is : (positions : List ℕ) → IsKeySet positions → AreUnder (keys_in (entries_of by t.old.rows)) (leaving by t) positions → positions ≡ (between (sorted by (tick_of t))).removed
  removed_is positions set are =
      others_are by t.old e.tick.old_table.rising positions (leaving by t) are (old_keys placed) (old_keys stay) old_places leaves set.rising (sorted_tick by t e).old_table.rising

  pub added_is : (positions : List ℕ) → IsKeySet positions → AreUnder (keys_in (entries_of by t.new.rows)) (coming by t) positions → positions ≡ (between (sorted by (tick_of t))).added
  added_is positions set are =
      others_are by t.new e.tick.new_table.rising positions (coming by t) are (new_keys placed) (new_keys stay) new_places comes set.rising (sorted_tick by t e).new_table.rising

  -- the keys of the rows that stay and are modified
  abbrev old_modified : List ℕ
  old_modified = old_keys (staying_pairs by t)

  abbrev new_modified : List ℕ
  new_modified = new_keys (staying_pairs by t)

  modified_stay_old : (key : ℕ) → is_among key old_modified ≡ true → is_among key (old_keys stay) ≡ true
  modified_stay_old key h = some_among (λ (pair : KeyPair). pair.old) is_modified stay key (ap (λ pairs. is_among key (old_keys pairs)) (sym staying_are) ∙ h)

  modified_stay_new : (key : ℕ) → is_among key new_modified ≡ true → is_among key (new_keys stay) ≡ true
  modified_stay_new key h = some_among (λ (pair : KeyPair). pair.new) is_modified stay key (ap (λ pairs. is_among key (new_keys pairs)) (sym staying_are) ∙ h)

  abbrev IsTold : KeyPair → Type 0
  IsTold pair = (is_among pair.old old_modified ≡ is_modified pair) × (is_among pair.new new_modified ≡ is_modified pair) × (is_modified pair ≡ differs t.old t.new pair)

  all_told : AllByRecursion IsTold stay
  all_told =
      every_both (λ pair. is_among pair.old old_modified ≡ is_modified pair) (λ pair. (is_among pair.new new_modified ≡ is_modified pair) × (is_modified pair ≡ differs t.old t.new pair)) IsTold stay (λ pair a b. (a, b.0, b.1))
      (subst (λ pairs. AllByRecursion (λ pair. is_among pair.old (old_keys pairs) ≡ is_modified pair) stay) (sym staying_are) (named_by (λ (pair : KeyPair). pair.old) is_modified stay (rising-filter (λ (pair : KeyPair). pair.old) alike kept e.tick.rising_old)))
      (every_both (λ pair. is_among pair.new new_modified ≡ is_modified pair) (λ pair. is_modified pair ≡ differs t.old t.new pair) (λ pair. (is_among pair.new new_modified ≡ is_modified pair) × (is_modified pair ≡ differs t.old t.new pair)) stay (λ pair a b. (a, b))
      (subst (λ pairs. AllByRecursion (λ pair. is_among pair.new (new_keys pairs) ≡ is_modified pair) stay) (sym staying_are) (named_by (λ (pair : KeyPair). pair.new) is_modified stay (rising-filter (λ (pair : KeyPair). pair.new) alike kept e.tick.rising_new)))
      (every-filter (λ pair. is_modified pair ≡ differs t.old t.new pair) alike kept (modified_by t e)))

  -- no more rows are compared than are modified, nor do more move
  pub few_compared : length new_modified ≤ length t.update.modified
  few_compared =
      let entries_count : length new_modified ≡ length (staying_pairs by t) = length-map (staying_pairs by t) (λ (pair : KeyPair). pair.new) in
      let most : length (staying_pairs by t) ≤ length (modified_pairs t) = length-filter_most alike (modified_pairs t) in
      let modified_count : length t.update.modified ≡ length (modified_pairs t) = ap length (modified_new t e) ∙ length-map (modified_pairs t) (λ (pair : KeyPair). pair.new) in
      omega (arith, entries_count, most, modified_count)

  pub few_coming : length (coming by t) ≤ length t.update.added + length t.update.modified
  few_coming =
      let all = length-united t.update.added (new_keys (moving_pairs by t)) in
      let moving_count : length (new_keys (moving_pairs by t)) ≡ length (moving_pairs by t) = length-map (moving_pairs by t) (λ (pair : KeyPair). pair.new) in
      let most : length (moving_pairs by t) ≤ length (modified_pairs t) = length-filter_most (λ pair. not (alike pair)) (modified_pairs t) in
      let modified_count : length t.update.modified ≡ length (modified_pairs t) = ap length (modified_new t e) ∙ length-map (modified_pairs t) (λ (pair : KeyPair). pair.new) in
      omega (arith, all, moving_count, most, modified_count)

  -- the rows that are compared are there
  pub compared_old : AllByRecursion (λ key. is_among key (keys t.old.rows) ≡ true) old_modified
  compared_old =
      every_weaker (λ key. is_among key old_modified ≡ true) (λ key. is_among key (keys t.old.rows) ≡ true) old_modified (λ key own. stay_old key (modified_stay_old key own)) (each_among old_modified)

  pub compared_new : AllByRecursion (λ key. is_among key (keys t.new.rows) ≡ true) new_modified
  compared_new =
      every_weaker (λ key. is_among key new_modified ≡ true) (λ key. is_among key (keys t.new.rows) ≡ true) new_modified (λ key own. stay_new key (modified_stay_new key own)) (each_among new_modified)

  module _ (before now : List ℕ) (set_before : IsKeySet before) (set_now : IsKeySet now)
      (are_before : AreUnder (keys_in (entries_of by t.old.rows)) old_modified before) (are_now : AreUnder (keys_in (entries_of by t.new.rows)) new_modified now) where
    abbrev IsPlaced : KeyPair → Type 0
    IsPlaced pair = (is_among pair.old before ≡ is_among pair.new now) × (is_among pair.new now ≡ differs (sort_table by t.old) (sort_table by t.new) pair)

    all_placed : AllByRecursion IsPlaced placed
    all_placed =
        every_weaker (IsKept (in_order by t.old.rows) (in_order by t.new.rows) IsTold) IsPlaced placed go
        (each_kept by t.old.rows t.new.rows e.tick.old_table.rising e.tick.new_table.rising stay of_new IsTold all_told)
      where
        go : (pair : KeyPair) → IsKept (in_order by t.old.rows) (in_order by t.new.rows) IsTold pair → IsPlaced pair
        go pair k =
            let in_before : is_among pair.old before ≡ is_modified k.pair =
            position_here by t.old e.tick.old_table.rising before old_modified are_before pair.old k.old_row k.old_here ∙ ap (λ key. is_among key old_modified) k.old_own ∙ k.known.0 in
            let in_now : is_among pair.new now ≡ is_modified k.pair =
            position_here by t.new e.tick.new_table.rising now new_modified are_now pair.new k.new_row k.new_here ∙ ap (λ key. is_among key new_modified) k.new_own ∙ k.known.1 in
            let same : differs (sort_table by t.old) (sort_table by t.new) pair ≡ differs t.old t.new k.pair =
            ap₂ (λ xs ys. not (same_cells xs ys))
            (cells_here by t.old e.tick.old_table.rising pair.old k.old_row k.old_here ∙ ap (λ key. cells_at key t.old.rows) k.old_own)
            (cells_here by t.new e.tick.new_table.rising pair.new k.new_row k.new_here ∙ ap (λ key. cells_at key t.new.rows) k.new_own) in
            (in_before ∙ sym in_now, in_now ∙ k.known.2 ∙ sym same)

    -- the pairs that are compared
    abbrev compared : List KeyPair
    compared = filter (λ pair. is_among pair.new now) placed

    before_is : old_keys compared ≡ before
    before_is =
        ap old_keys (filter_same (λ (pair : KeyPair). is_among pair.new now) (λ (pair : KeyPair). is_among pair.old before) placed (every_weaker IsPlaced (λ (pair : KeyPair). is_among pair.new now ≡ is_among pair.old before) placed (λ pair h. sym h.0) all_placed))
        ∙ sym (filter-map (λ key. is_among key before) (λ (pair : KeyPair). pair.old) placed)
        ∙ as_filter before (old_keys placed) set_before.rising (sorted_tick by t e).rising_old
        (within_placed by t.old e.tick.old_table.rising before old_modified are_before (old_keys placed) (old_keys stay) old_places modified_stay_old)

    now_is : new_keys compared ≡ now
    now_is =
        sym (filter-map (λ key. is_among key now) (λ (pair : KeyPair). pair.new) placed)
        ∙ as_filter now (new_keys placed) set_now.rising (sorted_tick by t e).rising_new
        (within_placed by t.new e.tick.new_table.rising now new_modified are_now (new_keys placed) (new_keys stay) new_places modified_stay_new)

    -- the positions of modified rows of equal sort cells are all that are compared
    pub compared_are : AreCompared (sort_table by t.old) (sort_table by t.new) (sort_pairs by (tick_of t)) before now
    compared_are = record {
      even = ap length (sym before_is) ∙ length-map compared (λ (pair : KeyPair). pair.old) ∙ sym (length-map compared (λ (pair : KeyPair). pair.new)) ∙ ap length now_is;
      compared = ap₂ pairs_of (sym before_is) (sym now_is) ∙ pairs_of-keys compared;
      others = every_weaker IsPlaced (λ (pair : KeyPair). is_among pair.new now ≡ false → differs (sort_table by t.old) (sort_table by t.new) pair ≡ false) placed (λ pair h out. sym h.1 ∙ out) all_placed;
    }
