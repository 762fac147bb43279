-- Where no input of an operator changes its table stays, too, and the update is empty.
use Rattle.std.proofs.Common.{◌≡◌, refl, ap, ap₂, sym, ◌∙◌, subst, ℕ, ◌+◌, ◌==◌, ◌<◌, Bool, true, false, cond, not, ◌&&◌, ◌||◌, List, [], ◌∷◌, ◌++◌, map, length, true≢false, ℤ, pos, ◌+ℤ◌, arith}
use Rattle.std.{specs.Prelude.{Option, Some, None, filter, filter_map, find, option_map, slice_index}, specs.List.{AllByRecursion, cons_option, enumerate_from, list_all}, specs.Cmp.signed_Decides, specs.Ordering.int_eq, specs.Cmp.Rules.signed_items, proofs.lemmas.Bool.{and_parts, eq-eqb, eqb-true, ne_eqb}, proofs.lemmas.Int.ints, proofs.lemmas.List.{append_assoc, map-append, length_push}}
use Rattle.tick_model.{specs.declared.plan.SortBy.SortBy, specs.declared.plan.Op.Op, specs.declared.plan.Op.TheVariants.{Source, View, Join, Agg, Merge, Sort, AsOf}, specs.declared.table.PlainRow.PlainRow, specs.declared.table.PlainTable.PlainTable, specs.declared.update.KeyPair.KeyPair, specs.Tables.{IsTable, cell, cells_at, keys, row_at, same_cells}, proofs.Among.each_found, specs.Shifts.{as_key, moved}, specs.Sources.{same_key, unchanged}, specs.Updates.{Tick, IsTick, Update, between, both_in, kept_pair, pairs}, specs.Changes.{is_empty, is_none}, specs.Agg.{agg_row, agg_table, is_first, key_cells}, specs.AsOf.{latest, not_later}, specs.Operators.{inputs_of, result, kept_by}, specs.Join.{chosen, joined, matches}, specs.Sort.{in_order, numbered, place_of, place_pair, same_place, sort_pairs, sort_table}, specs.View.view_row, specs.Merge.{merged_pairs, merged_rows, pair_from, region, row_from}}
use Rattle.key_lists.{specs.Keys.{is_among, IsRising, without}, proofs.Among.each_among, proofs.Every.{every, every_unmapped, every_weaker, every-append, every-filter, every-map, filter-map, filter_all, filter_same}, proofs.Rising.as_filter}
use Rattle.tick_laws.{proofs.Carried.pairs-between, proofs.EmptyUpdates.{none_is, unchanged_by_empty}, proofs.OperatorTicks.keys_mapped, proofs.Placed.{IsPlaced, Stands, every-in_order, in_order_placed}, proofs.EvalNodes.result_same, proofs.ResultTables.{result_has, result_table}, proofs.TickNodes.{kept_same, tick_from}, specs.Operated.operated}

abbrev pub IsStill : Tick → Type 0
IsStill tick = tick ≡ unchanged tick.old

-- the pairs of an update that is empty
pairs_of_none : (old : PlainTable) (update : Update) → update.removed ≡ [] → update.shifted ≡ [] → pairs old update ≡ map same_key (keys old.rows)
pairs_of_none old update r s =
    ap (λ removed. map (kept_pair update) (without removed (keys old.rows))) r
    ∙ ap (map (kept_pair update)) (filter_all (keys old.rows))
    ∙ ap (λ shifts. map (λ key. let pair : KeyPair = record { old = key; new = as_key (moved shifts key) } in pair) (keys old.rows)) s
    ∙ go (keys old.rows)
  where
    stays : (key : ℕ) → pos key +ℤ pos 0 ≡ pos key
    stays key = omega (arith, ints)

    go : (ks : List ℕ) → map (λ key. let pair : KeyPair = record { old = key; new = as_key (moved [] key) } in pair) ks ≡ map same_key ks
    go [] = refl
    go (key ∷ ks) = ap₂ (λ (first : KeyPair) (rest : List KeyPair). first ∷ rest) (ap (λ n. let pair : KeyPair = record { old = key; new = as_key n } in pair) (stays key)) (go ks)

-- a tick whose update is empty changes nothing
pub still_by_empty : (tick : Tick) → IsTick tick → is_empty (between tick) ≡ true → IsStill tick
still_by_empty tick h empty =
    let update = between tick in
    let three = and_parts (is_none update.removed && is_none update.added && is_none update.modified) (is_none update.shifted) empty in
    let two = and_parts (is_none update.removed && is_none update.added) (is_none update.modified) three.0 in
    let one = and_parts (is_none update.removed) (is_none update.added) two.0 in
    let kept : tick.kept ≡ map same_key (keys tick.old.rows) = sym (pairs-between tick h) ∙ pairs_of_none tick.old update (none_is update.removed one.0) (none_is update.shifted three.1) in
    ap₂ (λ (new : PlainTable) (kept : List KeyPair). let same : Tick = record { old = tick.old; new = new; kept = kept } in same) (unchanged_by_empty tick h empty) kept

-- rows of a table that are among those of another
both_same : (table : PlainTable) (ks : List ℕ) → IsRising (keys table.rows) → IsRising ks → AllByRecursion (λ key. is_among key ks ≡ true) (keys table.rows) → both_in table table (map same_key ks) ≡ map same_key (keys table.rows)
both_same table ks own all within =
    filter-map (λ (pair : KeyPair). is_among pair.old (keys table.rows) && is_among pair.new (keys table.rows)) same_key ks
    ∙ ap (map same_key) (filter_same (λ key. is_among key (keys table.rows) && is_among key (keys table.rows)) (λ key. is_among key (keys table.rows)) ks (every (λ key. (is_among key (keys table.rows) && is_among key (keys table.rows)) ≡ is_among key (keys table.rows)) ks (λ key. twice (is_among key (keys table.rows))))
    ∙ as_filter (keys table.rows) ks own all within)
  where
    twice : (b : Bool) → (b && b) ≡ b
    twice true = refl
    twice false = refl

-- each row has its key among those of all
own_keys : (rows : List PlainRow) → AllByRecursion (λ (row : PlainRow). is_among row.key (keys rows) ≡ true) rows
own_keys rows = every_unmapped (λ key. is_among key (keys rows) ≡ true) (λ (row : PlainRow). row.key) rows (each_among (keys rows))

as_keys : (rows some : List PlainRow) → AllByRecursion (λ (row : PlainRow). is_among row.key (keys rows) ≡ true) some → AllByRecursion (λ key. is_among key (keys rows) ≡ true) (keys some)
as_keys rows some h = every-map (λ key. is_among key (keys rows) ≡ true) (λ (row : PlainRow). row.key) some h

-- the pairs of a merge
merged_same : (offset : ℕ) (table : ℕ → PlainTable) (inputs : List ℕ) → merged_pairs offset offset (map (λ n. unchanged (table n)) inputs) ≡ map same_key (keys (merged_rows offset (map table inputs)))
merged_same offset table [] = refl
merged_same offset table (n ∷ ns) =
    ap₂ (λ (xs ys : List KeyPair). xs ++ ys) (own (table n).rows) (merged_same (offset + region (table n)) table ns)
    ∙ sym (map-append same_key (keys (map (row_from offset) (table n).rows)) (keys (merged_rows (offset + region (table n)) (map table ns))))
    ∙ ap (map same_key) (sym (map-append (λ (row : PlainRow). row.key) (map (row_from offset) (table n).rows) (merged_rows (offset + region (table n)) (map table ns))))
  where
    own : (rows : List PlainRow) → map (pair_from offset offset) (map same_key (keys rows)) ≡ map same_key (keys (map (row_from offset) rows))
    own [] = refl
    own (row ∷ rows) = ap (λ rest. same_key (row.key + offset) ∷ rest) (own rows)

-- every pair of equal keys has the same cells before and now
kept_cells : (by : List ℕ) (rows : List PlainRow) (ks : List ℕ) → filter (λ (pair : KeyPair). same_cells (key_cells by (cells_at pair.old rows)) (key_cells by (cells_at pair.new rows))) (map same_key ks) ≡ map same_key ks
kept_cells by rows ks =
    filter-map (λ (pair : KeyPair). same_cells (key_cells by (cells_at pair.old rows)) (key_cells by (cells_at pair.new rows))) same_key ks
    ∙ ap (map same_key) (filter_same (λ key. same_cells (key_cells by (cells_at key rows)) (key_cells by (cells_at key rows))) (λ _. true) ks
    (every (λ key. same_cells (key_cells by (cells_at key rows)) (key_cells by (cells_at key rows)) ≡ true) ks (λ key. (signed_items (key_cells by (cells_at key rows)) (key_cells by (cells_at key rows))).1 refl)) ∙ filter_all ks)

-- the place of the row of a key behind rows of other keys
place_after : (key : ℕ) (done : List PlainRow) (row : PlainRow) (rows : List PlainRow) → AllByRecursion (λ (other : PlainRow). (other.key == key) ≡ false) done → row.key ≡ key → place_of key (done ++ row ∷ rows) ≡ length done
place_after key [] row rows h e = ap (λ b. cond (not b) (1 + place_of key rows) 0) (eq-eqb row.key key e)
place_after key (other ∷ done) row rows h e =
    let rest = place_after key done row rows h.1 e in
    ap (λ b. cond (not b) (1 + place_of key (done ++ row ∷ rows)) 0) h.0 ∙ omega (arith, rest)

find_same : (key : ℕ) (ks : List ℕ) → is_among key ks ≡ true → find (λ (pair : KeyPair). pair.old == key) (map same_key ks) ≡ Some (same_key key)
find_same key [] h = absurd (true≢false (sym h))
find_same key (k ∷ ks) h = go (k == key) refl (λ e. find_same key ks (sym (ap (λ b. b || is_among key ks) e) ∙ h))
  where
    go : (b : Bool) → (k == key) ≡ b → ((k == key) ≡ false → find (λ (pair : KeyPair). pair.old == key) (map same_key ks) ≡ Some (same_key key)) → find (λ (pair : KeyPair). pair.old == key) (map same_key (k ∷ ks)) ≡ Some (same_key key)
    go true e rest = ap (λ b. cond b (Some (same_key k)) (find (λ (pair : KeyPair). pair.old == key) (map same_key ks))) e ∙ ap (λ n. Some (same_key n)) (eqb-true k key e)
    go false e rest = ap (λ b. cond b (Some (same_key k)) (find (λ (pair : KeyPair). pair.old == key) (map same_key ks))) e ∙ rest e

module _ (by : List SortBy) (input : PlainTable) (h : IsTable input) where
  abbrev sorted : List PlainRow
  sorted = in_order by input.rows

  abbrev Found : PlainRow → Type 0
  Found row = row_at row.key input.rows ≡ Some row

  abbrev IsOther : PlainRow → PlainRow → Type 0
  IsOther row other = (other.key == row.key) ≡ false

  -- of two rows that are there one stands before the other, so they have two keys
  other_keys : (a b : PlainRow) → Found a → Found b → Stands by a b → IsOther b a
  other_keys a b fa fb st = ne_eqb a.key b.key (λ e.
      let same : a ≡ b = ap (λ (o : Option PlainRow). elim o [ None ↦ a | Some x ↦ x ]) (sym fa ∙ ap (λ key. row_at key input.rows) e ∙ fb) in
      let own : Stands by a a = subst (Stands by a) (sym same) st in
      let less : a.key < a.key = own.1 own.0 in omega (arith, less))

  same_cells_there : (sorts : List SortBy) (cells : List ℤ) → list_all (λ (sort : SortBy). int_eq (cell cells sort.column) (cell cells sort.column)) sorts ≡ true
  same_cells_there [] cells = refl
  same_cells_there (sort ∷ sorts) cells = ap (λ b. b && list_all (λ (sort : SortBy). int_eq (cell cells sort.column) (cell cells sort.column)) sorts) ((signed_Decides (cell cells sort.column) (cell cells sort.column)).1 refl) ∙ same_cells_there sorts cells

  all_kept : (ks : List ℕ) → filter (same_place by (unchanged input)) (map same_key ks) ≡ map same_key ks
  all_kept ks =
      filter-map (same_place by (unchanged input)) same_key ks
      ∙ ap (map same_key) (filter_same (λ key. same_place by (unchanged input) (same_key key)) (λ _. true) ks (every (λ key. same_place by (unchanged input) (same_key key) ≡ true) ks (λ key. same_cells_there by (cells_at key input.rows))) ∙ filter_all ks)

  places : (n : ℕ) (done rows : List PlainRow) → sorted ≡ done ++ rows → length done ≡ n
      → AllByRecursion (λ (row : PlainRow). is_among row.key (keys input.rows) ≡ true) rows → AllByRecursion Found rows → IsPlaced by rows
      → AllByRecursion (λ (row : PlainRow). AllByRecursion (IsOther row) done) rows
      → filter_map (place_pair sorted (map same_key (keys input.rows))) (enumerate_from n rows) ≡ map same_key (keys (numbered n rows))
  places n done [] e l own found placed others = refl
  places n done (row ∷ rows) e l own found placed others =
      let place : place_of row.key sorted ≡ n = ap (place_of row.key) e ∙ place_after row.key done row rows others.0 refl ∙ l in
      ap (λ o. cons_option (option_map (λ (pair : KeyPair). let placed : KeyPair = record { old = n; new = place_of pair.new sorted } in placed) o) (filter_map (place_pair sorted (map same_key (keys input.rows))) (enumerate_from (n + 1) rows))) (find_same row.key (keys input.rows) own.0)
      ∙ ap₂ (λ (new : ℕ) (rest : List KeyPair). (let pair : KeyPair = record { old = n; new = new } in pair) ∷ rest) place
      (places (n + 1) (done ++ row ∷ []) rows (e ∙ sym (append_assoc done (row ∷ []) rows)) (length_push done row ∙ ap (λ m. m + 1) l) own.1 found.1 placed.1 (next rows found.1 placed.0 others.1))
    where
      next : (those : List PlainRow) → AllByRecursion Found those → AllByRecursion (Stands by row) those → AllByRecursion (λ (other : PlainRow). AllByRecursion (IsOther other) done) those → AllByRecursion (λ (other : PlainRow). AllByRecursion (IsOther other) (done ++ row ∷ [])) those
      next [] f st o = tt
      next (other ∷ those) f st o = (every-append (IsOther other) done (row ∷ []) o.0 (other_keys row other found.0 f.0 st.0, tt), next those f.1 st.1 o.1)

  pub sort_stays : sort_pairs by (unchanged input) ≡ map same_key (keys (sort_table by input).rows)
  sort_stays =
      ap (λ kept. filter_map (place_pair sorted kept) (enumerate_from 0 sorted)) (all_kept (keys input.rows))
      ∙ places 0 [] sorted refl refl (every-in_order by (λ (row : PlainRow). is_among row.key (keys input.rows) ≡ true) input.rows (own_keys input.rows))
      (every-in_order by Found input.rows (each_found input.rows h.rising)) (in_order_placed by input.rows h.rising) (every (λ (row : PlainRow). AllByRecursion (IsOther row) []) sorted (λ row. tt))

-- rows with other cells under the same keys
mapped_stays : (f : PlainRow → PlainRow) (rows : List PlainRow) → ((row : PlainRow) → (f row).key ≡ row.key) → map same_key (keys rows) ≡ map same_key (keys (map f rows))
mapped_stays f rows same = ap (map same_key) (sym (keys_mapped f rows same))

-- the pairs of an operator over tables that stay are those of all its rows
pairs_stay : (op : Op) (table : ℕ → PlainTable) → AllByRecursion (λ n. IsTable (table n)) (inputs_of op) → kept_by op (λ n. unchanged (table n)) (result op table) (result op table) ≡ map same_key (keys (result op table).rows)
pairs_stay Source table t = refl
pairs_stay (View input exprs) table t = mapped_stays (view_row exprs) (table input).rows (λ row. refl)
pairs_stay (Join left right on take choice) table t = mapped_stays (joined take (λ row. chosen choice (matches on (table right).rows row))) (table left).rows (λ row. refl)
pairs_stay (AsOf left right on at take) table t = mapped_stays (joined take (λ row. latest at.right (not_later on at (table right).rows row))) (table left).rows (λ row. refl)
pairs_stay (Agg input by aggs) table t =
    let rows = (table input).rows in
    let made = agg_table by aggs (table input) in
    let firsts = filter (is_first by rows) rows in
    ap (filter (λ (pair : KeyPair). same_cells (key_cells by (cells_at pair.old rows)) (key_cells by (cells_at pair.new rows))))
    (both_same made (keys rows) (result_table (Agg input by aggs) table t tt).rising t.0.rising
    (subst (AllByRecursion (λ key. is_among key (keys rows) ≡ true)) (sym (keys_mapped (agg_row by aggs rows) firsts (λ row. refl)))
    (as_keys rows firsts (every-filter (λ (row : PlainRow). is_among row.key (keys rows) ≡ true) (is_first by rows) rows (own_keys rows)))))
    ∙ kept_cells by rows (keys made.rows)
pairs_stay (Merge inputs) table t = merged_same 0 table inputs
pairs_stay (Sort input by) table t = sort_stays by (table input) t.0
pairs_stay op table t =
    let input = slice_index (inputs_of op) 0 in
    let IsOwn : ℕ → PlainRow → Type 0 = λ i row. is_among row.key (keys (table i).rows) ≡ true in
    both_same (result op table) (keys (table input).rows) (result_table op table t tt).rising t.0.rising
    (as_keys (table input).rows (result op table).rows (result_has op IsOwn (IsOwn input) table (λ row own. own, tt) t (own_keys (table input).rows, tt)))

-- an operator none of whose inputs changes keeps its table, and every row in its place
pub operator_stays : (op : Op) (tick : ℕ → Tick) → AllByRecursion (λ n. IsStill (tick n)) (inputs_of op) → AllByRecursion (λ n. IsTable (tick n).old) (inputs_of op) → operated op tick ≡ unchanged (result op (λ n. (tick n).old))
operator_stays op tick h t =
    let old = result op (λ n. (tick n).old) in
    let same = result_same op (λ n. (tick n).new) (λ n. (tick n).old) (every_weaker (λ n. IsStill (tick n)) (λ n. (tick n).new ≡ (tick n).old) (inputs_of op) (λ n still. ap (λ (t : Tick). t.new) still) h) in
    ap (λ new. tick_from old new (kept_by op tick old new)) same
    ∙ ap (tick_from old old) (kept_same op tick (λ n. unchanged (tick n).old) old old h ∙ pairs_stay op (λ n. (tick n).old) t)
