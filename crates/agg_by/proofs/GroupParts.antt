-- The parts of the change of an aggregation are found among the groups that the step touches.
use Rattle.std.proofs.Common.{◌≡◌, refl, ap, ap₂, sym, ◌∙◌, subst, Bool, true, false, not, ◌&&◌, ◌||◌, ◌==◌, ℕ, ◌<◌, arith, List, [], ◌∷◌, ◌++◌, map, filter, length, inl, inr, true≢false, ℤ}
use Rattle.std.{specs.Prelude.{nat_lt, slice_get}, specs.Option.option_map_or, specs.Cmp.Rules.signed_items, specs.List.AllByRecursion, proofs.lemmas.Bool.{and_parts, cases_eq, eq-eqb, ltb-false, ltb-true, ne_eqb, or_parts}, proofs.lemmas.List.length-map}
use Rattle.key_lists.{specs.Keys.{is_among, IsRising, without}, proofs.Among.{among-filter, each_among, of_among, absent-filter}, proofs.Every.{and_swap, every, every_both, every_weaker, every-filter, every-map, every_unmapped, filter-map, filter_filter, filter_passes, filter_same, filter_swap, map_map, map_own, map_same}, proofs.Rising.rising_some, proofs.Booleans.and_false}
use Rattle.row_changes.{proofs.Comparing.pairs_of-keys, specs.Parts.{AreParts, Parts}}
use Rattle.row_set.proofs.United.{among-united}
use Rattle.shift_data.{proofs.ByRange.moves_up, specs.Moves.{IsLawful, canonical, pair_by, pairs_of}}
use Rattle.shown_rows.{proofs.Named.{filter_named, named_by, of_named}, proofs.Restricted.{exact_shift, is_modified, kept, old_some}}
use Rattle.table_update.{proofs.LawfulParts.lawful_some, specs.Kept.old_modified}
use Rattle.tick_laws.{proofs.OperatorTicks.operator_keeps, proofs.ResultTables.result_table}
use Rattle.tick_model.{proofs.Among.rows_among, specs.Agg.{agg_table, aggregate, key_cells}, specs.declared.plan.Agg.Agg, specs.declared.plan.Op.TheVariants.Agg as Aggregated, specs.declared.table.PlainRow.PlainRow, specs.declared.table.PlainTable.PlainTable, specs.declared.update.KeyPair.KeyPair, specs.declared.update.ShiftRange.ShiftRange, specs.Shifts.{as_key, moved, shifted}, specs.Tables.{cells_at, keys, same_cells, IsTable}, specs.Updates.{IsTick, Tick, between, differs, kept_pair, new_keys, old_keys, shifting}}
use Rattle.tick_table.{proofs.Between.staying_are, specs.Exact.{IsExact, tick_of}, specs.Ticking.Ticking}
use Rattle.agg_by.{specs.Aggregator.grouped, specs.Kept.group_rows, specs.Steps.{come, first_keys, gone, is_touched, key_at, staying, stays, touched_firsts}, proofs.GroupRows.{cells-agg, first_at, first_keys_by, group_cells, keys-agg, leads, leads_own}, proofs.Unmoved.{added_at, and_with, old_at, quiet_before, quiet_cells, quiet_now}, proofs.Untouched.{aggregate-shifting, group_stays, none_come, none_gone, own_cells}}

-- where rising keys rise again after a move, the move keeps them apart
moves_apart : (f : ℕ → ℕ) (xs : List ℕ) (a b : ℕ) → IsRising xs → IsRising (map f xs) → is_among a xs ≡ true → is_among b xs ≡ true → (f a == f b) ≡ (a == b)
moves_apart f xs a b r m ha hb =
    elim (cases_eq a b) [
      | inl same ↦ eq-eqb (f a) (f b) (ap f same) ∙ sym (eq-eqb a b same)
      | inr other ↦ ne_eqb (f a) (f b) (λ (e : f a ≡ f b). apart other e (nat_lt a b) refl) ∙ sym (ne_eqb a b other)
    ]
  where
    apart : (a ≡ b → ⊥) → f a ≡ f b → (c : Bool) → nat_lt a b ≡ c → ⊥
    apart other e true h = let up = moves_up f xs a b r m ha hb (ltb-true a b h) in omega (arith, up, e)
    apart other e false h = let below : b < a = omega (arith, other, ltb-false a b h) in let up = moves_up f xs b a r m hb ha below in omega (arith, up, e)

-- the first of rows that moved
first_moved : (shifts : List ShiftRange) (rows : List PlainRow) (key : ℕ) → option_map_or (λ (first : PlainRow). first.key == key) (slice_get (shifting shifts rows) 0) false ≡ option_map_or (λ (first : PlainRow). as_key (moved shifts first.key) == key) (slice_get rows 0) false
first_moved shifts [] key = refl
first_moved shifts (row ∷ rows) key = refl

first_tested : (p q : PlainRow → Bool) (rows : List PlainRow) → AllByRecursion (λ row. p row ≡ q row) rows → option_map_or p (slice_get rows 0) false ≡ option_map_or q (slice_get rows 0) false
first_tested p q [] h = refl
first_tested p q (row ∷ rows) h = h.0

-- a key that fails where all of these pass is none of them
not_among : (p : ℕ → Bool) (these : List ℕ) (key : ℕ) → AllByRecursion (λ other. p other ≡ false) these → p key ≡ true → is_among key these ≡ false
not_among p these key none own = by_case (is_among key these) refl
  where
    by_case : (b : Bool) → is_among key these ≡ b → b ≡ false
    by_case true h = absurd (true≢false (sym own ∙ of_among (λ other. p other ≡ false) key these none h))
    by_case false h = refl

module _ (by : List ℕ) (aggs : List Agg) (t : Ticking) (e : IsExact t) where
  abbrev pub old : PlainTable
  old = agg_table by aggs t.old

  abbrev pub new : PlainTable
  new = agg_table by aggs t.new

  abbrev pub tick : Tick
  tick = grouped by aggs (tick_of t)

  abbrev pub firsts_before : List ℕ
  firsts_before = first_keys by t.old.rows

  abbrev pub firsts_now : List ℕ
  firsts_now = first_keys by t.new.rows

  abbrev pub touches : KeyPair → Bool
  touches pair = is_touched by t (key_at by t.old.rows pair.old)

  abbrev same : KeyPair → Bool
  same pair = same_cells (key_at by t.old.rows pair.old) (key_at by t.new.rows pair.new)

  abbrev both : KeyPair → Bool
  both pair = is_among pair.old firsts_before && is_among pair.new firsts_now

  abbrev stay : KeyPair → Bool
  stay pair = both pair && same pair

  abbrev pub touched : KeyPair → Bool
  touched pair = touches pair && stay pair

  kept_is : tick.kept ≡ filter stay (kept t e)
  kept_is =
      ap₂ (λ (o n : List ℕ). filter same (filter (λ pair. is_among pair.old o && is_among pair.new n) (kept t e))) (keys-agg by aggs t.old) (keys-agg by aggs t.new)
      ∙ filter_filter same both (kept t e)

  pub olds_there : AllByRecursion (λ pair. is_among pair.old (keys t.old.rows) ≡ true) (kept t e)
  olds_there = every_unmapped (λ key. is_among key (keys t.old.rows) ≡ true) (λ (pair : KeyPair). pair.old) (kept t e) e.tick.of_old

  news_there : AllByRecursion (λ pair. is_among pair.new (keys t.new.rows) ≡ true) (kept t e)
  news_there = every_unmapped (λ key. is_among key (keys t.new.rows) ≡ true) (λ (pair : KeyPair). pair.new) (kept t e) e.tick.of_new

  same_touched : (pair : KeyPair) → same pair ≡ true → is_touched by t (key_at by t.new.rows pair.new) ≡ touches pair
  same_touched pair are = ap (is_touched by t) (sym ((signed_items (key_at by t.old.rows pair.old) (key_at by t.new.rows pair.new)).0 are))

  -- l: it leads its group before, w: the group is touched before, n: now, f: it is a first row now, s: the key cells are the same
  stays_when : (l w n f s : Bool) → (s ≡ true → n ≡ w) → ((l && w) && ((n && f) && s)) ≡ (w && ((l && f) && s))
  stays_when false w n f s h = sym (and_false w)
  stays_when true false n f s h = refl
  stays_when true true n f true h = ap (λ b. (b && f) && true) (h refl)
  stays_when true true n f false h = and_false (n && f) ∙ sym (and_false f)

  pub touched_at : (rows : List PlainRow) (key : ℕ) → is_among key (touched_firsts by t rows) ≡ (is_touched by t (key_at by rows key) && is_among key (first_keys by rows))
  touched_at rows key = among-filter (λ key. is_touched by t (key_at by rows key)) key (first_keys by rows)

  abbrev pub survivors : List ℕ
  survivors = without t.update.removed (keys t.old.rows)

  abbrev leads_touched : ℕ → Bool
  leads_touched key = leads_own by t.old.rows key && is_touched by t (key_at by t.old.rows key)

  pub staying_is : staying by t ≡ filter touched (kept t e)
  staying_is =
      ap (λ (ks : List ℕ). filter (stays by t) (map (kept_pair t.update) (without t.update.removed (filter (λ key. is_touched by t (key_at by t.old.rows key)) ks)))) (first_keys_by by t.old e.tick.old_table)
      ∙ ap (λ (ks : List ℕ). filter (stays by t) (map (kept_pair t.update) (without t.update.removed ks))) (filter_filter (λ key. is_touched by t (key_at by t.old.rows key)) (leads_own by t.old.rows) (keys t.old.rows))
      ∙ ap (λ (ks : List ℕ). filter (stays by t) (map (kept_pair t.update) ks)) (filter_swap (λ key. not (is_among key t.update.removed)) leads_touched (keys t.old.rows))
      ∙ ap (filter (stays by t)) (sym (filter-map (λ (pair : KeyPair). leads_touched pair.old) (kept_pair t.update) survivors))
      ∙ filter_filter (stays by t) (λ pair. leads_touched pair.old) (kept t e)
      ∙ filter_same (λ pair. leads_touched pair.old && stays by t pair) touched (kept t e)
      (every_weaker (λ pair. is_among pair.old (keys t.old.rows) ≡ true) (λ pair. (leads_touched pair.old && stays by t pair) ≡ touched pair) (kept t e)
      (λ pair there.
      ap (λ b. leads_touched pair.old && (b && same pair)) (touched_at t.new.rows pair.new)
      ∙ stays_when (leads_own by t.old.rows pair.old) (touches pair) (is_touched by t (key_at by t.new.rows pair.new)) (is_among pair.new firsts_now) (same pair) (same_touched pair)
      ∙ ap (λ b. touches pair && ((b && is_among pair.new firsts_now) && same pair)) (sym (first_at by t.old pair.old e.tick.old_table ∙ and_with (leads_own by t.old.rows pair.old) (is_among pair.old (keys t.old.rows)) there)))
      olds_there)

  -- a key whose row is of an untouched group is none of the touched ones
  pub not_gone : (key : ℕ) → is_touched by t (key_at by t.old.rows key) ≡ false → is_among key (gone t) ≡ false
  not_gone key untouched =
      not_among (λ other. same_cells (key_at by t.old.rows key) (key_at by t.old.rows other)) (gone t) key (none_gone by t e (key_at by t.old.rows key) untouched)
      ((signed_items (key_at by t.old.rows key) (key_at by t.old.rows key)).1 refl)

  not_come : (key : ℕ) → is_touched by t (key_at by t.new.rows key) ≡ false → is_among key (come t) ≡ false
  not_come key untouched =
      not_among (λ other. same_cells (key_at by t.new.rows key) (key_at by t.new.rows other)) (come t) key (none_come by t e (key_at by t.new.rows key) untouched)
      ((signed_items (key_at by t.new.rows key) (key_at by t.new.rows key)).1 refl)

  not_removed : (key : ℕ) → is_among key (gone t) ≡ false → is_among key t.update.removed ≡ false
  not_removed key absent = (or_parts _ _ (sym (among-united key t.update.removed (old_modified (keys t.old.rows) t.update)) ∙ absent)).0

  pub survivor : (key : ℕ) → is_among key (keys t.old.rows) ≡ true → is_among key (gone t) ≡ false → is_among key survivors ≡ true
  survivor key there absent = among-filter (λ key. not (is_among key t.update.removed)) key (keys t.old.rows) ∙ ap₂ (λ a b. not a && b) (not_removed key absent) there

  -- the rows of an untouched group stay, the first one too
  survives : (cells : List ℤ) → is_touched by t cells ≡ false → AllByRecursion (λ row. is_among row.key survivors ≡ true) (group_rows by cells t.old.rows)
  survives cells untouched =
      every_both (λ row. (is_among row.key (keys t.old.rows) ≡ true) × (key_at by t.old.rows row.key ≡ key_cells by row.cells)) (λ row. same_cells cells (key_cells by row.cells) ≡ true) (λ row. is_among row.key survivors ≡ true) (group_rows by cells t.old.rows)
      (λ row is in_group.
      survivor row.key is.0
      (not_among (λ other. same_cells cells (key_at by t.old.rows other)) (gone t) row.key (none_gone by t e cells untouched) (ap (same_cells cells) is.1 ∙ in_group)))
      (every-filter (λ row. (is_among row.key (keys t.old.rows) ≡ true) × (key_at by t.old.rows row.key ≡ key_cells by row.cells)) (λ row. same_cells cells (key_cells by row.cells)) t.old.rows
      (every_both (λ row. is_among row.key (keys t.old.rows) ≡ true) (λ row. key_at by t.old.rows row.key ≡ key_cells by row.cells) (λ row. (is_among row.key (keys t.old.rows) ≡ true) × (key_at by t.old.rows row.key ≡ key_cells by row.cells)) t.old.rows (λ row a b. (a, b)) (rows_among t.old.rows) (own_cells by t.old.rows e.tick.old_table.rising)))
      (filter_passes (λ row. same_cells cells (key_cells by row.cells)) t.old.rows)

  pub rising_survivors : IsRising survivors
  rising_survivors = rising_some (λ key. not (is_among key t.update.removed)) (keys t.old.rows) e.tick.old_table.rising

  pub rising_moved : IsRising (map (λ key. as_key (moved t.update.shifted key)) survivors)
  rising_moved = subst IsRising (map_map (λ (pair : KeyPair). pair.new) (kept_pair t.update) survivors) e.tick.rising_new

  first_stays : (pair : KeyPair) → is_among pair.old survivors ≡ true → kept_pair t.update pair.old ≡ pair → touches pair ≡ false
      → leads by t.new.rows (key_at by t.old.rows pair.old) pair.new ≡ leads by t.old.rows (key_at by t.old.rows pair.old) pair.old
  first_stays pair there own untouched =
      let cells = key_at by t.old.rows pair.old in
      ap (λ (rows : List PlainRow). option_map_or (λ (first : PlainRow). first.key == pair.new) (slice_get rows 0) false) (group_stays by t e cells untouched)
      ∙ first_moved t.update.shifted (group_rows by cells t.old.rows) pair.new
      ∙ first_tested (λ row. as_key (moved t.update.shifted row.key) == pair.new) (λ row. row.key == pair.old) (group_rows by cells t.old.rows)
      (every_weaker (λ row. is_among row.key survivors ≡ true) (λ row. (as_key (moved t.update.shifted row.key) == pair.new) ≡ (row.key == pair.old)) (group_rows by cells t.old.rows)
      (λ row stays.
      ap (λ (k : KeyPair). as_key (moved t.update.shifted row.key) == k.new) (sym own)
      ∙ moves_apart (λ key. as_key (moved t.update.shifted key)) survivors row.key pair.old rising_survivors rising_moved stays there)
      (survives cells untouched))

  -- what is known of each pair
  pub record Knows (pair : KeyPair) : Type 0 where
    pub was : is_among pair.old (keys t.old.rows) ≡ true
    pub now : is_among pair.new (keys t.new.rows) ≡ true
    pub survives : is_among pair.old survivors ≡ true
    pub own : kept_pair t.update pair.old ≡ pair
    pub quiet : is_modified t e pair ≡ false → cells_at pair.old t.old.rows ≡ cells_at pair.new t.new.rows
    pub unmodified : is_among pair.old (gone t) ≡ false → is_modified t e pair ≡ false

  pub all_known : AllByRecursion Knows (kept t e)
  all_known =
      every_both (λ pair. (is_among pair.old (keys t.old.rows) ≡ true) × (is_among pair.new (keys t.new.rows) ≡ true))
      (λ pair. ((is_among pair.old survivors ≡ true) × (kept_pair t.update pair.old ≡ pair)) × ((is_modified t e pair ≡ false → cells_at pair.old t.old.rows ≡ cells_at pair.new t.new.rows) × (is_among pair.old (gone t) ≡ false → is_modified t e pair ≡ false))) Knows (kept t e)
      (λ pair there is. record { was = there.0; now = there.1; survives = is.0.0; own = is.0.1; quiet = is.1.0; unmodified = is.1.1 })
      (every_both _ _ _ (kept t e) (λ pair a b. (a, b)) olds_there news_there)
      (every_both _ _ _ (kept t e) (λ pair a b. (a, b))
      (every_both _ _ _ (kept t e) (λ pair a b. (a, b))
      (every-map (λ pair. is_among pair.old survivors ≡ true) (kept_pair t.update) survivors (each_among survivors))
      (every-map (λ pair. kept_pair t.update pair.old ≡ pair) (kept_pair t.update) survivors (every (λ key. kept_pair t.update key ≡ kept_pair t.update key) survivors (λ key. refl))))
      (every_both _ _ _ (kept t e) (λ pair a b. (a, b)) (quiet_cells t e) (quiet_before t e)))

  -- a pair of an untouched group
  pub record IsCalm (pair : KeyPair) : Type 0 where
    pub untouched : touches pair ≡ false
    pub key : key_at by t.old.rows pair.old ≡ key_at by t.new.rows pair.new
    pub firsts : is_among pair.old firsts_before ≡ is_among pair.new firsts_now

  calm_by : (pair : KeyPair) → Knows pair → is_modified t e pair ≡ false → touches pair ≡ false → IsCalm pair
  calm_by pair h unmodified untouched =
      let key : key_at by t.old.rows pair.old ≡ key_at by t.new.rows pair.new = ap (key_cells by) (h.quiet unmodified) in record {
        untouched = untouched;
        key = key;
        firsts =
            first_at by t.old pair.old e.tick.old_table ∙ and_with (leads_own by t.old.rows pair.old) (is_among pair.old (keys t.old.rows)) h.was
            ∙ sym (first_stays pair h.survives h.own untouched)
            ∙ ap (λ cells. leads by t.new.rows cells pair.new) key
            ∙ sym (first_at by t.new pair.new e.tick.new_table ∙ and_with (leads_own by t.new.rows pair.new) (is_among pair.new (keys t.new.rows)) h.now);
      }

  pub calm_before : (pair : KeyPair) → Knows pair → touches pair ≡ false → IsCalm pair
  calm_before pair h untouched = calm_by pair h (h.unmodified (not_gone pair.old untouched)) untouched

  calm_now : (pair : KeyPair) → Knows pair → is_touched by t (key_at by t.new.rows pair.new) ≡ false → IsCalm pair
  calm_now pair h untouched =
      let unmodified = quiet_now t e pair (not_come pair.new untouched) in
      calm_by pair h unmodified (ap (λ cells. is_touched by t (key_cells by cells)) (h.quiet unmodified) ∙ untouched)

  calm_stays : (pair : KeyPair) → IsCalm pair → is_among pair.old firsts_before ≡ true → stay pair ≡ true
  calm_stays pair h own =
      ap₂ (λ a b. a && b) (ap₂ (λ a b. a && b) own (sym h.firsts ∙ own)) ((signed_items (key_at by t.old.rows pair.old) (key_at by t.new.rows pair.new)).1 h.key)

  pub of_survivor : (P : KeyPair → Type 0) (key : ℕ) → AllByRecursion P (kept t e) → is_among key survivors ≡ true → P (kept_pair t.update key)
  of_survivor P key h own = of_among (λ key. P (kept_pair t.update key)) key survivors (every_unmapped P (kept_pair t.update) survivors h) own

  -- w: the group is touched, s: the pair stays, x: the row survives
  goes_when : (w s x : Bool) → (w ≡ false → (s && x) ≡ true) → not (s && x) ≡ (w && not ((w && s) && x))
  goes_when true s x h = refl
  goes_when false s x h = ap not (h refl)

  leaving_at : (key : ℕ) → is_among key firsts_before ≡ true → not (is_among key (old_keys (filter stay (kept t e)))) ≡ (is_touched by t (key_at by t.old.rows key) && not (is_among key (old_keys (filter touched (kept t e)))))
  leaving_at key own =
      ap not (old_at t e stay key)
      ∙ goes_when (is_touched by t (key_at by t.old.rows key)) (stay (kept_pair t.update key)) (not (is_among key t.update.removed) && is_among key (keys t.old.rows))
      (λ untouched.
      let there : is_among key (keys t.old.rows) ≡ true = (and_parts _ _ (sym (first_at by t.old key e.tick.old_table) ∙ own)).1 in
      let stays_on = survivor key there (not_gone key untouched) in
      ap₂ (λ a b. a && b) (calm_stays (kept_pair t.update key) (calm_before (kept_pair t.update key) (of_survivor Knows key all_known stays_on) untouched) own)
      (sym (among-filter (λ key. not (is_among key t.update.removed)) key (keys t.old.rows)) ∙ stays_on))
      ∙ ap (λ b. is_touched by t (key_at by t.old.rows key) && not b) (sym (old_at t e touched key))

  pub removed_is : without (old_keys (staying by t)) (touched_firsts by t t.old.rows) ≡ (between tick).removed
  removed_is =
      ap (λ (pairs : List KeyPair). without (old_keys pairs) (touched_firsts by t t.old.rows)) staying_is
      ∙ filter_filter (λ key. not (is_among key (old_keys (filter touched (kept t e))))) (λ key. is_touched by t (key_at by t.old.rows key)) firsts_before
      ∙ sym (filter_same (λ key. not (is_among key (old_keys (filter stay (kept t e))))) (λ key. is_touched by t (key_at by t.old.rows key) && not (is_among key (old_keys (filter touched (kept t e))))) firsts_before
      (every_weaker (λ key. is_among key firsts_before ≡ true) (λ key. not (is_among key (old_keys (filter stay (kept t e)))) ≡ (is_touched by t (key_at by t.old.rows key) && not (is_among key (old_keys (filter touched (kept t e)))))) firsts_before leaving_at (each_among firsts_before)))
      ∙ ap₂ (λ (pairs : List KeyPair) (ks : List ℕ). without (old_keys pairs) ks) (sym kept_is) (sym (keys-agg by aggs t.old))

  touched_by_come : (key : ℕ) → is_among key (come t) ≡ true → is_touched by t (key_at by t.new.rows key) ≡ true
  touched_by_come key own = by_case (is_touched by t (key_at by t.new.rows key)) refl
    where
      by_case : (b : Bool) → is_touched by t (key_at by t.new.rows key) ≡ b → b ≡ true
      by_case true h = refl
      by_case false h = absurd (true≢false (sym own ∙ not_come key h))

  -- n: the group is touched now, w: it is touched before, s: the pair stays
  comes_when : (n w s : Bool) → (s ≡ true → n ≡ w) → (n ≡ false → s ≡ true) → not s ≡ (n && not (w && s))
  comes_when true w true h g = ap (λ b. not (b && true)) (h refl)
  comes_when true w false h g = ap not (sym (and_false w))
  comes_when false w s h g = ap not (g refl)

  pub record IsNamed (pair : KeyPair) : Type 0 where
    pub stays : is_among pair.new (new_keys (filter stay (kept t e))) ≡ stay pair
    pub touched : is_among pair.new (new_keys (filter touched (kept t e))) ≡ touched pair
    pub known : Knows pair

  all_named : AllByRecursion IsNamed (kept t e)
  all_named =
      every_both (λ pair. (is_among pair.new (new_keys (filter stay (kept t e))) ≡ stay pair) × (is_among pair.new (new_keys (filter touched (kept t e))) ≡ touched pair)) Knows IsNamed (kept t e)
      (λ pair by h. record { stays = by.0; touched = by.1; known = h })
      (every_both _ _ _ (kept t e) (λ pair a b. (a, b))
      (named_by (λ (pair : KeyPair). pair.new) stay (kept t e) e.tick.rising_new)
      (named_by (λ (pair : KeyPair). pair.new) touched (kept t e) e.tick.rising_new))
      all_known

  abbrev Comes : ℕ → Type 0
  Comes key = not (is_among key (new_keys (filter stay (kept t e)))) ≡ (is_touched by t (key_at by t.new.rows key) && not (is_among key (new_keys (filter touched (kept t e)))))

  comes_pair : (pair : KeyPair) → IsNamed pair → is_among pair.new firsts_now ≡ true → Comes pair.new
  comes_pair pair h own =
      ap not h.stays
      ∙ comes_when (is_touched by t (key_at by t.new.rows pair.new)) (touches pair) (stay pair)
      (λ stays. same_touched pair (and_parts _ _ stays).1)
      (λ untouched. let calm = calm_now pair h.known untouched in calm_stays pair calm (calm.firsts ∙ own))
      ∙ ap (λ b. is_touched by t (key_at by t.new.rows pair.new) && not b) (sym h.touched)

  comes_new : (key : ℕ) → is_among key (keys t.new.rows) ≡ true → is_among key (new_keys (kept t e)) ≡ false → Comes key
  comes_new key there absent =
      ap not (absent-filter (λ (pair : KeyPair). pair.new) stay key (kept t e) absent)
      ∙ sym (ap₂ (λ a b. a && not b) (touched_by_come key (among-united key t.update.added t.update.modified ∙ ap (λ b. b || is_among key t.update.modified) (added_at t e key there ∙ ap not absent))) (absent-filter (λ (pair : KeyPair). pair.new) touched key (kept t e) absent))

  first_there : (key : ℕ) → is_among key firsts_now ≡ true → is_among key (keys t.new.rows) ≡ true
  first_there key own = (and_parts _ _ (sym (first_at by t.new key e.tick.new_table) ∙ own)).1

  coming_at : (key : ℕ) → is_among key firsts_now ≡ true → Comes key
  coming_at key own = by_case (is_among key (new_keys (kept t e))) refl
    where
      by_case : (b : Bool) → is_among key (new_keys (kept t e)) ≡ b → Comes key
      by_case true h =
          let found = of_named (λ (pair : KeyPair). pair.new) IsNamed key (kept t e) all_named h in
          subst Comes found.1.1 (comes_pair found.0 found.1.0 (ap (λ k. is_among k firsts_now) found.1.1 ∙ own))
      by_case false h = comes_new key (first_there key own) h

  pub added_is : without (new_keys (staying by t)) (touched_firsts by t t.new.rows) ≡ (between tick).added
  added_is =
      ap (λ (pairs : List KeyPair). without (new_keys pairs) (touched_firsts by t t.new.rows)) staying_is
      ∙ filter_filter (λ key. not (is_among key (new_keys (filter touched (kept t e))))) (λ key. is_touched by t (key_at by t.new.rows key)) firsts_now
      ∙ sym (filter_same (λ key. not (is_among key (new_keys (filter stay (kept t e))))) (λ key. is_touched by t (key_at by t.new.rows key) && not (is_among key (new_keys (filter touched (kept t e))))) firsts_now
      (every_weaker (λ key. is_among key firsts_now ≡ true) Comes firsts_now coming_at (each_among firsts_now)))
      ∙ ap₂ (λ (pairs : List KeyPair) (ks : List ℕ). without (new_keys pairs) ks) (sym kept_is) (sym (keys-agg by aggs t.new))

  old_is_table : IsTable old
  old_is_table = result_table (Aggregated 0 by aggs) (λ _. t.old) (e.tick.old_table, tt) tt

  new_is_table : IsTable new
  new_is_table = result_table (Aggregated 0 by aggs) (λ _. t.new) (e.tick.new_table, tt) tt

  pub is_tick : IsTick tick
  is_tick = operator_keeps (Aggregated 0 by aggs) (λ _. tick_of t) (e.tick, tt) old_is_table new_is_table

  still_there : without (between tick).removed firsts_before ≡ old_keys tick.kept
  still_there = ap (without (between tick).removed) (sym (keys-agg by aggs t.old)) ∙ staying_are tick is_tick

  pub shift_is : canonical t.update.shifted (without (between tick).removed firsts_before) ≡ (between tick).shifted
  shift_is =
      ap (λ ks. shifted (map (pair_by t.update.shifted) ks)) (still_there ∙ ap old_keys kept_is)
      ∙ ap shifted (map_map (pair_by t.update.shifted) (λ (pair : KeyPair). pair.old) (filter stay (kept t e))
      ∙ map_own (λ pair. pair_by t.update.shifted pair.old) (filter stay (kept t e))
      (every-filter (λ pair. pair_by t.update.shifted pair.old ≡ pair) stay (kept t e)
      (every_weaker Knows (λ pair. pair_by t.update.shifted pair.old ≡ pair) (kept t e) (λ pair h. h.own) all_known)))
      ∙ ap shifted (sym kept_is)

  pub shift_lawful : IsLawful t.update.shifted (without (between tick).removed firsts_before)
  shift_lawful =
      subst (IsLawful t.update.shifted) (sym (still_there ∙ ap old_keys kept_is ∙ old_some t e stay))
      (lawful_some t.update.shifted (λ key. stay (kept_pair t.update key)) survivors (exact_shift t e))

  staying_kept : staying by t ≡ filter touches tick.kept
  staying_kept =
      staying_is ∙ filter_same touched (λ pair. stay pair && touches pair) (kept t e) (every (λ pair. touched pair ≡ (stay pair && touches pair)) (kept t e) (λ pair. and_swap (touches pair) (stay pair)))
      ∙ sym (filter_filter touches stay (kept t e)) ∙ ap (filter touches) (sym kept_is)

  pub compared_is : staying by t ≡ filter (λ pair. is_among pair.new (new_keys (staying by t))) tick.kept
  compared_is =
      staying_kept ∙ sym (filter_named (λ (pair : KeyPair). pair.new) touches tick.kept is_tick.rising_new)
      ∙ ap (λ (pairs : List KeyPair). filter (λ (pair : KeyPair). is_among pair.new (new_keys pairs)) tick.kept) (sym staying_kept)

  -- an untouched group has the same row before and now
  pub calm_cells : (cells : List ℤ) → is_touched by t cells ≡ false → group_cells by aggs t.new.rows cells ≡ group_cells by aggs t.old.rows cells
  calm_cells cells untouched =
      ap (λ (rows : List PlainRow). cells ++ map (aggregate rows) aggs) (group_stays by t e cells untouched)
      ∙ ap (λ (row : List ℤ). cells ++ row) (map_same (aggregate (shifting t.update.shifted (group_rows by cells t.old.rows))) (aggregate (group_rows by cells t.old.rows)) aggs
      (every (λ agg. aggregate (shifting t.update.shifted (group_rows by cells t.old.rows)) agg ≡ aggregate (group_rows by cells t.old.rows) agg) aggs (aggregate-shifting t.update.shifted (group_rows by cells t.old.rows))))

  pub calm_rows : (pair : KeyPair) → IsCalm pair → is_among pair.old firsts_before ≡ true → cells_at pair.old old.rows ≡ cells_at pair.new new.rows
  calm_rows pair h own =
      cells-agg by aggs t.old pair.old e.tick.old_table own
      ∙ sym (calm_cells (key_at by t.old.rows pair.old) h.untouched)
      ∙ ap (group_cells by aggs t.new.rows) h.key
      ∙ sym (cells-agg by aggs t.new pair.new e.tick.new_table (sym h.firsts ∙ own))

  others_same : AllByRecursion (λ pair. is_among pair.new (new_keys (staying by t)) ≡ false → differs old new pair ≡ false) tick.kept
  others_same =
      every_both (λ pair. is_among pair.new (new_keys (filter touches tick.kept)) ≡ touches pair) (λ pair. Knows pair × (stay pair ≡ true)) (λ pair. is_among pair.new (new_keys (staying by t)) ≡ false → differs old new pair ≡ false) tick.kept
      (λ pair named is absent.
      let untouched : touches pair ≡ false = sym named ∙ ap (λ (pairs : List KeyPair). is_among pair.new (new_keys pairs)) (sym staying_kept) ∙ absent in
      ap not ((signed_items (cells_at pair.old old.rows) (cells_at pair.new new.rows)).1 (calm_rows pair (calm_before pair is.0 untouched) (and_parts _ _ (and_parts _ _ is.1).0).0)))
      (named_by (λ (pair : KeyPair). pair.new) touches tick.kept is_tick.rising_new)
      (subst (AllByRecursion (λ pair. Knows pair × (stay pair ≡ true))) (sym kept_is)
      (every_both Knows (λ pair. stay pair ≡ true) (λ pair. Knows pair × (stay pair ≡ true)) (filter stay (kept t e)) (λ pair a b. (a, b)) (every-filter Knows stay (kept t e) all_known) (filter_passes stay (kept t e))))

  -- what is touched are the parts of the change
  pub parts_are : (parts : Parts) → parts.removed ≡ without (old_keys (staying by t)) (touched_firsts by t t.old.rows) → parts.added ≡ without (new_keys (staying by t)) (touched_firsts by t t.new.rows)
      → parts.shifted ≡ canonical t.update.shifted (without parts.removed firsts_before) → parts.compared_before ≡ old_keys (staying by t) → parts.compared_now ≡ new_keys (staying by t)
      → AreParts old new parts tick.kept
  parts_are parts removed added shift before now = record {
    tick = is_tick;
    removed = removed ∙ removed_is;
    added = added ∙ added_is;
    shifted = shift ∙ ap (λ (ks : List ℕ). canonical t.update.shifted (without ks firsts_before)) (removed ∙ removed_is) ∙ shift_is;
    compared = record {
      even = ap length before ∙ length-map (staying by t) (λ (pair : KeyPair). pair.old) ∙ sym (length-map (staying by t) (λ (pair : KeyPair). pair.new)) ∙ ap length (sym now);
      compared = ap₂ pairs_of before now ∙ pairs_of-keys (staying by t) ∙ compared_is ∙ ap (λ (ks : List ℕ). filter (λ (pair : KeyPair). is_among pair.new ks) tick.kept) (sym now);
      others = subst (λ (ks : List ℕ). AllByRecursion (λ pair. is_among pair.new ks ≡ false → differs old new pair ≡ false) tick.kept) (sym now) others_same;
    };
  }
