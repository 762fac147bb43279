-- The rows that an update leaves are those that it makes of a table.
use Rattle.std.proofs.Common.{◌≡◌, refl, ap, ap₂, sym, ◌∙◌, subst, Bool, true, false, not, ◌||◌, ℕ, ◌*◌, ◌^◌, List, [], ◌++◌, length, drop, ℤ, append-nil}
use Rattle.std.{specs.List.AllByRecursion, proofs.lemmas.List.Elements.filter-append, proofs.lemmas.Bool.not-false}
use Rattle.key_lists.{specs.Keys.{is_among, IsRising, without}, proofs.Among.{each_among, among-append, apart_back}, proofs.Every.{every_weaker, every_unmapped, filter_same, filter_none, filter_all, filter-map, none_pass}}
use Rattle.table_update.proofs.KeysAfter.{rules_kept}
use Rattle.tick_model.{specs.declared.table.PlainRow.PlainRow, specs.declared.table.PlainTable.PlainTable, specs.Changes.{rows_under, told_keys}, specs.Rules.landed, specs.Tables.keys, specs.Updates.{Update, rows_at, carry, removing, shifting, adding, modifying}, proofs.RowLists.keys-rows_under}
use Rattle.tick_laws.{specs.Checked.IsChecked, proofs.CheckedUpdates.{modified_not_added, keys_after-rise, keys-stay, keys-carry, keys-modifying}}
use Rattle.tick_table.{specs.Placed.{put_rows, stepped}, proofs.NewKeys.among-adding, proofs.Puts.{put_rows-append, put_rows-new, put_rows-known, rows_under-append}}

-- all rows of a list have keys of a list, or none has
rows_at-all : (ks : List ℕ) (rows : List PlainRow) → keys rows ≡ ks → rows_at ks rows ≡ rows
rows_at-all ks rows e =
    filter_same (λ (row : PlainRow). is_among row.key ks) (λ _. true) rows
    (every_unmapped (λ k. is_among k ks ≡ true) (λ (row : PlainRow). row.key) rows (subst (λ l. AllByRecursion (λ k. is_among k l ≡ true) (keys rows)) e (each_among (keys rows))))
    ∙ filter_all rows

rows_at-none : (ks : List ℕ) (rows : List PlainRow) → AllByRecursion (λ k. is_among k ks ≡ false) (keys rows) → rows_at ks rows ≡ []
rows_at-none ks rows h = filter_none (λ (row : PlainRow). is_among row.key ks) rows (every_unmapped (λ k. is_among k ks ≡ false) (λ (row : PlainRow). row.key) rows h)

rows_at-first : (ks : List ℕ) (first second : List PlainRow) → keys first ≡ ks → AllByRecursion (λ k. is_among k ks ≡ false) (keys second) → rows_at ks (first ++ second) ≡ first
rows_at-first ks first second e h = filter-append (λ (row : PlainRow). is_among row.key ks) first second ∙ ap₂ (λ xs ys. xs ++ ys) (rows_at-all ks first e) (rows_at-none ks second h) ∙ append-nil first

rows_at-second : (ks : List ℕ) (first second : List PlainRow) → keys second ≡ ks → AllByRecursion (λ k. is_among k ks ≡ false) (keys first) → rows_at ks (first ++ second) ≡ second
rows_at-second ks first second e h = filter-append (λ (row : PlainRow). is_among row.key ks) first second ∙ ap₂ (λ xs ys. xs ++ ys) (rows_at-none ks first h) (rows_at-all ks second e)

-- the keys of the rows that are left
pub keys-removing : (removed : List ℕ) (rows : List PlainRow) → keys (removing removed rows) ≡ without removed (keys rows)
keys-removing removed rows = sym (filter-map (λ key. not (is_among key removed)) (λ (row : PlainRow). row.key) rows)

or_turned : (a b : Bool) → (b || a) ≡ true → (a || b) ≡ true
or_turned true b h = refl
or_turned false true h = refl
or_turned false false h = h

module _ (table : PlainTable) (update : Update) (cells : List ℤ) (h : IsChecked (2 ^ 62) (keys table.rows) update) (modified_rise : IsRising update.modified) where
  abbrev told : List PlainRow
  told = rows_under table.width (told_keys update) cells

  abbrev added_rows : List PlainRow
  added_rows = rows_under table.width update.added cells

  abbrev modified_rows : List PlainRow
  modified_rows = rows_under table.width update.modified (drop (length update.added * table.width) cells)

  abbrev stay : List PlainRow
  stay = shifting update.shifted (removing update.removed table.rows)

  pub keys-told : keys told ≡ told_keys update
  keys-told = keys-rows_under table.width (told_keys update) cells

  keys-added : keys added_rows ≡ update.added
  keys-added = keys-rows_under table.width update.added cells

  keys-modified : keys modified_rows ≡ update.modified
  keys-modified = keys-rows_under table.width update.modified (drop (length update.added * table.width) cells)

  told_is : told ≡ added_rows ++ modified_rows
  told_is = rows_under-append table.width update.added update.modified cells

  added_is : rows_at update.added told ≡ added_rows
  added_is =
      ap (rows_at update.added) told_is
      ∙ rows_at-first update.added added_rows modified_rows keys-added
      (subst (AllByRecursion (λ k. is_among k update.added ≡ false)) (sym keys-modified) (modified_not_added (2 ^ 62) (keys table.rows) update h))

  modified_is : rows_at update.modified told ≡ modified_rows
  modified_is =
      ap (rows_at update.modified) told_is
      ∙ rows_at-second update.modified added_rows modified_rows keys-modified
      (subst (AllByRecursion (λ k. is_among k update.modified ≡ false)) (sym keys-added) (apart_back update.added update.modified (modified_not_added (2 ^ 62) (keys table.rows) update h)))

  carried_is : (carry table update told).rows ≡ modifying modified_rows (adding added_rows stay)
  carried_is = ap₂ (λ modified added. modifying modified (adding added stay)) modified_is added_is

  stay_is : keys stay ≡ landed update.shifted (without update.removed (keys table.rows))
  stay_is = keys-stay (2 ^ 62) table update told h keys-told

  added_fresh : AllByRecursion (λ k. is_among k (keys stay) ≡ false) (keys added_rows)
  added_fresh =
      subst (λ ks. AllByRecursion (λ k. is_among k ks ≡ false) (keys added_rows)) (sym stay_is)
      (subst (AllByRecursion (λ k. is_among k (landed update.shifted (without update.removed (keys table.rows))) ≡ false)) (sym keys-added) (none_pass (λ k. is_among k (landed update.shifted (without update.removed (keys table.rows)))) update.added (rules_kept (2 ^ 62) (keys table.rows) update h.breaks_none).added))

  together_among : (key : ℕ) → is_among key (keys (adding added_rows stay)) ≡ (is_among key update.added || is_among key (landed update.shifted (without update.removed (keys table.rows))))
  together_among key = among-adding key added_rows stay ∙ ap₂ (λ new old. is_among key new || is_among key old) keys-added stay_is

  not_none : AllByRecursion (λ key. not (is_among key (landed update.shifted (without update.removed (keys table.rows)) ++ update.added)) ≡ false) update.modified
  not_none = none_pass (λ key. not (is_among key (landed update.shifted (without update.removed (keys table.rows)) ++ update.added))) update.modified (rules_kept (2 ^ 62) (keys table.rows) update h.breaks_none).modified

  pub modified_there : AllByRecursion (λ key. is_among key (keys (adding added_rows stay)) ≡ true) update.modified
  modified_there =
      every_weaker (λ key. not (is_among key (landed update.shifted (without update.removed (keys table.rows)) ++ update.added)) ≡ false) (λ key. is_among key (keys (adding added_rows stay)) ≡ true) update.modified
      (λ key here. together_among key ∙ or_turned (is_among key update.added) (is_among key (landed update.shifted (without update.removed (keys table.rows))))
      (sym (among-append key (landed update.shifted (without update.removed (keys table.rows))) update.added) ∙ not-false (is_among key (landed update.shifted (without update.removed (keys table.rows)) ++ update.added)) here))
      not_none

  together_rise : IsRising (keys (adding added_rows stay))
  together_rise =
      subst IsRising
      (sym (keys-carry (2 ^ 62) table update told h keys-told) ∙ ap keys carried_is ∙ keys-modifying modified_rows (adding added_rows stay))
      (keys_after-rise (2 ^ 62) (keys table.rows) update h)

  pub added_put : put_rows added_rows stay ≡ adding added_rows stay
  added_put = put_rows-new added_rows stay (subst IsRising (sym keys-added) h.added_rise) added_fresh

  pub rows_step : stepped update told table.rows ≡ (carry table update told).rows
  rows_step =
      ap (λ some. put_rows some stay) told_is
      ∙ put_rows-append added_rows modified_rows stay
      ∙ ap (put_rows modified_rows) added_put
      ∙ put_rows-known modified_rows (adding added_rows stay) (subst IsRising (sym keys-modified) modified_rise) together_rise
      (subst (AllByRecursion (λ key. is_among key (keys (adding added_rows stay)) ≡ true)) (sym keys-modified) modified_there)
      ∙ sym carried_is
