-- The rows that a step leaves as they are: those of now without the ones that come or are modified are those of before without the ones that go or are modified, under the keys to which they move.
use Rattle.std.proofs.Common.{◌≡◌, refl, ap, sym, ◌∙◌, Bool, true, false, not, ◌&&◌, ◌||◌, ℕ, List, map, filter, true≢false, ℤ}
use Rattle.std.{specs.Cmp.Rules.signed_items, specs.List.AllByRecursion, proofs.lemmas.Bool.{not-false, or_parts, not-true}}
use Rattle.key_lists.{specs.Keys.{is_among, without}, proofs.Among.{among-filter, each_among}, proofs.Every.{every, every_both, every_weaker, every-filter, every-map, every_unmapped, filter-map, filter_passes, filter_same, map_map, map_same}, proofs.Rising.rising-filter}
use Rattle.row_set.proofs.United.{among-united}
use Rattle.shown_rows.proofs.Restricted.{is_modified, kept, modified_by, old_some}
use Rattle.table_update.specs.Kept.{old_modified}
use Rattle.tick_laws.proofs.Carried.{Within, named_rows, within_from}
use Rattle.tick_model.{proofs.Among.rows_among, specs.declared.table.PlainRow.PlainRow, specs.declared.update.KeyPair.KeyPair, specs.Tables.{cells_at, keys}, specs.Updates.{Update, differs, kept_pair, moved_row, new_keys, old_keys, removing, shifting}}
use Rattle.tick_table.{specs.Exact.IsExact, specs.Ticking.Ticking}
use Rattle.agg_by.specs.Steps.{come, gone, staying_rows}

pub and_with : (p t : Bool) → t ≡ true → (p && t) ≡ p
and_with true t e = e
and_with false t e = refl

module _ (t : Ticking) (e : IsExact t) where
  -- the pairs of the rows that are not modified
  abbrev pub is_quiet : KeyPair → Bool
  is_quiet pair = not (is_modified t e pair)

  abbrev pub quiet : List KeyPair
  quiet = filter is_quiet (kept t e)

  abbrev pub was_row : KeyPair → PlainRow
  was_row pair = record { key = pair.new; cells = cells_at pair.old t.old.rows }

  abbrev pub now_row : KeyPair → PlainRow
  now_row pair = record { key = pair.new; cells = cells_at pair.new t.new.rows }

  abbrev old_row : KeyPair → PlainRow
  old_row pair = record { key = pair.old; cells = cells_at pair.old t.old.rows }

  pub quiet_cells : AllByRecursion (λ pair. is_modified t e pair ≡ false → cells_at pair.old t.old.rows ≡ cells_at pair.new t.new.rows) (kept t e)
  quiet_cells =
      every_weaker (λ pair. is_modified t e pair ≡ differs t.old t.new pair) (λ pair. is_modified t e pair ≡ false → cells_at pair.old t.old.rows ≡ cells_at pair.new t.new.rows) (kept t e)
      (λ pair by same. (signed_items (cells_at pair.old t.old.rows) (cells_at pair.new t.new.rows)).0 (not-false _ (sym by ∙ same)))
      (modified_by t e)

  same_rows : map was_row quiet ≡ map now_row quiet
  same_rows =
      map_same was_row now_row quiet
      (every_both (λ pair. is_quiet pair ≡ true) (λ pair. is_modified t e pair ≡ false → cells_at pair.old t.old.rows ≡ cells_at pair.new t.new.rows) (λ pair. was_row pair ≡ now_row pair) quiet
      (λ pair stays same. ap (λ (cells : List ℤ). let row : PlainRow = record { key = pair.new; cells = cells } in row) (same (not-true _ stays)))
      (filter_passes is_quiet (kept t e))
      (every-filter (λ pair. is_modified t e pair ≡ false → cells_at pair.old t.old.rows ≡ cells_at pair.new t.new.rows) is_quiet (kept t e) quiet_cells))

  pub added_at : (key : ℕ) → is_among key (keys t.new.rows) ≡ true → is_among key t.update.added ≡ not (is_among key (new_keys (kept t e)))
  added_at key own =
      ap (λ (update : Update). is_among key update.added) e.update
      ∙ among-filter (λ key. not (is_among key (new_keys (kept t e)))) key (keys t.new.rows)
      ∙ and_with (not (is_among key (new_keys (kept t e)))) (is_among key (keys t.new.rows)) own

  quiet_new : (key : ℕ) → is_among key (new_keys quiet) ≡ (not (is_among key t.update.modified) && is_among key (new_keys (kept t e)))
  quiet_new key =
      ap (is_among key) (sym (filter-map (λ key. not (is_among key t.update.modified)) (λ (pair : KeyPair). pair.new) (kept t e)))
      ∙ among-filter (λ key. not (is_among key t.update.modified)) key (new_keys (kept t e))

  not_come : (a m : Bool) → not (not a || m) ≡ (not m && a)
  not_come true true = refl
  not_come true false = refl
  not_come false true = refl
  not_come false false = refl

  pub come_at : (key : ℕ) → is_among key (keys t.new.rows) ≡ true → not (is_among key (come t)) ≡ is_among key (new_keys quiet)
  come_at key own =
      ap not (among-united key t.update.added t.update.modified ∙ ap (λ b. b || is_among key t.update.modified) (added_at key own))
      ∙ not_come (is_among key (new_keys (kept t e))) (is_among key t.update.modified)
      ∙ sym (quiet_new key)

  new_within : (test : KeyPair → Bool) → Within (λ pair. pair.new) (filter test (kept t e)) t.new.rows
  new_within test =
      within_from (λ pair. pair.new) (filter test (kept t e)) t.new.rows e.tick.new_table.rising
      (rising-filter (λ (pair : KeyPair). pair.new) test (kept t e) e.tick.rising_new)
      (every-map (λ key. is_among key (keys t.new.rows) ≡ true) (λ (pair : KeyPair). pair.new) (filter test (kept t e))
      (every-filter (λ pair. is_among pair.new (keys t.new.rows) ≡ true) test (kept t e)
      (every_unmapped (λ key. is_among key (keys t.new.rows) ≡ true) (λ (pair : KeyPair). pair.new) (kept t e) e.tick.of_new)))

  -- the rows of now but those under some keys are those of the pairs that pass a test, where the keys of these are all others
  pub new_rows : (test : KeyPair → Bool) (these : List ℕ) → ((key : ℕ) → is_among key (keys t.new.rows) ≡ true → not (is_among key these) ≡ is_among key (new_keys (filter test (kept t e))))
      → removing these t.new.rows ≡ map now_row (filter test (kept t e))
  new_rows test these others =
      filter_same (λ row. not (is_among row.key these)) (λ row. is_among row.key (new_keys (filter test (kept t e)))) t.new.rows
      (every_weaker (λ row. is_among row.key (keys t.new.rows) ≡ true) (λ row. not (is_among row.key these) ≡ is_among row.key (new_keys (filter test (kept t e)))) t.new.rows
      (λ row own. others row.key own) (rows_among t.new.rows))
      ∙ named_rows (λ pair. pair.new) (filter test (kept t e)) t.new.rows e.tick.new_table.rising (new_within test)

  not_gone : (r m o : Bool) → o ≡ true → not (r || (m && (not r && o))) ≡ (not m && (not r && o))
  not_gone true true o h = refl
  not_gone true false o h = refl
  not_gone false true true h = refl
  not_gone false true false h = absurd (true≢false (sym h))
  not_gone false false o h = sym h

  abbrev staying_keys : List ℕ
  staying_keys = without t.update.removed (keys t.old.rows)

  staying_at : (key : ℕ) → is_among key staying_keys ≡ (not (is_among key t.update.removed) && is_among key (keys t.old.rows))
  staying_at key = among-filter (λ key. not (is_among key t.update.removed)) key (keys t.old.rows)

  pub old_at : (test : KeyPair → Bool) (key : ℕ) → is_among key (old_keys (filter test (kept t e))) ≡ (test (kept_pair t.update key) && (not (is_among key t.update.removed) && is_among key (keys t.old.rows)))
  old_at test key = ap (is_among key) (old_some t e test) ∙ among-filter (λ key. test (kept_pair t.update key)) key staying_keys ∙ ap (λ b. test (kept_pair t.update key) && b) (staying_at key)

  pub gone_at : (key : ℕ) → is_among key (keys t.old.rows) ≡ true → not (is_among key (gone t)) ≡ is_among key (old_keys quiet)
  gone_at key own =
      ap not (among-united key t.update.removed (old_modified (keys t.old.rows) t.update)
      ∙ ap (λ b. is_among key t.update.removed || b) (among-filter (λ key. is_modified t e (kept_pair t.update key)) key staying_keys ∙ ap (λ b. is_modified t e (kept_pair t.update key) && b) (staying_at key)))
      ∙ not_gone (is_among key t.update.removed) (is_modified t e (kept_pair t.update key)) (is_among key (keys t.old.rows)) own
      ∙ sym (old_at is_quiet key)

  old_within : (test : KeyPair → Bool) → Within (λ pair. pair.old) (filter test (kept t e)) t.old.rows
  old_within test =
      within_from (λ pair. pair.old) (filter test (kept t e)) t.old.rows e.tick.old_table.rising
      (rising-filter (λ (pair : KeyPair). pair.old) test (kept t e) e.tick.rising_old)
      (every-map (λ key. is_among key (keys t.old.rows) ≡ true) (λ (pair : KeyPair). pair.old) (filter test (kept t e))
      (every-filter (λ pair. is_among pair.old (keys t.old.rows) ≡ true) test (kept t e)
      (every_unmapped (λ key. is_among key (keys t.old.rows) ≡ true) (λ (pair : KeyPair). pair.old) (kept t e) e.tick.of_old)))

  module _ (test : KeyPair → Bool) (these : List ℕ) (others : (key : ℕ) → is_among key (keys t.old.rows) ≡ true → not (is_among key these) ≡ is_among key (old_keys (filter test (kept t e)))) where
    old_rows : removing these t.old.rows ≡ map old_row (filter test (kept t e))
    old_rows =
        filter_same (λ row. not (is_among row.key these)) (λ row. is_among row.key (old_keys (filter test (kept t e)))) t.old.rows
        (every_weaker (λ row. is_among row.key (keys t.old.rows) ≡ true) (λ row. not (is_among row.key these) ≡ is_among row.key (old_keys (filter test (kept t e)))) t.old.rows
        (λ row own. others row.key own) (rows_among t.old.rows))
        ∙ named_rows (λ pair. pair.old) (filter test (kept t e)) t.old.rows e.tick.old_table.rising (old_within test)

    -- and so are those of before, where they move
    pub moved_rows : shifting t.update.shifted (removing these t.old.rows) ≡ map was_row (filter test (kept t e))
    moved_rows =
        ap (shifting t.update.shifted) old_rows ∙ map_map (moved_row t.update.shifted) old_row (filter test (kept t e))
        ∙ map_same (λ pair. moved_row t.update.shifted (old_row pair)) was_row (filter test (kept t e))
        (every-filter (λ pair. moved_row t.update.shifted (old_row pair) ≡ was_row pair) test (kept t e)
        (every-map (λ pair. moved_row t.update.shifted (old_row pair) ≡ was_row pair) (kept_pair t.update) staying_keys
        (every (λ key. moved_row t.update.shifted (old_row (kept_pair t.update key)) ≡ was_row (kept_pair t.update key)) staying_keys (λ key. refl))))

  pub unmoved : removing (come t) t.new.rows ≡ staying_rows t
  unmoved = new_rows is_quiet (come t) come_at ∙ sym same_rows ∙ sym (moved_rows is_quiet (gone t) gone_at)

  -- a pair whose row is none of those that go or are modified is quiet, and so is one whose row is none of those that come or are modified
  pub quiet_before : AllByRecursion (λ pair. is_among pair.old (gone t) ≡ false → is_modified t e pair ≡ false) (kept t e)
  quiet_before =
      every-map (λ pair. is_among pair.old (gone t) ≡ false → is_modified t e pair ≡ false) (kept_pair t.update) staying_keys
      (every_weaker (λ key. is_among key staying_keys ≡ true) (λ key. is_among key (gone t) ≡ false → is_modified t e (kept_pair t.update key) ≡ false) staying_keys
      (λ key own absent.
      by (is_among key t.update.removed) (is_modified t e (kept_pair t.update key)) (is_among key staying_keys) own
      (sym (among-united key t.update.removed (old_modified (keys t.old.rows) t.update) ∙ ap (λ b. is_among key t.update.removed || b) (among-filter (λ key. is_modified t e (kept_pair t.update key)) key staying_keys)) ∙ absent))
      (each_among staying_keys))
    where
      by : (r m s : Bool) → s ≡ true → (r || (m && s)) ≡ false → m ≡ false
      by true m s own h = absurd (true≢false h)
      by false true s own h = absurd (true≢false (sym own ∙ h))
      by false false s own h = refl

  pub quiet_now : (pair : KeyPair) → is_among pair.new (come t) ≡ false → is_modified t e pair ≡ false
  quiet_now pair absent = (or_parts _ _ (sym (among-united pair.new t.update.added t.update.modified) ∙ absent)).1
