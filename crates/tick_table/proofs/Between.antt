-- The update between two tables breaks no rule of updates, and leaves the keys of the new table.
use Rattle.std.proofs.Common.{◌≡◌, refl, ap, ap₂, sym, ◌∙◌, true, false, cond, not, ◌&&◌, ◌||◌, ℕ, suc, ◌<◌, ◌^◌, arith, List, [], ◌∷◌, ◌++◌, Some, None, pos, leb}
use Rattle.std.{specs.Prelude.{filter, find, option_map, int_le, int_lt}, specs.List.AllByRecursion, specs.Option.option_or, proofs.lemmas.Bool.{lt-leb, or_from, not-true}, proofs.lemmas.List.map-id}
use Rattle.key_lists.{specs.Keys.{is_among, IsRising, without}, proofs.Among.{among-append, among-filter, each_among, of_among}, proofs.Every.{every_weaker, every_both, every-map, every_unmapped, every-filter, filter_passes, map_map, find_none}, proofs.Rising.rising_some}
use Rattle.tick_model.{specs.declared.table.PlainRow.PlainRow, specs.declared.update.KeyPair.KeyPair, specs.declared.update.ShiftRange.ShiftRange, specs.declared.update.UpdateFault.TheVariants.{RemovedAbsent, ShiftBreaks, AddedTaken, ModifiedAbsent, ModifiedAdded}, specs.declared.table.PlainTable.PlainTable, specs.Changes.{change_of, rows_under, told_keys}, specs.Rules.{is_past, landed, shift_fault, shift_fault_after, update_fault}, specs.Shifts.moved, specs.Tables.{IsRow, keys}, specs.Updates.{IsTick, Tick, Update, between, differs, kept_pair, new_keys, old_keys, pairs}, proofs.RowLists.keys-rows_under}
use Rattle.tick_laws.{specs.Checked.{IsChecked, keys_after}, proofs.Carried.pairs-between, proofs.CheckedUpdates.keys-carry, proofs.Moves.each_lands, proofs.ToldRows.change-carries}

-- pairs whose old keys move to their new ones, which are keys and rise, break no order
abbrev Lands : List ShiftRange → KeyPair → Type 0
Lands shifts pair = (moved shifts pair.old ≡ pos pair.new) × (pair.new < 2 ^ 62)

not_below : (n : ℕ) → int_lt (pos n) (pos 0) ≡ false
not_below n = lt-leb (suc n) 0 (omega arith)

not_past : (shifts : List ShiftRange) (pair : KeyPair) → Lands shifts pair → is_past (2 ^ 62) (moved shifts pair.old) ≡ false
not_past shifts pair h = ap (is_past (2 ^ 62)) h.0 ∙ or_from (int_lt (pos pair.new) (pos 0)) (leb (2 ^ 62) pair.new) (not_below pair.new) (lt-leb (2 ^ 62) pair.new h.1)

past_last : (shifts : List ShiftRange) (last pair : KeyPair) → Lands shifts last → Lands shifts pair → last.new < pair.new → int_le (moved shifts pair.old) (moved shifts last.old) ≡ false
past_last shifts last pair l p less = ap₂ int_le p.0 l.0 ∙ lt-leb pair.new last.new less

keeps_order_after : (shifts : List ShiftRange) (last : KeyPair) (pairs : List KeyPair) → Lands shifts last → AllByRecursion (λ key. last.new < key) (new_keys pairs) → AllByRecursion (Lands shifts) pairs → IsRising (new_keys pairs) → shift_fault_after (2 ^ 62) shifts (Some last.old) (old_keys pairs) ≡ None
keeps_order_after shifts last [] l above lands rising = refl
keeps_order_after shifts last (pair ∷ pairs) l above lands rising =
    ap (λ b. cond b (Some (ShiftBreaks pair.old pair.old)) (cond (int_le (moved shifts pair.old) (moved shifts last.old)) (Some (ShiftBreaks last.old pair.old)) (shift_fault_after (2 ^ 62) shifts (Some pair.old) (old_keys pairs)))) (not_past shifts pair lands.0)
    ∙ ap (λ b. cond b (Some (ShiftBreaks last.old pair.old)) (shift_fault_after (2 ^ 62) shifts (Some pair.old) (old_keys pairs))) (past_last shifts last pair l lands.0 above.0)
    ∙ keeps_order_after shifts pair pairs lands.0 rising.0 lands.1 rising.1

keeps_order : (shifts : List ShiftRange) (pairs : List KeyPair) → AllByRecursion (Lands shifts) pairs → IsRising (new_keys pairs) → shift_fault (2 ^ 62) shifts (old_keys pairs) ≡ None
keeps_order shifts [] lands rising = refl
keeps_order shifts (pair ∷ pairs) lands rising =
    ap (λ b. cond b (Some (ShiftBreaks pair.old pair.old)) (shift_fault_after (2 ^ 62) shifts (Some pair.old) (old_keys pairs))) (not_past shifts pair lands.0)
    ∙ keeps_order_after shifts pair pairs lands.0 rising.0 lands.1 rising.1

-- the pairs that an update keeps have the old keys that it does not remove, and lead to where it moves these
pub old_keys-pairs : (table : PlainTable) (update : Update) → old_keys (pairs table update) ≡ without update.removed (keys table.rows)
old_keys-pairs table update = map_map (λ (pair : KeyPair). pair.old) (kept_pair update) (without update.removed (keys table.rows)) ∙ map-id (without update.removed (keys table.rows))

pub new_keys-pairs : (table : PlainTable) (update : Update) → new_keys (pairs table update) ≡ landed update.shifted (without update.removed (keys table.rows))
new_keys-pairs table update = map_map (λ (pair : KeyPair). pair.new) (kept_pair update) (without update.removed (keys table.rows))

key_small : (key : ℕ) (rows : List PlainRow) (width : ℕ) → AllByRecursion (IsRow width) rows → is_among key (keys rows) ≡ true → key < 2 ^ 62
key_small key rows width h own = of_among (λ key. key < 2 ^ 62) key (keys rows) (every-map (λ key. key < 2 ^ 62) (λ (row : PlainRow). row.key) rows (every_weaker (IsRow width) (λ row. row.key < 2 ^ 62) rows (λ row r. r.key) h)) own

module _ (tick : Tick) (h : IsTick tick) where
  abbrev update : Update
  update = between tick

  abbrev staying : List ℕ
  staying = without update.removed (keys tick.old.rows)

  pub staying_are : staying ≡ old_keys tick.kept
  staying_are = sym (old_keys-pairs tick.old update) ∙ ap old_keys (pairs-between tick h)

  landed_are : landed update.shifted staying ≡ new_keys tick.kept
  landed_are = sym (new_keys-pairs tick.old update) ∙ ap new_keys (pairs-between tick h)

  all_land : AllByRecursion (Lands update.shifted) tick.kept
  all_land =
      every_both (λ pair. moved update.shifted pair.old ≡ pos pair.new) (λ pair. is_among pair.new (keys tick.new.rows) ≡ true) (Lands update.shifted) tick.kept
      (λ pair e own. (e, key_small pair.new tick.new.rows tick.new.width h.new_table.rows own))
      (each_lands tick.kept h.rising_old) (every_unmapped (λ key. is_among key (keys tick.new.rows) ≡ true) (λ (pair : KeyPair). pair.new) tick.kept h.of_new)

  pub shift_keeps_order : shift_fault (2 ^ 62) update.shifted staying ≡ None
  shift_keeps_order = ap (shift_fault (2 ^ 62) update.shifted) staying_are ∙ keeps_order update.shifted tick.kept all_land h.rising_new

  none_absent : find (λ key. not (is_among key (keys tick.old.rows))) update.removed ≡ None
  none_absent = find_none (λ key. not (is_among key (keys tick.old.rows))) update.removed
      (every-filter (λ key. not (is_among key (keys tick.old.rows)) ≡ false) (λ key. not (is_among key (old_keys tick.kept))) (keys tick.old.rows)
      (every_weaker (λ key. is_among key (keys tick.old.rows) ≡ true) (λ key. not (is_among key (keys tick.old.rows)) ≡ false) (keys tick.old.rows) (λ key own. ap not own) (each_among (keys tick.old.rows))))

  added_apart : AllByRecursion (λ key. is_among key (new_keys tick.kept) ≡ false) update.added
  added_apart = every_weaker (λ key. not (is_among key (new_keys tick.kept)) ≡ true) (λ key. is_among key (new_keys tick.kept) ≡ false) update.added
      (λ key e. not-true (is_among key (new_keys tick.kept)) e) (filter_passes (λ key. not (is_among key (new_keys tick.kept))) (keys tick.new.rows))

  modified_kept : AllByRecursion (λ key. is_among key (new_keys tick.kept) ≡ true) update.modified
  modified_kept = every-map (λ key. is_among key (new_keys tick.kept) ≡ true) (λ (pair : KeyPair). pair.new) (filter (differs tick.old tick.new) tick.kept)
      (every-filter (λ pair. is_among pair.new (new_keys tick.kept) ≡ true) (differs tick.old tick.new) tick.kept
      (every_unmapped (λ key. is_among key (new_keys tick.kept) ≡ true) (λ (pair : KeyPair). pair.new) tick.kept (each_among (new_keys tick.kept))))

  none_taken : find (λ key. is_among key (landed update.shifted staying)) update.added ≡ None
  none_taken = ap (λ ks. find (λ key. is_among key ks) update.added) landed_are ∙ find_none (λ key. is_among key (new_keys tick.kept)) update.added added_apart

  none_lost : find (λ key. not (is_among key (landed update.shifted staying ++ update.added))) update.modified ≡ None
  none_lost = ap (λ ks. find (λ key. not (is_among key (ks ++ update.added))) update.modified) landed_are
      ∙ find_none (λ key. not (is_among key (new_keys tick.kept ++ update.added))) update.modified
      (every_weaker (λ key. is_among key (new_keys tick.kept) ≡ true) (λ key. not (is_among key (new_keys tick.kept ++ update.added)) ≡ false) update.modified
      (λ key own. ap not (among-append key (new_keys tick.kept) update.added ∙ ap (λ b. b || is_among key update.added) own)) modified_kept)

  none_new : find (λ key. is_among key update.added) update.modified ≡ None
  none_new = find_none (λ key. is_among key update.added) update.modified
      (every_weaker (λ key. is_among key (new_keys tick.kept) ≡ true) (λ key. is_among key update.added ≡ false) update.modified
      (λ key own. among-filter (λ key. not (is_among key (new_keys tick.kept))) key (keys tick.new.rows) ∙ ap (λ b. not b && is_among key (keys tick.new.rows)) own) modified_kept)

  pub between_lawful : update_fault (2 ^ 62) (keys tick.old.rows) (between tick) ≡ None
  between_lawful =
      ap (λ found. option_or (option_map RemovedAbsent found) (option_or (shift_fault (2 ^ 62) update.shifted staying) (option_or (option_map AddedTaken (find (λ key. is_among key (landed update.shifted staying)) update.added)) (option_or (option_map ModifiedAbsent (find (λ key. not (is_among key (landed update.shifted staying ++ update.added))) update.modified)) (option_map ModifiedAdded (find (λ key. is_among key update.added) update.modified)))))) none_absent
      ∙ ap (λ fault. option_or fault (option_or (option_map AddedTaken (find (λ key. is_among key (landed update.shifted staying)) update.added)) (option_or (option_map ModifiedAbsent (find (λ key. not (is_among key (landed update.shifted staying ++ update.added))) update.modified)) (option_map ModifiedAdded (find (λ key. is_among key update.added) update.modified))))) shift_keeps_order
      ∙ ap (λ found. option_or (option_map AddedTaken found) (option_or (option_map ModifiedAbsent (find (λ key. not (is_among key (landed update.shifted staying ++ update.added))) update.modified)) (option_map ModifiedAdded (find (λ key. is_among key update.added) update.modified)))) none_taken
      ∙ ap (λ found. option_or (option_map ModifiedAbsent found) (option_map ModifiedAdded (find (λ key. is_among key update.added) update.modified))) none_lost
      ∙ ap (option_map ModifiedAdded) none_new

  pub keys_after_between : keys_after (keys tick.old.rows) (between tick) ≡ keys tick.new.rows
  keys_after_between =
      sym (keys-carry (2 ^ 62) tick.old update (rows_under tick.old.width (told_keys update) (change_of tick).cells) checked (keys-rows_under tick.old.width (told_keys update) (change_of tick).cells))
      ∙ ap (λ (table : PlainTable). keys table.rows) (change-carries tick h)
    where
      checked : IsChecked (2 ^ 62) (keys tick.old.rows) update
      checked = record { breaks_none = between_lawful; added_rise = rising_some (λ key. not (is_among key (new_keys tick.kept))) (keys tick.new.rows) h.new_table.rising }
