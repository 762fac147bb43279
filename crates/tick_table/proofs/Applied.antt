-- A ticking table to which a change is applied: what it keeps, and what it shows.
use Rattle.std.proofs.Common.{◌≡◌, refl, ap, ap₂, sym, ◌∙◌, subst, Bool, true, false, cond, not, ◌&&◌, ◌||◌, ℕ, ◌+◌, ◌*◌, ◌<◌, ◌≤◌, ◌^◌, arith, List, [], ◌∷◌, ◌++◌, length, map, drop, ℤ, None, Some, unwrap_or, length-append, length-drop, length-take}
use Rattle.std.{specs.Prelude.{flat_map, option_map}, specs.List.AllByRecursion, proofs.Math.Nat.suc-mul, proofs.lemmas.Bool.{not-false, or_from}}
use Rattle.key_lists.{specs.Keys.{is_among, IsRising, without}, proofs.Among.{among-append, among-filter, apart_back, each_among, of_among}, proofs.Booleans.or_false, proofs.Every.{every_both, every_unmapped, every_weaker, every-append, every-filter, every-map, map_map, map_own, map_same, none_pass}}
use Rattle.row_set.specs.Sets.{IsKeySet}
use Rattle.tick_model.{specs.declared.table.PlainRow.PlainRow, specs.declared.table.PlainTable.PlainTable, specs.declared.update.ShiftRange.ShiftRange, specs.Changes.{Change, changed, rows_under, told_keys}, specs.Rules.{landed, update_fault}, specs.Shifts.{as_key, moved}, specs.Tables.{IsRow, IsTable, cells_at, keys, row_at}, specs.Updates.{Update, carry, moved_row, removing, shifting}, proofs.Among.each_found}
use Rattle.table_update.{specs.Coalesced.Follow, proofs.KeysAfter.{KeepsRules, rules_kept}, proofs.LawfulParts.places_rise}
use Rattle.tick_laws.{specs.Checked.{IsChecked, keys_after}, proofs.CheckedUpdates.table-carry, proofs.ToldRows.{cells_of_row, rows_under-told}}
use Rattle.tick_table.{specs.Kept.{IsKept, cells_before, row_before, table_before, table_now}, specs.Placed.{Placed, paired, put_rows, stayed, stepped}, proofs.CarriedRows.{keys-removing, keys-told, rows_step}, proofs.Paired.{at_mapped, keys-paired, paired-map, row_of}, proofs.TableColumns.length-mapped, proofs.Told.{AreOnce, at_put_rows, at_stayed, once-append, once-rising, told_own}}

-- rows whose cells stand one after the other are whole
whole-rows_under : (width : ℕ) (ks : List ℕ) (cells : List ℤ) → length ks * width ≤ length cells → AllByRecursion (λ row. length row.cells ≡ width) (rows_under width ks cells)
whole-rows_under width [] cells h = tt
whole-rows_under width (key ∷ ks) cells h =
    let more : length (key ∷ ks) * width ≡ length ks * width + width = suc-mul (length ks) width in
    (length-take width cells ∙ omega arith, whole-rows_under width ks (drop width cells) (omega (arith, length-drop width cells)))

length-rows : (width : ℕ) (cells : ℕ → List ℤ) (ks : List ℕ) → AllByRecursion (λ key. length (cells key) ≡ width) ks → length (flat_map cells ks) ≡ length ks * width
length-rows width cells [] h = omega arith
length-rows width cells (key ∷ ks) h =
    let more : length (key ∷ ks) * width ≡ length ks * width + width = suc-mul (length ks) width in
    let rest = length-rows width cells ks h.1 in
    length-append (cells key) (flat_map cells ks) ∙ omega (arith, h.0, rest, more)

-- a table's rows are those of its cells under its keys
rows_again : (rows : List PlainRow) → IsRising (keys rows) → map (λ key. row_of key (cells_at key rows)) (keys rows) ≡ rows
rows_again rows rises =
    map_map (λ key. row_of key (cells_at key rows)) (λ (row : PlainRow). row.key) rows
    ∙ map_own (λ (row : PlainRow). row_of row.key (cells_at row.key rows)) rows
    (every_weaker (λ (row : PlainRow). row_at row.key rows ≡ Some row) (λ (row : PlainRow). row_of row.key (cells_at row.key rows) ≡ row) rows
    (λ row found. ap (λ o. row_of row.key (unwrap_or (option_map (λ (row : PlainRow). row.cells) o) [])) found) (each_found rows rises))

pub keys-shifting : (shifts : List ShiftRange) (rows : List PlainRow) → keys (shifting shifts rows) ≡ landed shifts (keys rows)
keys-shifting shifts rows =
    map_map (λ (row : PlainRow). row.key) (moved_row shifts) rows ∙ sym (map_map (λ key. as_key (moved shifts key)) (λ (row : PlainRow). row.key) rows)

pub keys-stayed : (update : Update) (rows : List PlainRow) → keys (stayed update rows) ≡ landed update.shifted (without update.removed (keys rows))
keys-stayed update rows = keys-shifting update.shifted (removing update.removed rows) ∙ ap (landed update.shifted) (keys-removing update.removed rows)

pub among-map : (f : ℕ → ℕ) (key : ℕ) (ks : List ℕ) → is_among key ks ≡ true → is_among (f key) (map f ks) ≡ true
among-map f key ks here = of_among (λ k. is_among (f k) (map f ks) ≡ true) key ks (every_unmapped (λ k. is_among k (map f ks) ≡ true) f ks (each_among (map f ks))) here

pub among-without : (key : ℕ) (others ks : List ℕ) → is_among key others ≡ false → is_among key ks ≡ true → is_among key (without others ks) ≡ true
among-without key others ks absent here = among-filter (λ k. not (is_among k others)) key ks ∙ ap₂ (λ a b. not a && b) absent here

-- the modified rows are among those that stay, and the added ones are not
module _ (ks : List ℕ) (update : Update) (breaks_none : update_fault (2 ^ 62) ks update ≡ None) where
  rules : KeepsRules (2 ^ 62) ks update
  rules = rules_kept (2 ^ 62) ks update breaks_none

  abbrev places : List ℕ
  places = landed update.shifted (without update.removed ks)

  pub not_added : AllByRecursion (λ key. is_among key update.added ≡ false) update.modified
  not_added = none_pass (λ key. is_among key update.added) update.modified rules.apart

  pub modified_stay : AllByRecursion (λ key. is_among key places ≡ true) update.modified
  modified_stay =
      every_both (λ key. is_among key update.added ≡ false) (λ key. not (is_among key (places ++ update.added)) ≡ false) (λ key. is_among key places ≡ true) update.modified
      (λ key absent own.
      sym (or_false (is_among key places)) ∙ ap (λ b. is_among key places || b) (sym absent) ∙ sym (among-append key places update.added) ∙ not-false (is_among key (places ++ update.added)) own)
      not_added (none_pass (λ key. not (is_among key (places ++ update.added))) update.modified rules.modified)

  pub added_new : (key : ℕ) → is_among key places ≡ true → is_among key update.added ≡ false
  added_new key here = of_among (λ k. is_among k update.added ≡ false) key places (apart_back places update.added (none_pass (λ k. is_among k places) update.added rules.added)) here

  pub places_rising : IsRising places
  places_rising = places_rise update.shifted (without update.removed ks) rules.shifted

  pub removed_own : AllByRecursion (λ key. is_among key ks ≡ true) update.removed
  removed_own =
      every_weaker (λ key. not (is_among key ks) ≡ false) (λ key. is_among key ks ≡ true) update.removed (λ key own. not-false (is_among key ks) own)
      (none_pass (λ key. not (is_among key ks)) update.removed rules.removed)

-- a change whose update breaks no rule on the rows of now, and has whole rows
module _ (rows before : List ℕ) (old : Placed) (last : Update) (last_told : List ℤ) (k : IsKept rows before old last last_told) (update : Update) (cells : List ℤ) (now : PlainTable) (change : Change)
    (view : table_now rows old ≡ now) (is : let it : Change = record { update = update; cells = cells } in it ≡ change) (breaks_no_rule : update_fault (2 ^ 62) (keys now.rows) change.update ≡ None) (fits : length change.cells ≡ length (told_keys change.update) * now.width) where
  abbrev those : List PlainRow
  those = paired rows old.rows

  abbrev told : List PlainRow
  told = rows_under old.width (told_keys update) cells

  abbrev carried : PlainTable
  carried = carry (table_now rows old) update told

  abbrev stay : List PlainRow
  stay = stayed update those

  abbrev place : ℕ → ℕ
  place key = as_key (moved update.shifted key)

  own_keys : keys those ≡ rows
  own_keys = keys-paired rows old.rows k.count

  breaks_none : update_fault (2 ^ 62) (keys those) update ≡ None
  breaks_none = ap₂ (λ (table : PlainTable) (change : Change). update_fault (2 ^ 62) (keys table.rows) change.update) view is ∙ breaks_no_rule

  pub lawful : update_fault (2 ^ 62) rows update ≡ None
  lawful = subst (λ ks. update_fault (2 ^ 62) ks update ≡ None) own_keys breaks_none

  pub follows : Follow before last update
  follows = record { applies = k.checked; follows = subst (λ ks. update_fault (2 ^ 62) ks update ≡ None) k.after lawful }

  pub whole : length cells ≡ length (told_keys update) * old.width
  whole =
      ap (λ (change : Change). length change.cells) is ∙ fits ∙ sym (ap₂ (λ (table : PlainTable) (change : Change). length (told_keys change.update) * table.width) view is)

  module _ (added : IsKeySet update.added) (modified : IsKeySet update.modified) where
    checked : IsChecked (2 ^ 62) (keys those) update
    checked = record { breaks_none = breaks_none; added_rise = added.rising }

    told_have : keys told ≡ told_keys update
    told_have = keys-told (table_now rows old) update cells checked modified.rising

    told_rows : AllByRecursion (IsRow old.width) told
    told_rows =
        every_both (λ (row : PlainRow). row.key < 2 ^ 62) (λ (row : PlainRow). length row.cells ≡ old.width) (IsRow old.width) told
        (λ row small fits. record { key = small; whole = fits })
        (every_unmapped (λ key. key < 2 ^ 62) (λ (row : PlainRow). row.key) told
        (subst (AllByRecursion (λ key. key < 2 ^ 62)) (sym told_have) (every-append (λ key. key < 2 ^ 62) update.added update.modified added.small modified.small)))
        (whole-rows_under old.width (told_keys update) cells (omega (arith, whole)))

    carried_table : IsTable carried
    carried_table = table-carry (2 ^ 62) (table_now rows old) update told checked told_have (omega arith) k.now_table told_rows

    stay_keys : keys stay ≡ landed update.shifted (without update.removed (keys those))
    stay_keys = keys-stayed update those

    stay_whole : AllByRecursion (λ row. length row.cells ≡ old.width) stay
    stay_whole =
        every-map (λ (row : PlainRow). length row.cells ≡ old.width) (moved_row update.shifted) (removing update.removed those)
        (every-filter (λ (row : PlainRow). length row.cells ≡ old.width) (λ (row : PlainRow). not (is_among row.key update.removed)) those
        (every_weaker (IsRow old.width) (λ row. length row.cells ≡ old.width) those (λ row own. own.whole) k.now_table.rows))

    modified_whole : AllByRecursion (λ key. length (cells_at key stay) ≡ old.width) update.modified
    modified_whole =
        every_weaker (λ key. is_among key (landed update.shifted (without update.removed (keys those))) ≡ true) (λ key. length (cells_at key stay) ≡ old.width) update.modified
        (λ key own. cells_of_row (λ cells. length cells ≡ old.width) key stay stay_whole (ap (is_among key) stay_keys ∙ own)) (modified_stay (keys those) update breaks_none)

    stay_cells : (key : ℕ) → is_among key (keys those) ≡ true → is_among key update.removed ≡ false → cells_at (place key) stay ≡ cells_at key those
    stay_cells key here stays =
        at_stayed update key those (subst (λ ks. IsRising (landed update.shifted ks)) (sym (keys-removing update.removed those)) (places_rising (keys those) update breaks_none)) here stays

    place_stays : (key : ℕ) → is_among key (keys those) ≡ true → is_among key update.removed ≡ false → is_among (place key) (landed update.shifted (without update.removed (keys those))) ≡ true
    place_stays key here stays = among-map place key (without update.removed (keys those)) (among-without key update.removed (keys those) stays here)

    told_once : AreOnce (keys told)
    told_once =
        subst AreOnce (sym told_have)
        (once-append update.added update.modified (once-rising update.added added.rising) (once-rising update.modified modified.rising)
        (apart_back update.added update.modified (not_added (keys those) update breaks_none)))

    -- and the rows are brought on by it
    module _ (new : Placed) (new_rows : List ℕ) (w : new.width ≡ old.width) (now_keys : new_rows ≡ keys_after rows update)
        (n : length new.rows ≡ length (keys_after rows update)) (slice : List ℤ) (same : slice ≡ cells) (p : paired (keys_after rows update) new.rows ≡ stepped update (rows_under old.width (told_keys update) slice) those)
        (l : new.left ≡ map (λ key. cells_at key those) update.removed) (s : new.saved ≡ flat_map (λ key. cells_at key stay) update.modified) where
      now_rows : paired new_rows new.rows ≡ put_rows told stay
      now_rows = ap (λ ks. paired ks new.rows) now_keys ∙ p ∙ ap (λ (cells : List ℤ). stepped update (rows_under old.width (told_keys update) cells) those) same

      now_carried : table_now new_rows new ≡ carried
      now_carried =
          ap₂ (λ (width : ℕ) (rows : List PlainRow). let made : PlainTable = record { width = width; rows = rows } in made) w
          (now_rows ∙ rows_step (table_now rows old) update cells checked modified.rising)

      gone_cells : (key : ℕ) → is_among key update.removed ≡ true → cells_at key (paired update.removed new.left) ≡ cells_at key those
      gone_cells key here =
          ap (λ (left : List (List ℤ)). cells_at key (paired update.removed left)) l
          ∙ ap (cells_at key) (paired-map (λ key. cells_at key those) update.removed)
          ∙ at_mapped (λ key. cells_at key those) key update.removed here

      saved_cells : (key : ℕ) → is_among key update.modified ≡ true → cells_at key (rows_under new.width update.modified new.saved) ≡ cells_at key stay
      saved_cells key here =
          ap₂ (λ (width : ℕ) (saved : List ℤ). cells_at key (rows_under width update.modified saved)) w s
          ∙ ap (cells_at key) (rows_under-told old.width (λ key. cells_at key stay) update.modified modified_whole)
          ∙ at_mapped (λ key. cells_at key stay) key update.modified here

      same_cells : (key : ℕ) → is_among key (landed update.shifted (without update.removed (keys those))) ≡ true → is_among key update.modified ≡ false → cells_at key (paired new_rows new.rows) ≡ cells_at key stay
      same_cells key here unmodified =
          ap (cells_at key) now_rows
          ∙ at_put_rows key told stay
          (ap (is_among key) told_have ∙ among-append key update.added update.modified ∙ or_from (is_among key update.added) (is_among key update.modified) (added_new (keys those) update breaks_none key here) unmodified)

      cells_are : (key : ℕ) → is_among key (keys those) ≡ true → cells_before new_rows new update key ≡ cells_at key those
      cells_are key here = go (is_among key update.removed) (is_among (place key) update.modified) refl refl
        where
          go : (gone changed : Bool) → is_among key update.removed ≡ gone → is_among (place key) update.modified ≡ changed
              → cond gone (cells_at key (paired update.removed new.left)) (cond changed (cells_at (place key) (rows_under new.width update.modified new.saved)) (cells_at (place key) (paired new_rows new.rows))) ≡ cells_at key those
          go true changed g m = gone_cells key g
          go false true g m = saved_cells (place key) m ∙ stay_cells key here g
          go false false g m = same_cells (place key) (place_stays key here g) m ∙ stay_cells key here g

      old_rows_are : map (row_before new_rows new update) rows ≡ those
      old_rows_are =
          ap (map (row_before new_rows new update)) (sym own_keys)
          ∙ map_same (row_before new_rows new update) (λ key. row_of key (cells_at key those)) (keys those)
          (every_weaker (λ key. is_among key (keys those) ≡ true) (λ key. row_before new_rows new update key ≡ row_of key (cells_at key those)) (keys those) (λ key here. ap (row_of key) (cells_are key here)) (each_among (keys those)))
          ∙ rows_again those k.now_table.rising

      was_now : table_before new_rows rows new update ≡ table_now rows old
      was_now = ap₂ (λ (width : ℕ) (rows : List PlainRow). let made : PlainTable = record { width = width; rows = rows } in made) w old_rows_are

      pub old_is : table_before new_rows rows new update ≡ now
      old_is = was_now ∙ view

      pub new_is : table_now new_rows new ≡ changed now change
      new_is = now_carried ∙ ap₂ changed view is

      told_are : AllByRecursion (λ row. cells_at row.key (paired new_rows new.rows) ≡ row.cells) (rows_under new.width (told_keys update) cells)
      told_are =
          subst (λ width. AllByRecursion (λ row. cells_at row.key (paired new_rows new.rows) ≡ row.cells) (rows_under width (told_keys update) cells)) (sym w)
          (subst (λ (rows : List PlainRow). AllByRecursion (λ row. cells_at row.key rows ≡ row.cells) told) (sym now_rows) (told_own told stay told_once))

      pub kept_is : IsKept new_rows rows new update cells
      kept_is = record {
        some = omega (arith, w, k.some);
        few = omega (arith, w, k.few);
        now_table = subst IsTable (sym now_carried) carried_table;
        before_table = subst IsTable (sym was_now) k.now_table;
        count = n ∙ sym (ap length now_keys);
        left = ap length l ∙ length-mapped (λ key. cells_at key those) update.removed;
        saved = ap length s ∙ length-rows old.width (λ key. cells_at key stay) update.modified modified_whole ∙ ap (λ width. length update.modified * width) (sym w);
        whole = whole ∙ ap (λ width. length (told_keys update) * width) (sym w);
        told_rows = told_are;
        checked = lawful;
        after = now_keys;
      }
