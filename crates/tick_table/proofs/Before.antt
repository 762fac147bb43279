-- What a ticking table tells of its rows, now and before the step.
use Rattle.std.proofs.Common.{◌≡◌, refl, ap, ap₂, sym, ◌∙◌, subst, true, false, cond, not, ℕ, zero, suc, ◌+◌, ◌*◌, ◌<◌, ◌≤◌, ◌^◌, arith, List, [], ◌∷◌, ◌++◌, length, length-drop, take, drop, get_or, ℤ, zero-mul}
use Rattle.std.{specs.Prelude.{Err, Ok, flat_map, map}, specs.List.AllByRecursion, proofs.lemmas.Bool.{not-true, or_right}, proofs.lemmas.List.{get_or-map, map-id, take-append-drop}}
use Rattle.key_lists.{specs.Keys.{is_among, IsRising, without}, proofs.Among.each_among, proofs.Every.{every_both, every-filter, filter_all, filter_passes, filter_same, map_map}, proofs.Parts.every_at}
use Rattle.row_set.specs.Sets.{count_below, found}
use Rattle.shift_data.proofs.Asked.{lands_inside}
use Rattle.table_update.{specs.Kept.old_modified, proofs.KeysAfter.rules_kept, proofs.Occupied.landed-unapplied}
use Rattle.tick_model.{specs.declared.table.PlainRow.PlainRow, specs.declared.update.ShiftRange.ShiftRange, specs.Changes.{rows_under, told_keys}, specs.Rules.{is_past, landed}, specs.Shifts.{as_key, delta_at, moved}, specs.Tables.{cells_at, keys}, specs.Updates.Update}
use Rattle.tick_laws.{specs.Replaced.no_update, proofs.CheckedUpdates.among-put_keys}
use Rattle.tick_table.{specs.Kept.{IsKept, cells_before, row_before, shown}, specs.Placed.{Placed, paired}, specs.Ticking.Ticking, proofs.Applied.{among-map, among-without, modified_stay, removed_own}, proofs.Found.{found_err, found_ok, found_place}, proofs.Paired.{at_mapped, at_paired, at_place, at_under, keys-paired, place_below}, proofs.Puts.rest_next, proofs.SlotCells.slot_fits, proofs.TableColumns.length-mapped}

told_flat : (width : ℕ) (rows : List PlainRow) (ks : List ℕ) (cells : List ℤ) → length cells ≡ length ks * width → AllByRecursion (λ row. cells_at row.key rows ≡ row.cells) (rows_under width ks cells) → cells ≡ flat_map (λ key. cells_at key rows) ks
told_flat width rows [] [] whole h = refl
told_flat width rows [] (cell ∷ cells) whole h = absurd (omega (arith, whole))
told_flat width rows (key ∷ ks) cells whole h =
    sym (take-append-drop width cells)
    ∙ ap₂ (λ (row rest : List ℤ). row ++ rest) (sym h.0) (told_flat width rows ks (drop width cells) (omega (arith, whole, length-drop width cells)) h.1)

-- what holds of the rows whose cells stand one after the other holds of the one at a place
told_at : (P : ℕ → List ℤ → Type 0) (width : ℕ) (ks : List ℕ) (cells : List ℤ) (n : ℕ) → n < length ks → AllByRecursion (λ row. P row.key row.cells) (rows_under width ks cells) → P (get_or ks n 0) (take width (drop (n * width) cells))
told_at P width [] cells n below h = absurd (omega (arith, below))
told_at P width (key ∷ ks) cells zero below h = subst (λ start. P key (take width (drop start cells))) (sym (zero-mul width)) h.0
told_at P width (key ∷ ks) cells (suc n) below h = subst (λ rest. P (get_or ks n 0) (take width rest)) (rest_next n width cells) (told_at P width ks (drop width cells) n (omega (arith, below)) h.1)

-- a table without rows
kept_none : (width : ℕ) → 1 ≤ width → width ≤ 32 → let placed : Placed = record { width = width; rows = []; left = []; saved = [] } in IsKept [] [] placed no_update []
kept_none width some few = record {
  some = some;
  few = few;
  now_table = record { rows = tt; rising = tt };
  before_table = record { rows = tt; rising = tt };
  count = refl;
  left = refl;
  saved = sym (zero-mul width);
  whole = sym (zero-mul width);
  told_rows = tt;
  checked = refl;
  after = refl;
}

pub kept_fresh : (rows before : List ℕ) (placed : Placed) (update : Update) (told : List ℤ) → rows ≡ [] → before ≡ [] → placed.rows ≡ [] → placed.left ≡ [] → placed.saved ≡ [] → update ≡ no_update → told ≡ [] → 1 ≤ placed.width → placed.width ≤ 32 → IsKept rows before placed update told
kept_fresh rows before placed update told a b r l s u d some few =
    subst (λ (rows : List ℕ). IsKept rows before placed update told) (sym a)
    (subst (λ (before : List ℕ). IsKept [] before placed update told) (sym b)
    (subst (λ (update : Update). IsKept [] [] placed update told) (sym u)
    (subst (λ (told : List ℤ). IsKept [] [] placed no_update told) (sym d)
    (subst (λ (rows : List (List ℤ)). let made : Placed = record { width = placed.width; rows = rows; left = placed.left; saved = placed.saved } in IsKept [] [] made no_update []) (sym r)
    (subst (λ (left : List (List ℤ)). let made : Placed = record { width = placed.width; rows = []; left = left; saved = placed.saved } in IsKept [] [] made no_update []) (sym l)
    (subst (λ (saved : List ℤ). let made : Placed = record { width = placed.width; rows = []; left = []; saved = saved } in IsKept [] [] made no_update []) (sym s)
    (kept_none placed.width some few)))))))

module _ (rows before : List ℕ) (placed : Placed) (update : Update) (told : List ℤ) (k : IsKept rows before placed update told) (table : Ticking) (view : shown rows before placed update ≡ table) where
  abbrev place : ℕ → ℕ
  place key = as_key (moved update.shifted key)

  update_is : update ≡ table.update
  update_is = ap (λ (table : Ticking). table.update) view

  old_is : map (row_before rows placed update) before ≡ table.old.rows
  old_is = ap (λ (table : Ticking). table.old.rows) view

  new_is : paired rows placed.rows ≡ table.new.rows
  new_is = ap (λ (table : Ticking). table.new.rows) view

  pub now_keys : rows ≡ keys table.new.rows
  now_keys = sym (keys-paired rows placed.rows k.count) ∙ ap keys new_is

  pub before_keys : before ≡ keys table.old.rows
  before_keys = sym (map_map (λ (row : PlainRow). row.key) (row_before rows placed update) before ∙ map-id before) ∙ ap keys old_is

  -- a row now
  pub now_within : (key : ℕ) → IsRising rows → is_among key (keys table.new.rows) ≡ true → count_below key rows < length placed.rows
  now_within key rises here = let within = place_below key rows rises (ap (is_among key) now_keys ∙ here) in omega (arith, within, k.count)

  pub now_cells : (key : ℕ) → IsRising rows → is_among key (keys table.new.rows) ≡ true → get_or placed.rows (count_below key rows) [] ≡ cells_at key table.new.rows
  now_cells key rises here = at_place key rows placed.rows k.count rises (ap (is_among key) now_keys ∙ here) ∙ ap (cells_at key) new_is

  -- a row that the update tells, by its place
  pub told_within : (n : ℕ) → n < length (told_keys table.update) → n * placed.width + placed.width ≤ length told
  told_within n below =
      let fits = slot_fits n (length (told_keys update)) placed.width (omega (arith, below, ap (λ (update : Update). length (told_keys update)) update_is)) in omega (arith, fits, k.whole)

  pub told_all : told ≡ flat_map (λ key. cells_at key table.new.rows) (told_keys table.update)
  told_all =
      told_flat placed.width (paired rows placed.rows) (told_keys update) told k.whole k.told_rows
      ∙ ap₂ (λ (update : Update) (rows : List PlainRow). flat_map (λ key. cells_at key rows) (told_keys update)) update_is new_is

  pub told_cells : (n : ℕ) → n < length (told_keys table.update) → take placed.width (drop (n * placed.width) told) ≡ cells_at (get_or (told_keys table.update) n 0) table.new.rows
  told_cells n below =
      sym (told_at (λ key cells. cells_at key (paired rows placed.rows) ≡ cells) placed.width (told_keys update) told n (omega (arith, below, ap (λ (update : Update). length (told_keys update)) update_is)) k.told_rows)
      ∙ ap₂ (λ (update : Update) (rows : List PlainRow). cells_at (get_or (told_keys update) n 0) rows) update_is new_is

  -- a row from before: as it was removed, as it was modified, and else
  module _ (key : ℕ) (here : is_among key before ≡ true) where
    were : cells_before rows placed update key ≡ cells_at key table.old.rows
    were = sym (at_mapped (cells_before rows placed update) key before here) ∙ ap (cells_at key) old_is

    abbrev kept_cells : List ℤ
    kept_cells = cond (is_among (place key) update.modified) (cells_at (place key) (rows_under placed.width update.modified placed.saved)) (cells_at (place key) (paired rows placed.rows))

    gone_cells : is_among key update.removed ≡ true → cells_at key (paired update.removed placed.left) ≡ cells_at key table.old.rows
    gone_cells gone = sym (ap (λ b. cond b (cells_at key (paired update.removed placed.left)) kept_cells) gone) ∙ were

    module _ (stays : is_among key update.removed ≡ false) where
      stayed_cells : kept_cells ≡ cells_at key table.old.rows
      stayed_cells = sym (ap (λ b. cond b (cells_at key (paired update.removed placed.left)) kept_cells) stays) ∙ were

      replaced_cells : is_among (place key) update.modified ≡ true → cells_at (place key) (rows_under placed.width update.modified placed.saved) ≡ cells_at key table.old.rows
      replaced_cells own = sym (ap (λ b. cond b (cells_at (place key) (rows_under placed.width update.modified placed.saved)) (cells_at (place key) (paired rows placed.rows))) own) ∙ stayed_cells

      unchanged_cells : is_among (place key) update.modified ≡ false → cells_at (place key) (paired rows placed.rows) ≡ cells_at key table.old.rows
      unchanged_cells none = sym (ap (λ b. cond b (cells_at (place key) (rows_under placed.width update.modified placed.saved)) (cells_at (place key) (paired rows placed.rows))) none) ∙ stayed_cells

      stay_own : is_among key (without update.removed before) ≡ true
      stay_own = among-without key update.removed before stays here

  -- a removed row, by its place and by its key
  module _ (rises : IsRising update.removed) where
    pub removed_cells : (n : ℕ) → n < length table.update.removed → get_or placed.left n [] ≡ cells_at (get_or table.update.removed n 0) table.old.rows
    removed_cells n within =
        let below : n < length update.removed = omega (arith, within, ap (λ (update : Update). length update.removed) update_is) in
        sym (at_paired update.removed placed.left n k.left rises below)
        ∙ gone_cells (get_or update.removed n 0) (every_at (λ key. is_among key before ≡ true) update.removed n 0 below (removed_own before update k.checked))
        (every_at (λ key. is_among key update.removed ≡ true) update.removed n 0 below (each_among update.removed))
        ∙ ap (λ (update : Update). cells_at (get_or update.removed n 0) table.old.rows) update_is

    module _ (key n : ℕ) (ks : List ℕ) (same : ks ≡ update.removed) where
      pub left_within : found key ks ≡ Ok n → n < length placed.left
      left_within e = let there = found_place key n update.removed update.removed refl rises (ap (found key) (sym same) ∙ e) in omega (arith, there.0, k.left)

      pub left_cells : found key ks ≡ Ok n → is_among key (keys table.old.rows) ≡ true → get_or placed.left n [] ≡ cells_at key table.old.rows
      left_cells e here =
          let there = found_ok key update.removed n (ap (found key) (sym same) ∙ e) in
          ap (λ n. get_or placed.left n []) there.1
          ∙ at_place key update.removed placed.left k.left rises there.0
          ∙ gone_cells key (ap (is_among key) before_keys ∙ here) there.0

  pub not_removed : (key n : ℕ) (ks : List ℕ) → ks ≡ update.removed → found key ks ≡ Err n → is_among key table.update.removed ≡ false
  not_removed key n ks same e = ap (λ (update : Update). is_among key update.removed) (sym update_is) ∙ found_err key update.removed n (ap (found key) (sym same) ∙ e)

  -- the place among the modified rows of one that stays
  pub saved_within : (now n : ℕ) → IsRising update.modified → found now table.update.modified ≡ Ok n → n * placed.width + placed.width ≤ length placed.saved
  saved_within now n rises e =
      let there = found_place now n update.modified update.modified refl rises (ap (λ (update : Update). found now update.modified) update_is ∙ e) in
      let fits = slot_fits n (length update.modified) placed.width there.0 in
      omega (arith, fits, k.saved)

  -- a row that stays, by its key and by that to which it moves
  module _ (key : ℕ) (here : is_among key (keys table.old.rows) ≡ true) (stays : is_among key table.update.removed ≡ false) where
    own : is_among key before ≡ true
    own = ap (is_among key) before_keys ∙ here

    left : is_among key update.removed ≡ false
    left = ap (λ (update : Update). is_among key update.removed) update_is ∙ stays

    pub place_inside : (shifts : List ShiftRange) → shifts ≡ update.shifted → is_past (2 ^ 62) (moved shifts key) ≡ false
    place_inside shifts same =
        ap (λ (shifts : List ShiftRange). is_past (2 ^ 62) (moved shifts key)) same
        ∙ lands_inside update.shifted (without update.removed before) key (delta_at update.shifted key) (rules_kept (2 ^ 62) before update k.checked).shifted (stay_own key own left) refl

    module _ (now : ℕ) (is : now ≡ as_key (moved table.update.shifted key)) where
      now_place : now ≡ place key
      now_place = is ∙ ap (λ (update : Update). as_key (moved update.shifted key)) (sym update_is)

      pub now_own : is_among now (keys table.new.rows) ≡ true
      now_own =
          ap₂ is_among now_place (sym now_keys ∙ k.after)
          ∙ among-put_keys (place key) update.added (landed update.shifted (without update.removed before))
          ∙ or_right (is_among (place key) update.added) (is_among (place key) (landed update.shifted (without update.removed before))) (among-map place key (without update.removed before) (stay_own key own left))

      pub saved_cells : (n : ℕ) → IsRising update.modified → found now table.update.modified ≡ Ok n → take placed.width (drop (n * placed.width) placed.saved) ≡ cells_at key table.old.rows
      saved_cells n rises e =
          let here = ap (λ (update : Update). found now update.modified) update_is ∙ e in
          let there = found_place now n update.modified update.modified refl rises here in
          sym (at_under placed.width update.modified placed.saved n rises there.0)
          ∙ ap (λ key. cells_at key (rows_under placed.width update.modified placed.saved)) (there.1 ∙ now_place)
          ∙ replaced_cells key own left (ap (λ key. is_among key update.modified) (sym now_place) ∙ (found_ok now update.modified n here).0)

      pub same_cells : (n : ℕ) → found now table.update.modified ≡ Err n → cells_at now table.new.rows ≡ cells_at key table.old.rows
      same_cells n e =
          ap₂ cells_at now_place (sym new_is)
          ∙ unchanged_cells key own left (ap (λ key. is_among key update.modified) (sym now_place) ∙ found_err now update.modified n (ap (λ (update : Update). found now update.modified) update_is ∙ e))

  -- a modified row, by its place
  module _ (rises : IsRising update.modified) where
    modified_places : landed update.shifted (old_modified before update) ≡ update.modified
    modified_places =
        landed-unapplied update.shifted (without update.removed before) update.modified (rules_kept (2 ^ 62) before update k.checked).shifted rises
        ∙ filter_same (λ key. is_among key (landed update.shifted (without update.removed before))) (λ _. true) update.modified (modified_stay before update k.checked)
        ∙ filter_all update.modified

    abbrev IsModified : ℕ → Type 0
    IsModified key = (is_among key before ≡ true) × (is_among key update.removed ≡ false) × (is_among (place key) update.modified ≡ true)

    all_modified : AllByRecursion IsModified (old_modified before update)
    all_modified =
        every_both (λ key. is_among (place key) update.modified ≡ true) (λ key. (is_among key before ≡ true) × (is_among key update.removed ≡ false)) IsModified (old_modified before update)
        (λ key own stays. (stays.0, stays.1, own))
        (filter_passes (λ key. is_among (place key) update.modified) (without update.removed before))
        (every-filter (λ key. (is_among key before ≡ true) × (is_among key update.removed ≡ false)) (λ key. is_among (place key) update.modified) (without update.removed before)
        (every_both (λ key. is_among key before ≡ true) (λ key. not (is_among key update.removed) ≡ true) (λ key. (is_among key before ≡ true) × (is_among key update.removed ≡ false)) (without update.removed before)
        (λ key here stays. (here, not-true (is_among key update.removed) stays))
        (every-filter (λ key. is_among key before ≡ true) (λ key. not (is_among key update.removed)) before (each_among before))
        (filter_passes (λ key. not (is_among key update.removed)) before)))

    module _ (n : ℕ) (within : n < length table.update.modified) where
      below : n < length update.modified
      below = omega (arith, within, ap (λ (update : Update). length update.modified) update_is)

      pub modified_within : n * placed.width + placed.width ≤ length placed.saved
      modified_within = let fits = slot_fits n (length update.modified) placed.width below in omega (arith, fits, k.saved)

      pub modified_cells : take placed.width (drop (n * placed.width) placed.saved) ≡ cells_at (get_or (old_modified (keys table.old.rows) table.update) n 0) table.old.rows
      modified_cells =
          let was : ℕ = get_or (old_modified before update) n 0 in
          let many : length (old_modified before update) ≡ length update.modified = sym (length-mapped place (old_modified before update)) ∙ ap length modified_places in
          let inside : n < length (old_modified before update) = omega (arith, below, many) in
          let own = every_at IsModified (old_modified before update) n 0 inside all_modified in
          let is : place was ≡ get_or update.modified n 0 = sym (get_or-map place (old_modified before update) n 0 0 inside) ∙ ap (λ (ks : List ℕ). get_or ks n 0) modified_places in
          sym (at_under placed.width update.modified placed.saved n rises below)
          ∙ ap (λ key. cells_at key (rows_under placed.width update.modified placed.saved)) (sym is)
          ∙ replaced_cells was own.0 own.1 own.2
          ∙ ap₂ (λ (ks : List ℕ) (update : Update). cells_at (get_or (old_modified ks update) n 0) table.old.rows) before_keys update_is
