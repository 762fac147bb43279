-- An update that breaks no rule leaves its keys, makes a table of a table, and keeps the pairs of a tick.
use Rattle.std.proofs.Common.{◌≡◌, refl, ap, ap₂, sym, ◌∙◌, subst, ℕ, ◌<◌, ◌≤◌, ◌^◌, ◌==◌, arith, Bool, true, false, cond, not, ◌||◌, List, [], ◌∷◌, map, Option, Some, None, true≢false, filter, ltb, ℤ, pos, negsuc, unwrap_or, length}
use Rattle.std.{specs.Prelude.{find, option_map, IfSome, int_le}, specs.List.AllByRecursion, specs.Option.option_or, proofs.lemmas.Bool.{or_parts, or_right, or_from, leb-false, ltb-true, ltb-false, eqb-true, eqb-false}, proofs.lemmas.List.map-id}
use Rattle.tick_model.{specs.declared.update.ShiftRange.ShiftRange, specs.declared.table.PlainRow.PlainRow, specs.declared.table.PlainTable.PlainTable, specs.declared.update.KeyPair.KeyPair, specs.Tables.{keys, row_at, IsRow, IsTable}, specs.Shifts.{moved, as_key}, specs.Updates.{IsTick, Update, carry, insert_row, removing, shifting, moved_row, adding, modifying, rows_at, kept_pair, pairs}, specs.declared.update.UpdateFault.TheVariants.{RemovedAbsent, ShiftBreaks, AddedTaken, ModifiedAbsent, ModifiedAdded}, specs.Rules.{is_past, landed, shift_fault, shift_fault_after}, specs.Changes.told_keys}
use Rattle.key_lists.{specs.Keys.{is_among, IsRising, without}, proofs.Among.{among_below, each_among}, proofs.Rising.rising-filter, proofs.Every.{every_weaker, every_both, every-map, every_unmapped, every-filter, filter-map, map_map, none_pass}, proofs.Booleans.{or_assoc, or_swap}}
use Rattle.tick_laws.{specs.Checked.{put_key, put_keys, keys_after, IsChecked, carried_tick}, proofs.ToldRows.first_of_two}

pub none_parts : {A : Type 0} (a b : Option A) → option_or a b ≡ None → (a ≡ None) × (b ≡ None)
none_parts None b h = (refl, h)
none_parts (Some x) b h = absurd (cc)

pub map_none : {A B : Type 0} (f : A → B) (o : Option A) → option_map f o ≡ None → o ≡ None
map_none f None h = refl
map_none f (Some x) h = absurd (cc)

-- a number that is not past a limit is a key below it
not_past : (limit : ℕ) (z : ℤ) → is_past limit z ≡ false → (z ≡ pos (as_key z)) × (as_key z < limit)
not_past limit (pos n) h = (refl, leb-false limit n (or_parts _ _ h).1)
not_past limit (negsuc n) h = absurd (true≢false h)

not_after : (x y : ℤ) → x ≡ pos (as_key x) → y ≡ pos (as_key y) → int_le x y ≡ false → as_key y < as_key x
not_after x y e f h = leb-false (as_key x) (as_key y) (sym (ap₂ int_le e f) ∙ h)

-- keys that break no rule of shifts rise below the limit
shift_after : (limit : ℕ) (shifts : List ShiftRange) (before : ℕ) (ks : List ℕ) → moved shifts before ≡ pos (as_key (moved shifts before)) → shift_fault_after limit shifts (Some before) ks ≡ None
    → AllByRecursion (λ k. (as_key (moved shifts before) < k) × (k < limit)) (map (λ k. as_key (moved shifts k)) ks) × IsRising (map (λ k. as_key (moved shifts k)) ks)
shift_after limit shifts before [] e h = (tt, tt)
shift_after limit shifts before (key ∷ ks) e h =
    (elim (is_past limit (moved shifts key)) as (λ b. is_past limit (moved shifts key) ≡ b → cond b (Some (ShiftBreaks key key)) (cond (int_le (moved shifts key) (moved shifts before)) (Some (ShiftBreaks before key)) (shift_fault_after limit shifts (Some key) ks)) ≡ None → Result) [
      | true ↦ λ past h. absurd (cc)
      | false ↦ λ past.
          (elim (int_le (moved shifts key) (moved shifts before)) as (λ b. int_le (moved shifts key) (moved shifts before) ≡ b → cond b (Some (ShiftBreaks before key)) (shift_fault_after limit shifts (Some key) ks) ≡ None → Result) [
            | true ↦ λ le h. absurd (cc)
            | false ↦ λ le h.
                let here = not_past limit (moved shifts key) past in
                let more : as_key (moved shifts before) < as_key (moved shifts key) = not_after (moved shifts key) (moved shifts before) here.0 e le in
                let rest = shift_after limit shifts key ks here.0 h in (
                  ((more, here.1), every_weaker (λ k. (as_key (moved shifts key) < k) × (k < limit)) (λ k. (as_key (moved shifts before) < k) × (k < limit)) (map (λ k. as_key (moved shifts k)) ks) (λ k a. (omega (arith, more, a.0), a.1)) rest.0),
                  (every_weaker (λ k. (as_key (moved shifts key) < k) × (k < limit)) (λ k. as_key (moved shifts key) < k) (map (λ k. as_key (moved shifts k)) ks) (λ k a. a.0) rest.0, rest.1),
                )
          ]) refl
    ]) refl h
  where
    Result : Type 0
    Result = AllByRecursion (λ k. (as_key (moved shifts before) < k) × (k < limit)) (map (λ k. as_key (moved shifts k)) (key ∷ ks)) × IsRising (map (λ k. as_key (moved shifts k)) (key ∷ ks))

pub shift_lawful : (limit : ℕ) (shifts : List ShiftRange) (ks : List ℕ) → shift_fault limit shifts ks ≡ None → AllByRecursion (λ k. k < limit) (map (λ k. as_key (moved shifts k)) ks) × IsRising (map (λ k. as_key (moved shifts k)) ks)
shift_lawful limit shifts [] h = (tt, tt)
shift_lawful limit shifts (key ∷ ks) h =
    (elim (is_past limit (moved shifts key)) as (λ b. is_past limit (moved shifts key) ≡ b → cond b (Some (ShiftBreaks key key)) (shift_fault_after limit shifts (Some key) ks) ≡ None → Result) [
      | true ↦ λ past h. absurd (cc)
      | false ↦ λ past h.
          let here = not_past limit (moved shifts key) past in
          let rest = shift_after limit shifts key ks here.0 h in (
            (here.1, every_weaker (λ k. (as_key (moved shifts key) < k) × (k < limit)) (λ k. k < limit) (map (λ k. as_key (moved shifts k)) ks) (λ k a. a.1) rest.0),
            (every_weaker (λ k. (as_key (moved shifts key) < k) × (k < limit)) (λ k. as_key (moved shifts key) < k) (map (λ k. as_key (moved shifts k)) ks) (λ k a. a.0) rest.0, rest.1),
          )
    ]) refl h
  where
    Result : Type 0
    Result = AllByRecursion (λ k. k < limit) (map (λ k. as_key (moved shifts k)) (key ∷ ks)) × IsRising (map (λ k. as_key (moved shifts k)) (key ∷ ks))

-- a row put among others
every-insert_row : (P : PlainRow → Type 0) (row : PlainRow) (rows : List PlainRow) → P row → AllByRecursion P rows → AllByRecursion P (insert_row row rows)
every-insert_row P row [] p h = (p, tt)
every-insert_row P row (other ∷ others) p h =
    elim (ltb row.key other.key) as (λ b. AllByRecursion P (cond b (row ∷ other ∷ others) (other ∷ insert_row row others))) [ true ↦ (p, h) | false ↦ (h.0, every-insert_row P row others p h.1) ]

every-adding : (P : PlainRow → Type 0) (added rows : List PlainRow) → AllByRecursion P added → AllByRecursion P rows → AllByRecursion P (adding added rows)
every-adding P [] rows a h = h
every-adding P (row ∷ added) rows a h = every-insert_row P row (adding added rows) a.0 (every-adding P added rows a.1 h)

-- a row found under a key has it
key_found : (key : ℕ) (rows : List PlainRow) → IfSome (row_at key rows) (λ row. row.key ≡ key)
key_found key [] = tt
key_found key (row ∷ rows) =
    (elim (row.key == key) as (λ b. (row.key == key) ≡ b → IfSome (cond b (Some row) (row_at key rows)) (λ row. row.key ≡ key)) [ true ↦ λ e. eqb-true row.key key e | false ↦ λ e. key_found key rows ]) refl

found_every : (P : PlainRow → Type 0) (key : ℕ) (rows : List PlainRow) → AllByRecursion P rows → IfSome (row_at key rows) P
found_every P key [] h = tt
found_every P key (row ∷ rows) h = elim (row.key == key) as (λ b. IfSome (cond b (Some row) (row_at key rows)) P) [ true ↦ h.0 | false ↦ found_every P key rows h.1 ]

pub keys-modifying : (modified rows : List PlainRow) → keys (modifying modified rows) ≡ keys rows
keys-modifying modified [] = refl
keys-modifying modified (row ∷ rows) = ap₂ (λ k ks. k ∷ ks) (go (row_at row.key modified) (key_found row.key modified)) (keys-modifying modified rows)
  where
    go : (o : Option PlainRow) → IfSome o (λ (other : PlainRow). other.key ≡ row.key) → (unwrap_or o row).key ≡ row.key
    go None h = refl
    go (Some other) h = h

every-modifying : (P : PlainRow → Type 0) (modified rows : List PlainRow) → AllByRecursion P modified → AllByRecursion P rows → AllByRecursion P (modifying modified rows)
every-modifying P modified [] m h = tt
every-modifying P modified (row ∷ rows) m h = (go (row_at row.key modified) (found_every P row.key modified m), every-modifying P modified rows m h.1)
  where
    go : (o : Option PlainRow) → IfSome o P → P (unwrap_or o row)
    go None k = h.0
    go (Some other) k = k

-- keys put among others are the keys of rows put among others
keys-insert_row : (row : PlainRow) (rows : List PlainRow) → keys (insert_row row rows) ≡ put_key row.key (keys rows)
keys-insert_row row [] = refl
keys-insert_row row (other ∷ others) =
    elim (ltb row.key other.key) as (λ b. keys (cond b (row ∷ other ∷ others) (other ∷ insert_row row others)) ≡ cond b (row.key ∷ other.key ∷ keys others) (other.key ∷ put_key row.key (keys others))) [
      | true ↦ refl
      | false ↦ ap (λ ks. other.key ∷ ks) (keys-insert_row row others)
    ]

keys-adding : (added rows : List PlainRow) → keys (adding added rows) ≡ put_keys (keys added) (keys rows)
keys-adding [] rows = refl
keys-adding (row ∷ added) rows = keys-insert_row row (adding added rows) ∙ ap (put_key row.key) (keys-adding added rows)

every-put_key : (P : ℕ → Type 0) (key : ℕ) (ks : List ℕ) → P key → AllByRecursion P ks → AllByRecursion P (put_key key ks)
every-put_key P key [] p h = (p, tt)
every-put_key P key (other ∷ others) p h =
    elim (ltb key other) as (λ b. AllByRecursion P (cond b (key ∷ other ∷ others) (other ∷ put_key key others))) [ true ↦ (p, h) | false ↦ (h.0, every-put_key P key others p h.1) ]

pub every-put_keys : (P : ℕ → Type 0) (added ks : List ℕ) → AllByRecursion P added → AllByRecursion P ks → AllByRecursion P (put_keys added ks)
every-put_keys P [] ks a h = h
every-put_keys P (key ∷ added) ks a h = every-put_key P key (put_keys added ks) a.0 (every-put_keys P added ks a.1 h)

rising-put_key : (key : ℕ) (ks : List ℕ) → IsRising ks → is_among key ks ≡ false → IsRising (put_key key ks)
rising-put_key key [] r a = (tt, tt)
rising-put_key key (other ∷ others) r a =
    (elim (ltb key other) as (λ b. ltb key other ≡ b → IsRising (cond b (key ∷ other ∷ others) (other ∷ put_key key others))) [
      | true ↦ λ e. let less : key < other = ltb-true key other e in ((less, every_weaker (λ k. other < k) (λ k. key < k) others (λ k h. omega (arith, less, h)) r.0), r)
      | false ↦ λ e.
          let apart : ((other == key) ≡ false) × (is_among key others ≡ false) = or_parts _ _ a in
          let more : other < key = omega (arith, ltb-false key other e, eqb-false other key apart.0) in
          (every-put_key (λ k. other < k) key others more r.0, rising-put_key key others r.1 apart.1)
    ]) refl

among-put_key : (key other : ℕ) (ks : List ℕ) → is_among key (put_key other ks) ≡ ((other == key) || is_among key ks)
among-put_key key other [] = refl
among-put_key key other (first ∷ ks) =
    elim (ltb other first) as (λ b. is_among key (cond b (other ∷ first ∷ ks) (first ∷ put_key other ks)) ≡ ((other == key) || is_among key (first ∷ ks))) [
      | true ↦ refl
      | false ↦ ap (λ b. (first == key) || b) (among-put_key key other ks) ∙ or_swap (first == key) (other == key) (is_among key ks)
    ]

pub among-put_keys : (key : ℕ) (added ks : List ℕ) → is_among key (put_keys added ks) ≡ (is_among key added || is_among key ks)
among-put_keys key [] ks = refl
among-put_keys key (first ∷ added) ks = among-put_key key first (put_keys added ks) ∙ ap (λ b. (first == key) || b) (among-put_keys key added ks) ∙ or_assoc (first == key) (is_among key added) (is_among key ks)

rising-put_keys : (added ks : List ℕ) → IsRising added → IsRising ks → AllByRecursion (λ k. is_among k ks ≡ false) added → IsRising (put_keys added ks)
rising-put_keys [] ks r s h = s
rising-put_keys (key ∷ added) ks r s h =
    rising-put_key key (put_keys added ks) (rising-put_keys added ks r.1 s h.1)
    (among-put_keys key added ks ∙ or_from (is_among key added) (is_among key ks) (among_below key added r.0) h.0)

-- the rules that an update keeps where it breaks none: its shift is lawful, and its added keys are no other's
module _ (limit : ℕ) (old : List ℕ) (update : Update) (h : IsChecked limit old update) where
  abbrev survivors : List ℕ
  survivors = without update.removed old

  abbrev moved_keys : List ℕ
  moved_keys = landed update.shifted survivors

  rules : (shift_fault limit update.shifted survivors ≡ None) × (find (λ key. is_among key moved_keys) update.added ≡ None) × (find (λ key. is_among key update.added) update.modified ≡ None)
  rules =
      let after_removed = (none_parts (option_map RemovedAbsent _) _ h.breaks_none).1 in
      let after_shifts = none_parts (shift_fault limit update.shifted survivors) _ after_removed in
      let after_added = none_parts (option_map AddedTaken (find (λ key. is_among key moved_keys) update.added)) _ after_shifts.1 in
      let after_modified = none_parts (option_map ModifiedAbsent _) (option_map ModifiedAdded (find (λ key. is_among key update.added) update.modified)) after_added.1 in
      (after_shifts.0, map_none AddedTaken _ after_added.0, map_none ModifiedAdded _ after_modified.1)

  pub lawful_shift : AllByRecursion (λ k. k < limit) moved_keys × IsRising moved_keys
  lawful_shift = shift_lawful limit update.shifted survivors rules.0

  pub keys_after-rise : IsRising (keys_after old update)
  keys_after-rise = rising-put_keys update.added moved_keys h.added_rise lawful_shift.1 (none_pass (λ key. is_among key moved_keys) update.added rules.1)

  pub keys_after-below : (bound : ℕ) → limit ≤ bound → AllByRecursion (λ key. key < bound) update.added → AllByRecursion (λ key. key < bound) (keys_after old update)
  keys_after-below bound room below = every-put_keys (λ key. key < bound) update.added moved_keys below (every_weaker (λ k. k < limit) (λ k. k < bound) moved_keys (λ k less. omega (arith, less, room)) lawful_shift.0)

  pub modified_not_added : AllByRecursion (λ key. is_among key update.added ≡ false) update.modified
  modified_not_added = none_pass (λ key. is_among key update.added) update.modified rules.2

-- what a checked update makes of a table, from the rows under the keys that it tells
module _ (limit : ℕ) (table : PlainTable) (update : Update) (cells : List PlainRow) (h : IsChecked limit (keys table.rows) update) (told : keys cells ≡ told_keys update) where
  abbrev stays : PlainRow → Bool
  stays row = not (is_among row.key update.removed)

  abbrev stay : List PlainRow
  stay = shifting update.shifted (removing update.removed table.rows)

  abbrev together : List PlainRow
  together = adding (rows_at update.added cells) stay

  abbrev new_key : ℕ → ℕ
  new_key key = as_key (moved update.shifted key)

  survivors_are : without update.removed (keys table.rows) ≡ keys (filter stays table.rows)
  survivors_are = filter-map (λ key. not (is_among key update.removed)) (λ (row : PlainRow). row.key) table.rows

  pub keys-stay : keys stay ≡ landed update.shifted (without update.removed (keys table.rows))
  keys-stay =
      map_map (λ (row : PlainRow). row.key) (moved_row update.shifted) (filter stays table.rows)
      ∙ sym (map_map new_key (λ (row : PlainRow). row.key) (filter stays table.rows))
      ∙ ap (map new_key) (sym survivors_are)

  keys_added : keys (rows_at update.added cells) ≡ update.added
  keys_added =
      sym (filter-map (λ key. is_among key update.added) (λ (row : PlainRow). row.key) cells)
      ∙ ap (filter (λ key. is_among key update.added)) told
      ∙ first_of_two update.added update.modified (modified_not_added limit (keys table.rows) update h)

  keys_together : keys together ≡ keys_after (keys table.rows) update
  keys_together = keys-adding (rows_at update.added cells) stay ∙ ap₂ put_keys keys_added keys-stay

  pub keys-carry : keys (carry table update cells).rows ≡ keys_after (keys table.rows) update
  keys-carry = keys-modifying (rows_at update.modified cells) together ∙ keys_together

  -- what holds of the cells of all rows, old ones and told ones, holds of those of the new table
  pub cells-carry : (P : List ℤ → Type 0) → AllByRecursion (λ row. P row.cells) table.rows → AllByRecursion (λ row. P row.cells) cells → AllByRecursion (λ row. P row.cells) (carry table update cells).rows
  cells-carry P old_rows told_rows =
      every-modifying (λ row. P row.cells) (rows_at update.modified cells) together (every-filter (λ row. P row.cells) (λ row. is_among row.key update.modified) cells told_rows)
      (every-adding (λ row. P row.cells) (rows_at update.added cells) stay (every-filter (λ row. P row.cells) (λ row. is_among row.key update.added) cells told_rows)
      (every-map (λ row. P row.cells) (moved_row update.shifted) (filter stays table.rows) (every-filter (λ row. P row.cells) stays table.rows old_rows)))

  module _ (room : limit ≤ 2 ^ 62) (is_table : IsTable table) (told_rows : AllByRecursion (IsRow table.width) cells) where
    added_below : AllByRecursion (λ key. key < 2 ^ 62) update.added
    added_below =
        subst (AllByRecursion (λ key. key < 2 ^ 62)) keys_added
        (every-map (λ key. key < 2 ^ 62) (λ (row : PlainRow). row.key) (rows_at update.added cells)
        (every_weaker (IsRow table.width) (λ (row : PlainRow). row.key < 2 ^ 62) (rows_at update.added cells) (λ row r. r.key) (every-filter (IsRow table.width) (λ row. is_among row.key update.added) cells told_rows)))

    -- the table after the update is a table
    pub table-carry : IsTable (carry table update cells)
    table-carry = record {
      rows = every_both (λ (row : PlainRow). row.key < 2 ^ 62) (λ (row : PlainRow). length row.cells ≡ table.width) (IsRow table.width) (carry table update cells).rows
          (λ row k w. record { key = k; whole = w })
          (every_unmapped (λ k. k < 2 ^ 62) (λ (row : PlainRow). row.key) (carry table update cells).rows (subst (AllByRecursion (λ k. k < 2 ^ 62)) (sym keys-carry) (keys_after-below limit (keys table.rows) update h (2 ^ 62) room added_below)))
          (cells-carry (λ cells. length cells ≡ table.width) (every_weaker (IsRow table.width) (λ row. length row.cells ≡ table.width) table.rows (λ row r. r.whole) is_table.rows) (every_weaker (IsRow table.width) (λ row. length row.cells ≡ table.width) cells (λ row r. r.whole) told_rows));
      rising = subst IsRising (sym keys-carry) (keys_after-rise limit (keys table.rows) update h);
    }

    -- and the pairs that the update keeps are those of a tick
    pub tick-carry : IsTick (carried_tick table update cells)
    tick-carry = record {
      old_table = is_table;
      new_table = table-carry;
      one_width = refl;
      of_old = subst (AllByRecursion (λ k. is_among k (keys table.rows) ≡ true)) (sym olds) (every-filter (λ k. is_among k (keys table.rows) ≡ true) (λ key. not (is_among key update.removed)) (keys table.rows) (each_among (keys table.rows)));
      of_new = subst (AllByRecursion (λ k. is_among k (keys (carry table update cells).rows) ≡ true)) (sym news)
          (subst (λ ks. AllByRecursion (λ k. is_among k ks ≡ true) moves) (sym keys-carry)
          (every_weaker (λ k. is_among k moves ≡ true) (λ k. is_among k (keys_after (keys table.rows) update) ≡ true) moves
          (λ k e. among-put_keys k update.added moves ∙ or_right (is_among k update.added) (is_among k moves) e) (each_among moves)));
      rising_old = subst IsRising (sym olds) (subst IsRising (sym survivors_are) (rising-filter (λ (row : PlainRow). row.key) stays table.rows is_table.rising));
      rising_new = subst IsRising (sym news) (lawful_shift limit (keys table.rows) update h).1;
    }
      where
        moves : List ℕ
        moves = landed update.shifted (without update.removed (keys table.rows))

        olds : map (λ (p : KeyPair). p.old) (pairs table update) ≡ without update.removed (keys table.rows)
        olds = map_map (λ (p : KeyPair). p.old) (kept_pair update) (without update.removed (keys table.rows)) ∙ map-id (without update.removed (keys table.rows))

        news : map (λ (p : KeyPair). p.new) (pairs table update) ≡ moves
        news = map_map (λ (p : KeyPair). p.new) (kept_pair update) (without update.removed (keys table.rows))
