-- The rule that a block breaks, and its record.
use Rattle.std.proofs.Common.{◌≡◌, refl, ap, ap₂, sym, ◌∙◌, subst, Option, Bool, true, false, cond, not, ◌==◌, ℕ, suc, ◌+◌, ◌-◌, ◌<◌, ◌≤◌, ◌^◌, arith, List, [], ◌∷◌, ◌++◌, length, pos, ◌+ℤ◌, Some, None, true≢false, ltb, leb, unwrap_or, inl, inr, ◌⊎◌}
use Rattle.std.{specs.Prelude.{find, option_map, flat_map, IfSome, int_le, int_lt}, specs.List.{AllByRecursion, position_or_len}, specs.Option.option_or, proofs.lemmas.Bool.{eq-eqb, le-leb, lt-leb, ltb-true, ltb-false, and_from, or_from, cases_lt}, proofs.lemmas.Int.ints}
use Rattle.key_lists.{specs.Keys.{is_among, IsRising, without}, proofs.Every.{every_weaker, every-filter, every-append}, proofs.Rising.rising_some, proofs.Ranges.each_from}
use Rattle.tick_laws.{specs.Checked.{IsChecked, keys_after}, proofs.Blocks.block_told, proofs.CheckedUpdates.keys-carry}
use Rattle.tick_model.{specs.declared.feed.Block.Block, specs.declared.table.PlainRow.PlainRow, specs.declared.table.PlainTable.PlainTable, specs.declared.update.FeedRule.FeedRule, specs.declared.update.FeedRule.TheVariants.{Update as ByUpdate, TooManyRows}, specs.declared.update.KeyRange.KeyRange, specs.declared.update.ShiftRange.ShiftRange, specs.declared.update.UpdateFault.UpdateFault, specs.declared.update.UpdateFault.TheVariants.{RemovedAbsent, ShiftBreaks, AddedTaken, ModifiedAbsent, ModifiedAdded, Memory}, specs.Rules.{is_past, landed, shift_fault, shift_fault_after, update_fault}, specs.Shifts.{delta_at, holds, moved}, specs.Sources.{added_record, block_fault, carried, is_within, keys_within, modified_record, record_of, removed_record, too_many, update_of}, specs.Tables.keys}
use Rattle.tick_table.proofs.TableColumns.{length-mapped}
use Rattle.source_changes.{specs.Blocks.IsReadable, specs.Faults.{IsKeysBelow, keys_fault}}

-- the rule that a block breaks on a table is the one that its update breaks on the table's keys
pub block_keys_fault : (table : PlainTable) (block : Block) → IsRising (keys block.added) → keys_fault (keys table.rows) (update_of block) ≡ block_fault table block
block_keys_fault table block rise = go (update_fault (2 ^ 40) (keys table.rows) (update_of block)) refl
  where
    count_is : update_fault (2 ^ 40) (keys table.rows) (update_of block) ≡ None → length (keys_after (keys table.rows) (update_of block)) ≡ length (carried table block).rows
    count_is e =
        let checked : IsChecked (2 ^ 40) (keys table.rows) (update_of block) = record { breaks_none = e; added_rise = rise } in
        ap length (sym (keys-carry (2 ^ 40) table (update_of block) (block.added ++ block.modified) checked (block_told block)))
        ∙ length-mapped (λ (row : PlainRow). row.key) (carried table block).rows

    go : (o : Option UpdateFault) → update_fault (2 ^ 40) (keys table.rows) (update_of block) ≡ o → keys_fault (keys table.rows) (update_of block) ≡ block_fault table block
    go (Some fault) e =
        ap (λ o. option_or (option_map ByUpdate o) (too_many (length (keys_after (keys table.rows) (update_of block))))) e
        ∙ sym (ap (λ o. option_or (option_map ByUpdate o) (too_many (length (carried table block).rows))) e)
    go None e = ap (λ n. option_or (option_map ByUpdate (update_fault (2 ^ 40) (keys table.rows) (update_of block))) (too_many n)) (count_is e)

-- what holds of each of two faults, and of each key that is found
some_or : {X : Type 0} (P : X → Type 0) (a b : Option X) → IfSome a P → IfSome b P → IfSome (option_or a b) P
some_or P None b p q = q
some_or P (Some x) b p q = p

some_map : {X Y : Type 0} (P : Y → Type 0) (f : X → Y) (o : Option X) → IfSome o (λ x. P (f x)) → IfSome (option_map f o) P
some_map P f None p = p
some_map P f (Some x) p = p

some_found : (P : ℕ → Type 0) (t : ℕ → Bool) (xs : List ℕ) → AllByRecursion P xs → IfSome (find t xs) P
some_found P t [] h = tt
some_found P t (x ∷ xs) h = elim (t x) as (λ b. IfSome (cond b (Some x) (find t xs)) P) [ true ↦ h.0 | false ↦ some_found P t xs h.1 ]

-- the first place that passes is there where one passes
at_first : {X : Type 0} (p : X → Bool) (x : X) (xs : List X) → p x ≡ true → position_or_len p (x ∷ xs) < length (x ∷ xs)
at_first p x xs e = subst (λ b. cond (not b) (1 + position_or_len p xs) 0 < suc (length xs)) (sym e) (omega arith)

behind : {X : Type 0} (p : X → Bool) (x : X) (xs : List X) → position_or_len p xs < length xs → position_or_len p (x ∷ xs) < length (x ∷ xs)
behind p x xs less = elim (p x) as (λ b. cond (not b) (1 + position_or_len p xs) 0 < suc (length xs)) [ true ↦ omega arith | false ↦ omega (arith, less) ]

places_of_rows : (rows : List PlainRow) → AllByRecursion (λ key. position_or_len (λ (row : PlainRow). row.key == key) rows < length rows) (keys rows)
places_of_rows [] = tt
places_of_rows (row ∷ rows) = (
  at_first (λ (other : PlainRow). other.key == row.key) row rows (eq-eqb row.key row.key refl),
  every_weaker (λ key. position_or_len (λ (row : PlainRow). row.key == key) rows < length rows) (λ key. position_or_len (λ (row : PlainRow). row.key == key) (row ∷ rows) < length (row ∷ rows)) (keys rows)
      (λ key less. behind (λ (other : PlainRow). other.key == key) row rows less) (places_of_rows rows),
)

places_of_ranges : (ranges : List KeyRange) → AllByRecursion (λ key. position_or_len (λ (range : KeyRange). is_within range key) ranges < length ranges) (flat_map keys_within ranges)
places_of_ranges [] = tt
places_of_ranges (range ∷ ranges) =
    every-append (λ key. position_or_len (λ (range : KeyRange). is_within range key) (range ∷ ranges) < length (range ∷ ranges)) (keys_within range) (flat_map keys_within ranges)
    (each_from (λ key. position_or_len (λ (range : KeyRange). is_within range key) (range ∷ ranges) < length (range ∷ ranges)) range.first (range.last + 1 - range.first)
    (λ key low high. at_first (λ (other : KeyRange). is_within other key) range ranges (and_from _ _ (le-leb range.first key low) (le-leb key range.last (omega (arith, low, high))))))
    (every_weaker (λ key. position_or_len (λ (range : KeyRange). is_within range key) ranges < length ranges) (λ key. position_or_len (λ (range : KeyRange). is_within range key) (range ∷ ranges) < length (range ∷ ranges)) (flat_map keys_within ranges)
    (λ key less. behind (λ (other : KeyRange). is_within other key) range ranges less) (places_of_ranges ranges))

-- a key that no range of a shift holds stays
unheld : (shifts : List ShiftRange) (key : ℕ) → length shifts ≤ position_or_len (λ (range : ShiftRange). holds range key) shifts → delta_at shifts key ≡ pos 0
unheld [] key h = refl
unheld (range ∷ shifts) key h = go (holds range key) refl (unheld shifts key)
  where
    first : (b : Bool) → holds range key ≡ b → suc (length shifts) ≤ cond (not b) (1 + position_or_len (λ (range : ShiftRange). holds range key) shifts) 0
    first b e = subst (λ t. suc (length shifts) ≤ cond (not t) (1 + position_or_len (λ (range : ShiftRange). holds range key) shifts) 0) e h

    go : (b : Bool) → holds range key ≡ b → (length shifts ≤ position_or_len (λ (range : ShiftRange). holds range key) shifts → delta_at shifts key ≡ pos 0) → delta_at (range ∷ shifts) key ≡ pos 0
    go true e rest = let no : suc (length shifts) ≤ 0 = first true e in absurd (omega (arith, no))
    go false e rest =
        let no : suc (length shifts) ≤ 1 + position_or_len (λ (range : ShiftRange). holds range key) shifts = first false e in
        ap (λ t. unwrap_or (option_map (λ (range : ShiftRange). range.delta) (cond t (Some range) (find (λ range. holds range key) shifts))) (pos 0)) e ∙ rest (omega (arith, no))

stays_put : (shifts : List ShiftRange) (key : ℕ) → length shifts ≤ position_or_len (λ (range : ShiftRange). holds range key) shifts → moved shifts key ≡ pos key
stays_put shifts key h = let same : pos key +ℤ pos 0 ≡ pos key = omega (arith, ints) in ap (λ d. pos key +ℤ d) (unheld shifts key h) ∙ same

module _ (shifts : List ShiftRange) where
  abbrev place_of : ℕ → ℕ
  place_of key = position_or_len (λ (range : ShiftRange). holds range key) shifts

  -- one of the two keys that show that a shift breaks the order is in a range
  abbrev IsHeld : UpdateFault → Type 0
  IsHeld (ShiftBreaks first second) = (place_of second < length shifts) ⊎ (place_of first < length shifts)
  IsHeld _ = ⊥

  past_held : (limit key : ℕ) → key < limit → is_past limit (moved shifts key) ≡ true → place_of key < length shifts
  past_held limit key below e =
      elim (cases_lt (place_of key) (length shifts)) [
        | inl less ↦ less
        | inr most ↦ absurd (true≢false (sym e ∙ ap (is_past limit) (stays_put shifts key most) ∙ or_from (int_lt (pos key) (pos 0)) (leb limit key) (lt-leb (suc key) 0 (omega arith)) (lt-leb limit key below)))
      ]

  order_held : (before key : ℕ) → before < key → int_le (moved shifts key) (moved shifts before) ≡ true → (place_of key < length shifts) ⊎ (place_of before < length shifts)
  order_held before key less e =
      elim (cases_lt (place_of key) (length shifts)) [
        | inl here ↦ inl here
        | inr most ↦ elim (cases_lt (place_of before) (length shifts)) [
          | inl here ↦ inr here
          | inr both ↦ absurd (true≢false (sym e ∙ ap₂ int_le (stays_put shifts key most) (stays_put shifts before both) ∙ lt-leb key before less))
        ]
      ]

  abbrev IsAfter : Option ℕ → List ℕ → Type 0
  IsAfter None ks = Unit {0}
  IsAfter (Some before) ks = AllByRecursion (λ key. before < key) ks

  breaks_held : (limit : ℕ) (before : Option ℕ) (ks : List ℕ) → AllByRecursion (λ key. key < limit) ks → IsRising ks → IsAfter before ks → IfSome (shift_fault_after limit shifts before ks) IsHeld
  breaks_held limit None [] below rise after = tt
  breaks_held limit (Some before) [] below rise after = tt
  breaks_held limit None (key ∷ ks) below rise after =
      first (is_past limit (moved shifts key)) refl (breaks_held limit (Some key) ks below.1 rise.1 rise.0)
    where
      first : (b : Bool) → is_past limit (moved shifts key) ≡ b → IfSome (shift_fault_after limit shifts (Some key) ks) IsHeld → IfSome (cond b (Some (ShiftBreaks key key)) (shift_fault_after limit shifts (Some key) ks)) IsHeld
      first true e rest = inl (past_held limit key below.0 e)
      first false e rest = rest
  breaks_held limit (Some before) (key ∷ ks) below rise after =
      first (is_past limit (moved shifts key)) refl (int_le (moved shifts key) (moved shifts before)) refl (breaks_held limit (Some key) ks below.1 rise.1 rise.0)
    where
      first : (b : Bool) → is_past limit (moved shifts key) ≡ b → (c : Bool) → int_le (moved shifts key) (moved shifts before) ≡ c → IfSome (shift_fault_after limit shifts (Some key) ks) IsHeld
          → IfSome (cond b (Some (ShiftBreaks key key)) (cond c (Some (ShiftBreaks before key)) (shift_fault_after limit shifts (Some key) ks))) IsHeld
      first true e c f rest = inl (past_held limit key below.0 e)
      first false e true f rest = order_held before key after.0 f
      first false e false f rest = rest

module _ (block : Block) (r : IsReadable block) where
  abbrev IsSmall : UpdateFault → Type 0
  IsSmall fault = record_of block (ByUpdate fault) < 2 ^ 64

  room : block.number + (length block.removed + length block.shifts + length block.added + length block.modified) < 2 ^ 64
  room = r.records

  small_removed : AllByRecursion (λ key. IsSmall (RemovedAbsent key)) (flat_map keys_within block.removed)
  small_removed = every_weaker (λ key. position_or_len (λ (range : KeyRange). is_within range key) block.removed < length block.removed) (λ key. removed_record block key < 2 ^ 64) (flat_map keys_within block.removed) (λ key less. omega (arith, less, room)) (places_of_ranges block.removed)

  small_added : AllByRecursion (λ key. IsSmall (AddedTaken key)) (keys block.added)
  small_added = every_weaker (λ key. position_or_len (λ (row : PlainRow). row.key == key) block.added < length block.added) (λ key. added_record block key < 2 ^ 64) (keys block.added) (λ key less. omega (arith, less, room)) (places_of_rows block.added)

  small_modified : AllByRecursion (λ key. modified_record block key < 2 ^ 64) (keys block.modified)
  small_modified = every_weaker (λ key. position_or_len (λ (row : PlainRow). row.key == key) block.modified < length block.modified) (λ key. modified_record block key < 2 ^ 64) (keys block.modified) (λ key less. omega (arith, less, room)) (places_of_rows block.modified)

  held_small : (fault : UpdateFault) → IsHeld block.shifts fault → IsSmall fault
  held_small (ShiftBreaks first second) h = go (ltb (place_of block.shifts second) (length block.shifts)) refl
    where
      go : (b : Bool) → ltb (place_of block.shifts second) (length block.shifts) ≡ b → block.number + 1 + length block.removed + cond b (place_of block.shifts second) (place_of block.shifts first) < 2 ^ 64
      go true e = let less = ltb-true (place_of block.shifts second) (length block.shifts) e in omega (arith, less, room)
      go false e =
          let most = ltb-false (place_of block.shifts second) (length block.shifts) e in
          elim h [ inl less ↦ absurd (omega (arith, less, most)) | inr less ↦ omega (arith, less, room) ]
  held_small (RemovedAbsent key) h = absurd h
  held_small (AddedTaken key) h = absurd h
  held_small (ModifiedAbsent key) h = absurd h
  held_small (ModifiedAdded key) h = absurd h
  held_small Memory h = absurd h

  some_weaker : (P Q : UpdateFault → Type 0) (o : Option UpdateFault) → ((fault : UpdateFault) → P fault → Q fault) → IfSome o P → IfSome o Q
  some_weaker P Q None f h = tt
  some_weaker P Q (Some fault) f h = f fault h

  small_update : (old : List ℕ) → IsKeysBelow (2 ^ 40) old → IfSome (update_fault (2 ^ 40) old (update_of block)) IsSmall
  small_update old k =
      some_or IsSmall (option_map RemovedAbsent (find absent removed)) _ (some_map IsSmall RemovedAbsent (find absent removed) (some_found (λ key. IsSmall (RemovedAbsent key)) absent removed small_removed))
      (some_or IsSmall (shift_fault (2 ^ 40) block.shifts survivors) _
      (some_weaker (IsHeld block.shifts) IsSmall (shift_fault (2 ^ 40) block.shifts survivors) held_small
      (breaks_held block.shifts (2 ^ 40) None survivors (every-filter (λ key. key < 2 ^ 40) (λ key. not (is_among key removed)) old k.below) (rising_some (λ key. not (is_among key removed)) old k.rising) tt))
      (some_or IsSmall (option_map AddedTaken (find taken (keys block.added))) _ (some_map IsSmall AddedTaken (find taken (keys block.added)) (some_found (λ key. IsSmall (AddedTaken key)) taken (keys block.added) small_added))
      (some_or IsSmall (option_map ModifiedAbsent (find untaken (keys block.modified))) (option_map ModifiedAdded (find new (keys block.modified)))
      (some_map IsSmall ModifiedAbsent (find untaken (keys block.modified)) (some_found (λ key. IsSmall (ModifiedAbsent key)) untaken (keys block.modified) small_modified))
      (some_map IsSmall ModifiedAdded (find new (keys block.modified)) (some_found (λ key. IsSmall (ModifiedAdded key)) new (keys block.modified) small_modified)))))
    where
      removed : List ℕ
      removed = flat_map keys_within block.removed

      survivors : List ℕ
      survivors = without removed old

      absent : ℕ → Bool
      absent key = not (is_among key old)

      taken : ℕ → Bool
      taken key = is_among key (landed block.shifts survivors)

      untaken : ℕ → Bool
      untaken key = not (is_among key (landed block.shifts survivors ++ keys block.added))

      new : ℕ → Bool
      new key = is_among key (keys block.added)

  small_many : (rows : ℕ) → IfSome (too_many rows) (λ rule. record_of block rule < 2 ^ 64)
  small_many rows = elim (ltb 4194304 rows) as (λ b. IfSome (cond b (Some (TooManyRows rows)) None) (λ rule. record_of block rule < 2 ^ 64)) [ true ↦ omega (arith, room) | false ↦ tt ]

  -- the record of each rule that the block may break is a number of 64 bits
  pub record_small : (old : List ℕ) (rule : FeedRule) → IsKeysBelow (2 ^ 40) old → keys_fault old (update_of block) ≡ Some rule → record_of block rule < 2 ^ 64
  record_small old rule k e =
      let all = some_or (λ rule. record_of block rule < 2 ^ 64) (option_map ByUpdate (update_fault (2 ^ 40) old (update_of block))) (too_many (length (keys_after old (update_of block))))
      (some_map (λ rule. record_of block rule < 2 ^ 64) ByUpdate (update_fault (2 ^ 40) old (update_of block)) (small_update old k))
      (small_many (length (keys_after old (update_of block)))) in
      subst (λ o. IfSome o (λ rule. record_of block rule < 2 ^ 64)) e all
