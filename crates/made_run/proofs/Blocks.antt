-- The block of a step breaks no rule, and leaves its rows under keys in a row.
use Rattle.std.proofs.Common.{◌≡◌, refl, ap, ap₂, sym, ◌∙◌, subst, ℕ, zero, suc, ◌+◌, ◌-◌, ◌*◌, ◌%◌, ◌^◌, ◌==◌, ◌<◌, ◌≤◌, arith, Bool, true, false, cond, not, ◌||◌, List, [], ◌∷◌, ◌++◌, map, length, Some, None, pos, ltb, lit≤}
use Rattle.std.{specs.Prelude.{find, option_map}, specs.List.{AllByRecursion, range_with_len}, specs.Option.option_or, proofs.lemmas.Bool.{cond-false, le-ltb, or_left}, proofs.lemmas.List.length-map, proofs.lemmas.List.FromFn.length-range_with_len}
use Rattle.key_lists.{specs.Keys.{is_among, IsRising, without}, proofs.Among.among-append, proofs.Every.{every_weaker, find_none}, proofs.Ranges.{among_range, each_from}}
use Rattle.tick_model.{specs.declared.feed.Block.Block, specs.declared.table.PlainRow.PlainRow, specs.declared.table.PlainTable.PlainTable, specs.declared.update.FeedRule.TheVariants.{Update as ByUpdate, TooManyRows}, specs.declared.update.UpdateFault.TheVariants.{RemovedAbsent, AddedTaken, ModifiedAbsent, ModifiedAdded}, specs.Rules.{landed, shift_fault, update_fault}, specs.Shifts.moved, specs.Sources.{block_fault, carried, too_many, update_of}, specs.Tables.keys, specs.Updates.Update}
use Rattle.tick_laws.{specs.Checked.{IsChecked, keys_after, put_keys}, proofs.Blocks.block_told, proofs.CheckedUpdates.keys-carry, proofs.LawfulSources.rising_range}
use Rattle.made_run.{specs.Draws.{draw, after, drawn_row, drawn_rows}, specs.Steps.{block_of, removes, survivors}, proofs.Drawn.{draw-below, keys-drawn}, proofs.Numbers.{among_none_before, not_among_row, put_row, row_without, without_none}, proofs.Searches.{mapped_none, or_none}, proofs.Shifts.{landed_row, moved_up, no_shift_fault, unmoved, up_by_ten}}

-- an update of rows under keys in a row, which removes the first of them, moves the others into their place, adds more behind them and
-- modifies some
record IsInRow (old : List ℕ) (update : Update) (gone staying more : ℕ) : Type 0 where
  there : AllByRecursion (λ key. is_among key old ≡ true) update.removed
  left : without update.removed old ≡ range_with_len gone staying
  moves : (key : ℕ) → gone ≤ key → key < gone + staying → moved update.shifted key ≡ pos (key - gone)
  added : update.added ≡ range_with_len staying more
  modified : AllByRecursion (λ key. key < staying) update.modified
  room : gone + staying + more ≤ 4194304

module _ (old : List ℕ) (update : Update) (gone staying more : ℕ) (is : IsInRow old update gone staying more) where
  abbrev left : List ℕ
  left = without update.removed old

  landed_left : landed update.shifted left ≡ range_with_len 0 staying
  landed_left =
      let room : gone + staying + more ≤ 4194304 = is.room in
      let none : gone - gone ≡ 0 = omega arith in
      ap (landed update.shifted) is.left
      ∙ landed_row (2 ^ 40) update.shifted gone gone (gone + staying) (omega arith) (omega (arith, room)) is.moves gone staying (omega arith) (omega arith)
      ∙ ap (λ k. range_with_len k staying) none

  no_absent : find (λ key. not (is_among key old)) update.removed ≡ None
  no_absent = find_none (λ key. not (is_among key old)) update.removed (every_weaker (λ key. is_among key old ≡ true) (λ key. not (is_among key old) ≡ false) update.removed (λ key among. ap not among) is.there)

  no_shift : shift_fault (2 ^ 40) update.shifted left ≡ None
  no_shift =
      let room : gone + staying + more ≤ 4194304 = is.room in
      ap (shift_fault (2 ^ 40) update.shifted) is.left
      ∙ no_shift_fault (2 ^ 40) update.shifted gone gone (gone + staying) (omega arith) (omega (arith, room)) is.moves gone staying (omega arith) (omega arith)

  no_taken : find (λ key. is_among key (landed update.shifted left)) update.added ≡ None
  no_taken =
      ap₂ (λ keys added. find (λ key. is_among key keys) added) landed_left is.added
      ∙ find_none (λ key. is_among key (range_with_len 0 staying)) (range_with_len staying more)
      (each_from (λ key. is_among key (range_with_len 0 staying) ≡ false) staying more (λ key low high. among_none_before key 0 staying (omega (arith, low))))

  no_modified_absent : find (λ key. not (is_among key (landed update.shifted left ++ update.added))) update.modified ≡ None
  no_modified_absent =
      find_none (λ key. not (is_among key (landed update.shifted left ++ update.added))) update.modified
      (every_weaker (λ key. key < staying) (λ key. not (is_among key (landed update.shifted left ++ update.added)) ≡ false) update.modified
      (λ key less. ap not (
      among-append key (landed update.shifted left) update.added
      ∙ or_left (is_among key (landed update.shifted left)) (is_among key update.added) (ap (is_among key) landed_left ∙ among_range key 0 staying (omega arith) (omega (arith, less)))))
      is.modified)

  no_modified_added : find (λ key. is_among key update.added) update.modified ≡ None
  no_modified_added =
      find_none (λ key. is_among key update.added) update.modified
      (every_weaker (λ key. key < staying) (λ key. is_among key update.added ≡ false) update.modified (λ key less. ap (is_among key) is.added ∙ not_among_row key staying more less) is.modified)

  no_update_fault : update_fault (2 ^ 40) old update ≡ None
  no_update_fault =
      or_none (option_map RemovedAbsent (find (λ key. not (is_among key old)) update.removed)) _ (mapped_none RemovedAbsent _ no_absent)
      (or_none (shift_fault (2 ^ 40) update.shifted left) _ no_shift
      (or_none (option_map AddedTaken (find (λ key. is_among key (landed update.shifted left)) update.added)) _ (mapped_none AddedTaken _ no_taken)
      (or_none (option_map ModifiedAbsent (find (λ key. not (is_among key (landed update.shifted left ++ update.added))) update.modified)) _ (mapped_none ModifiedAbsent _ no_modified_absent)
      (mapped_none ModifiedAdded _ no_modified_added))))

  checked : IsChecked (2 ^ 40) old update
  checked = record { breaks_none = no_update_fault; added_rise = subst IsRising (sym is.added) (rising_range staying more).1 }

  keys_left : keys_after old update ≡ range_with_len 0 (staying + more)
  keys_left = ap₂ put_keys is.added landed_left ∙ put_row staying more

-- what such a block does to a table
pub record Leaves (table : PlainTable) (block : Block) (rows : ℕ) : Type 0 where
  pub fault : block_fault table block ≡ None
  pub keys_are : keys (carried table block).rows ≡ range_with_len 0 rows

in_row_leaves : (table : PlainTable) (block : Block) (gone staying more : ℕ) → IsInRow (keys table.rows) (update_of block) gone staying more → Leaves table block (staying + more)
in_row_leaves table block gone staying more is = record {
  fault = or_none (option_map ByUpdate (update_fault (2 ^ 40) (keys table.rows) (update_of block))) (too_many (length (carried table block).rows))
      (mapped_none ByUpdate (update_fault (2 ^ 40) (keys table.rows) (update_of block)) (no_update_fault (keys table.rows) (update_of block) gone staying more is))
      (few (length (carried table block).rows) count);
  keys_are = keys_are;
}
  where
    keys_are : keys (carried table block).rows ≡ range_with_len 0 (staying + more)
    keys_are =
        keys-carry (2 ^ 40) table (update_of block) (block.added ++ block.modified) (checked (keys table.rows) (update_of block) gone staying more is) (block_told block)
        ∙ keys_left (keys table.rows) (update_of block) gone staying more is

    count : length (carried table block).rows ≡ staying + more
    count = sym (length-map (carried table block).rows (λ (row : PlainRow). row.key)) ∙ ap length keys_are ∙ length-range_with_len 0 (staying + more)

    few : (rows : ℕ) → rows ≡ staying + more → too_many rows ≡ None
    few rows same = let room = is.room in cond-false (ltb 4194304 rows) (Some (TooManyRows rows)) None (le-ltb 4194304 rows (omega (arith, same, room)))

-- the block of a step, by whether it removes and whether it modifies
abbrev staying_by : Bool → ℕ → ℕ
staying_by removing rows = cond removing (rows - 10) rows

abbrev modified_by : Bool → ℕ → ℕ → List PlainRow
modified_by modifying rows state = cond modifying (drawn_row (draw rows state) (after 1 state) ∷ []) []

abbrev block_by : Bool → Bool → ℕ → ℕ → Block
block_by removing modifying rows state = record {
  table = 0;
  number = 1;
  removed = cond removing ((record { first = 0; last = 9 }) ∷ []) [];
  shifts = cond removing (up_by_ten rows) [];
  added = drawn_rows (staying_by removing rows) 20 state;
  modified = modified_by modifying (staying_by removing rows) (after 80 state);
}

modified_stays : (modifying : Bool) (rows state : ℕ) → (modifying ≡ true → 0 < rows) → AllByRecursion (λ key. key < rows) (keys (modified_by modifying rows state))
modified_stays true rows state some = (draw-below rows state (some refl), tt)
modified_stays false rows state some = tt

module _ (table : PlainTable) (rows state : ℕ) (in_row : keys table.rows ≡ range_with_len 0 rows) (few : rows ≤ 200000) where
  block_leaves : (removing modifying : Bool) → (removing ≡ true → 10 < rows) → (modifying ≡ true → 0 < rows) → Leaves table (block_by removing modifying rows state) (staying_by removing rows + 20)
  block_leaves true modifying many some =
      let more : 10 < rows = many refl in
      let whole : rows ≡ 10 + (rows - 10) = omega (arith, more) in
      let old : keys table.rows ≡ range_with_len 0 (10 + (rows - 10)) = in_row ∙ ap (range_with_len 0) whole in
      in_row_leaves table (block_by true modifying rows state) 10 (rows - 10) 20
      (record {
        there = subst (λ old. AllByRecursion (λ key. is_among key old ≡ true) (range_with_len 0 10)) (sym in_row)
            (each_from (λ key. is_among key (range_with_len 0 rows) ≡ true) 0 10 (λ key low high. among_range key 0 rows low (omega (arith, high, more))));
        left = ap (without (range_with_len 0 10)) old ∙ row_without 10 (rows - 10);
        moves = λ key low high. moved_up rows key low (omega (arith, high, more));
        added = keys-drawn (rows - 10) 20 state;
        modified = modified_stays modifying (rows - 10) (after 80 state) (λ _. omega (arith, more));
        room = omega (arith, few);
      })
  block_leaves false modifying many some =
      in_row_leaves table (block_by false modifying rows state) 0 rows 20
      (record {
        there = tt;
        left = ap (without []) in_row ∙ without_none (range_with_len 0 rows);
        moves = λ key low high. unmoved key;
        added = keys-drawn rows 20 state;
        modified = modified_stays modifying rows (after 80 state) some;
        room = omega (arith, few);
      })

  -- the block of a step
  pub step_leaves : (step : ℕ) → (removes step ≡ true → 10 < rows) → ((step % 2 == 0) ≡ true → 0 < rows) → Leaves table (block_of step rows state) (survivors step rows + 20)
  step_leaves step many some = block_leaves (removes step) (step % 2 == 0) many some
