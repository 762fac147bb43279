-- A block carries a table's rows and the told ones alike.
use Rattle.std.proofs.Common.{◌≡◌, refl, ap, ap₂, sym, ◌∙◌, subst, Option, Bool, true, false, not, ◌||◌, ◌&&◌, ℕ, ◌^◌, List, [], ◌++◌, map, ℤ, Some, None, true≢false, unwrap_or, inl, inr, lit≤}
use Rattle.std.{specs.Prelude.option_map, specs.List.AllByRecursion, specs.Option.{is_some, option_or}, proofs.lemmas.Bool.{and_parts, not-false, or_cases, or_left, or_right}, proofs.lemmas.List.Elements.filter-append, proofs.lemmas.List.append-nil}
use Rattle.key_lists.{specs.Keys.{is_among, IsRising, without}, proofs.Among.{among-append, among-filter, each_among, of_among, apart_back}, proofs.Every.{every_weaker, every_unmapped, filter_all, filter_none, filter_same, none_pass}, proofs.Rising.{as_filter, rising_some}}
use Rattle.shift_data.specs.Moves.{IsLawful}
use Rattle.shown_rows.proofs.Named.{of_named}
use Rattle.table_update.{proofs.KeysAfter.{KeepsRules, rules_kept}, proofs.LawfulParts.{lawful_below, lawful_some, places_rise}}
use Rattle.tick_laws.{specs.Checked.{IsChecked, keys_after}, proofs.Blocks.block_told, proofs.CheckedUpdates.{among-put_keys, keys-carry}}
use Rattle.tick_model.{specs.declared.feed.Block.Block, specs.declared.table.PlainRow.PlainRow, specs.declared.table.PlainTable.PlainTable, specs.Rules.landed, specs.Shifts.{as_key, moved}, specs.Sources.{carried, update_of}, specs.Tables.{cells_at, keys, row_at}, specs.Updates.{adding, modifying, removing, rows_at, shifting}, proofs.Among.rows_among}
use Rattle.tick_table.{specs.Placed.put_rows, proofs.NewKeys.among-adding, proofs.CarriedRows.keys-removing}
use Rattle.source_changes.{specs.Stepping.told_after, proofs.Looked.{among-put_rows, cells_at-stay, is_there, keys-shifting, rising-put_rows, row_at-adding, row_at-modified, row_at-put_rows}}

abbrev pub cells_of : Option PlainRow → List ℤ
cells_of o = unwrap_or (option_map (λ (row : PlainRow). row.cells) o) []

pub not_there : (key : ℕ) (rows : List PlainRow) → is_among key (keys rows) ≡ false → row_at key rows ≡ None
not_there key rows h = go (row_at key rows) (sym (is_there key rows) ∙ h)
  where
    go : (o : Option PlainRow) → is_some o ≡ false → o ≡ None
    go None e = refl
    go (Some row) e = absurd (true≢false e)

-- a key that is moved is among the moved ones
pub among-landed : (place : ℕ → ℕ) (key : ℕ) (ks : List ℕ) → is_among key ks ≡ true → is_among (place key) (map place ks) ≡ true
among-landed place key ks h = of_among (λ k. is_among (place k) (map place ks) ≡ true) key ks (every_unmapped (λ p. is_among p (map place ks) ≡ true) place ks (each_among (map place ks))) h

-- those of a list that are in one of its two parts
rows_in_first : (rows others : List PlainRow) → AllByRecursion (λ key. is_among key (keys rows) ≡ false) (keys others) → rows_at (keys rows) (rows ++ others) ≡ rows
rows_in_first rows others h =
    filter-append (λ (row : PlainRow). is_among row.key (keys rows)) rows others
    ∙ ap₂ (λ (a b : List PlainRow). a ++ b)
    (filter_same (λ (row : PlainRow). is_among row.key (keys rows)) (λ row. true) rows (rows_among rows) ∙ filter_all rows)
    (filter_none (λ (row : PlainRow). is_among row.key (keys rows)) others (every_unmapped (λ key. is_among key (keys rows) ≡ false) (λ (row : PlainRow). row.key) others h))
    ∙ append-nil rows

rows_in_second : (rows others : List PlainRow) → AllByRecursion (λ key. is_among key (keys others) ≡ false) (keys rows) → rows_at (keys others) (rows ++ others) ≡ others
rows_in_second rows others h =
    filter-append (λ (row : PlainRow). is_among row.key (keys others)) rows others
    ∙ ap₂ (λ (a b : List PlainRow). a ++ b)
    (filter_none (λ (row : PlainRow). is_among row.key (keys others)) rows (every_unmapped (λ key. is_among key (keys others) ≡ false) (λ (row : PlainRow). row.key) rows h))
    (filter_same (λ (row : PlainRow). is_among row.key (keys others)) (λ row. true) others (rows_among others) ∙ filter_all others)

module _ (table : PlainTable) (block : Block) (checked : IsChecked (2 ^ 40) (keys table.rows) (update_of block)) where
  abbrev pub survivors : List ℕ
  survivors = without (update_of block).removed (keys table.rows)

  abbrev pub place : ℕ → ℕ
  place key = as_key (moved block.shifts key)

  abbrev stay : List PlainRow
  stay = shifting block.shifts (removing (update_of block).removed table.rows)

  abbrev new_rows : List PlainRow
  new_rows = (carried table block).rows

  pub rules : KeepsRules (2 ^ 40) (keys table.rows) (update_of block)
  rules = rules_kept (2 ^ 40) (keys table.rows) (update_of block) checked.breaks_none

  pub survivors_lawful : IsLawful block.shifts survivors
  survivors_lawful = lawful_below (2 ^ 40) block.shifts survivors (lit≤ tt) rules.shifted

  keys_stay : keys stay ≡ landed block.shifts survivors
  keys_stay = keys-shifting block.shifts (removing (update_of block).removed table.rows) ∙ ap (landed block.shifts) (keys-removing (update_of block).removed table.rows)

  free : AllByRecursion (λ key. is_among key (landed block.shifts survivors) ≡ false) (keys block.added)
  free = none_pass (λ key. is_among key (landed block.shifts survivors)) (keys block.added) rules.added

  modified_apart : AllByRecursion (λ key. is_among key (keys block.added) ≡ false) (keys block.modified)
  modified_apart = none_pass (λ key. is_among key (keys block.added)) (keys block.modified) rules.apart

  modified_there : AllByRecursion (λ key. is_among key (landed block.shifts survivors ++ keys block.added) ≡ true) (keys block.modified)
  modified_there =
      every_weaker (λ key. not (is_among key (landed block.shifts survivors ++ keys block.added)) ≡ false) (λ key. is_among key (landed block.shifts survivors ++ keys block.added) ≡ true) (keys block.modified)
      (λ key h. not-false (is_among key (landed block.shifts survivors ++ keys block.added)) h)
      (none_pass (λ key. not (is_among key (landed block.shifts survivors ++ keys block.added))) (keys block.modified) rules.modified)

  carried_rows : new_rows ≡ modifying block.modified (adding block.added stay)
  carried_rows =
      ap₂ (λ (modified added : List PlainRow). modifying modified (adding added stay))
      (rows_in_second block.added block.modified (apart_back (keys block.added) (keys block.modified) modified_apart))
      (rows_in_first block.added block.modified modified_apart)

  pub carried_keys : keys new_rows ≡ keys_after (keys table.rows) (update_of block)
  carried_keys = keys-carry (2 ^ 40) table (update_of block) (block.added ++ block.modified) checked (block_told block)

  pub among-carried : (key : ℕ) → is_among key (keys new_rows) ≡ (is_among key (keys block.added) || is_among key (landed block.shifts survivors))
  among-carried key = ap (is_among key) carried_keys ∙ among-put_keys key (keys block.added) (landed block.shifts survivors)

  found_carried : (key : ℕ) → is_among key (keys new_rows) ≡ true → row_at key new_rows ≡ option_or (row_at key block.modified) (option_or (row_at key block.added) (row_at key stay))
  found_carried key h =
      ap (row_at key) carried_rows
      ∙ row_at-modified key block.modified (adding block.added stay)
      (among-adding key block.added stay ∙ ap (λ ks. is_among key (keys block.added) || is_among key ks) keys_stay ∙ sym (among-carried key) ∙ h)
      ∙ ap (option_or (row_at key block.modified))
      (row_at-adding key block.added stay checked.added_rise (subst (λ ks. AllByRecursion (λ k. is_among k ks ≡ false) (keys block.added)) (sym keys_stay) free))

  -- a row that stays and is not modified has the cells that it had
  pub cells_stay : (key : ℕ) → is_among key (keys table.rows) ≡ true → is_among key (update_of block).removed ≡ false → is_among (place key) (keys block.modified) ≡ false
      → cells_at key table.rows ≡ cells_at (place key) new_rows
  cells_stay key h stays same =
      sym (cells_at-stay block.shifts (update_of block).removed key table.rows (places_rise block.shifts survivors survivors_lawful) h stays)
      ∙ sym (ap cells_of
      (found_carried (place key) (among-carried (place key) ∙ or_right (is_among (place key) (keys block.added)) (is_among (place key) (landed block.shifts survivors)) landed_there)
      ∙ ap₂ (λ (a b : Option PlainRow). option_or a (option_or b (row_at (place key) stay))) (not_there (place key) block.modified same) (not_there (place key) block.added not_added)))
    where
      survives : is_among key survivors ≡ true
      survives = among-filter (λ k. not (is_among k (update_of block).removed)) key (keys table.rows) ∙ ap₂ (λ a b. not a && b) stays h

      landed_there : is_among (place key) (landed block.shifts survivors) ≡ true
      landed_there = among-landed place key survivors survives

      not_added : is_among (place key) (keys block.added) ≡ false
      not_added = go (is_among (place key) (keys block.added)) refl
        where
          go : (b : Bool) → is_among (place key) (keys block.added) ≡ b → b ≡ false
          go true e = absurd (true≢false (sym landed_there ∙ of_among (λ k. is_among k (landed block.shifts survivors) ≡ false) (place key) (keys block.added) free e))
          go false e = refl

  -- rows that are told, and are rows of the table
  module _ (modified_rise : IsRising (keys block.modified)) (table_rise : IsRising (keys table.rows)) (told : List PlainRow) (told_rise : IsRising (keys told)) (there : AllByRecursion (λ key. is_among key (keys table.rows) ≡ true) (keys told))
      (same : AllByRecursion (λ key. cells_at key told ≡ cells_at key table.rows) (keys told)) where
    abbrev told_stay : List ℕ
    told_stay = without (update_of block).removed (keys told)

    abbrev stay_told : List PlainRow
    stay_told = shifting block.shifts (removing (update_of block).removed told)

    abbrev new_told : List PlainRow
    new_told = told_after told block

    told_parts : (key : ℕ) → is_among key told_stay ≡ true → (is_among key (keys told) ≡ true) × (is_among key (update_of block).removed ≡ false)
    told_parts key h =
        let parts = and_parts (not (is_among key (update_of block).removed)) (is_among key (keys told)) (sym (among-filter (λ k. not (is_among k (update_of block).removed)) key (keys told)) ∙ h) in
        (parts.1, go (is_among key (update_of block).removed) parts.0)
      where
        go : (b : Bool) → not b ≡ true → b ≡ false
        go true e = absurd (true≢false (sym e))
        go false e = refl

    told_in : (key : ℕ) → is_among key (keys told) ≡ true → is_among key (keys table.rows) ≡ true
    told_in key h = of_among (λ k. is_among k (keys table.rows) ≡ true) key (keys told) there h

    told_survives : (key : ℕ) → is_among key told_stay ≡ true → is_among key survivors ≡ true
    told_survives key h =
        let parts = told_parts key h in
        among-filter (λ k. not (is_among k (update_of block).removed)) key (keys table.rows) ∙ ap₂ (λ a b. not a && b) parts.1 (told_in key parts.0)

    pub told_lawful : IsLawful block.shifts told_stay
    told_lawful =
        subst (IsLawful block.shifts)
        (as_filter told_stay survivors (rising_some (λ k. not (is_among k (update_of block).removed)) (keys told) told_rise) (rising_some (λ k. not (is_among k (update_of block).removed)) (keys table.rows) table_rise)
        (every_weaker (λ key. is_among key told_stay ≡ true) (λ key. is_among key survivors ≡ true) told_stay told_survives (each_among told_stay)))
        (lawful_some block.shifts (λ key. is_among key told_stay) survivors survivors_lawful)

    keys_stay_told : keys stay_told ≡ landed block.shifts told_stay
    keys_stay_told = keys-shifting block.shifts (removing (update_of block).removed told) ∙ ap (landed block.shifts) (keys-removing (update_of block).removed told)

    pub new_told_rise : IsRising (keys new_told)
    new_told_rise =
        rising-put_rows block.modified (put_rows block.added stay_told)
        (rising-put_rows block.added stay_told (subst IsRising (sym keys_stay_told) (places_rise block.shifts told_stay told_lawful)))

    among-new_told : (key : ℕ) → is_among key (keys new_told) ≡ (is_among key (keys block.modified) || (is_among key (keys block.added) || is_among key (landed block.shifts told_stay)))
    among-new_told key =
        among-put_rows key block.modified (put_rows block.added stay_told) modified_rise
        ∙ ap (λ b. is_among key (keys block.modified) || b) (among-put_rows key block.added stay_told checked.added_rise ∙ ap (λ ks. is_among key (keys block.added) || is_among key ks) keys_stay_told)

    -- the key that a told row had before the block
    before_told : (key : ℕ) → is_among key (landed block.shifts told_stay) ≡ true → (before : ℕ) × ((is_among before told_stay ≡ true) × (place before ≡ key))
    before_told key h = of_named place (λ k. is_among k told_stay ≡ true) key told_stay (each_among told_stay) h

    pub new_told_there : AllByRecursion (λ key. is_among key (keys new_rows) ≡ true) (keys new_told)
    new_told_there = every_weaker (λ key. is_among key (keys new_told) ≡ true) (λ key. is_among key (keys new_rows) ≡ true) (keys new_told) one (each_among (keys new_told))
      where
        swap : (a b : Bool) → (a || b) ≡ true → (b || a) ≡ true
        swap true true e = refl
        swap true false e = refl
        swap false true e = refl
        swap false false e = absurd (true≢false (sym e))

        one : (key : ℕ) → is_among key (keys new_told) ≡ true → is_among key (keys new_rows) ≡ true
        one key h =
            elim (or_cases (is_among key (keys block.modified)) (is_among key (keys block.added) || is_among key (landed block.shifts told_stay)) (sym (among-new_told key) ∙ h)) [
              | inl modified ↦
                  among-carried key
                  ∙ swap (is_among key (landed block.shifts survivors)) (is_among key (keys block.added))
                  (sym (among-append key (landed block.shifts survivors) (keys block.added)) ∙ of_among (λ k. is_among k (landed block.shifts survivors ++ keys block.added) ≡ true) key (keys block.modified) modified_there modified)
              | inr others ↦ elim (or_cases (is_among key (keys block.added)) (is_among key (landed block.shifts told_stay)) others) [
                | inl added ↦ among-carried key ∙ or_left (is_among key (keys block.added)) (is_among key (landed block.shifts survivors)) added
                | inr stays ↦
                    let before = before_told key stays in
                    among-carried key
                    ∙ or_right (is_among key (keys block.added)) (is_among key (landed block.shifts survivors))
                    (subst (λ k. is_among k (landed block.shifts survivors) ≡ true) before.1.1 (among-landed place before.0 survivors (told_survives before.0 before.1.0)))
              ]
            ]

    cells_or : (a b x y : Option PlainRow) → (a ≡ None → b ≡ None → cells_of x ≡ cells_of y) → cells_of (option_or a (option_or b x)) ≡ cells_of (option_or a (option_or b y))
    cells_or None None x y h = h refl refl
    cells_or None (Some b) x y h = refl
    cells_or (Some a) b x y h = refl

    pub new_told_same : AllByRecursion (λ key. cells_at key new_told ≡ cells_at key new_rows) (keys new_told)
    new_told_same =
        every_weaker (λ key. is_among key (keys new_told) ≡ true) (λ key. cells_at key new_told ≡ cells_at key new_rows) (keys new_told)
        (λ key h.
        ap cells_of (row_at-put_rows key block.modified (put_rows block.added stay_told) modified_rise ∙ ap (option_or (row_at key block.modified)) (row_at-put_rows key block.added stay_told checked.added_rise))
        ∙ cells_or (row_at key block.modified) (row_at key block.added) (row_at key stay_told) (row_at key stay) (stays_same key h)
        ∙ sym (ap cells_of (found_carried key (of_among (λ k. is_among k (keys new_rows) ≡ true) key (keys new_told) new_told_there h))))
        (each_among (keys new_told))
      where
        stays_same : (key : ℕ) → is_among key (keys new_told) ≡ true → row_at key block.modified ≡ None → row_at key block.added ≡ None → cells_at key stay_told ≡ cells_at key stay
        stays_same key h m a =
            let left : is_among key (landed block.shifts told_stay) ≡ true =
            sym (ap₂ (λ p q. p || (q || is_among key (landed block.shifts told_stay))) (is_there key block.modified ∙ ap is_some m) (is_there key block.added ∙ ap is_some a)) ∙ sym (among-new_told key) ∙ h in
            let before = before_told key left in
            let parts = told_parts before.0 before.1.0 in
            subst (λ k. cells_at k stay_told ≡ cells_at k stay) before.1.1
            (cells_at-stay block.shifts (update_of block).removed before.0 told (places_rise block.shifts told_stay told_lawful) parts.0 parts.1
            ∙ of_among (λ k. cells_at k told ≡ cells_at k table.rows) before.0 (keys told) same parts.0
            ∙ sym (cells_at-stay block.shifts (update_of block).removed before.0 table.rows (places_rise block.shifts survivors survivors_lawful) (told_in before.0 parts.0) parts.1))

    -- what is told after the block
    pub told_modified : (key : ℕ) → is_among key (keys block.modified) ≡ true → is_among key (keys new_told) ≡ true
    told_modified key h = among-new_told key ∙ or_left (is_among key (keys block.modified)) (is_among key (keys block.added) || is_among key (landed block.shifts told_stay)) h

    pub told_added : (key : ℕ) → is_among key (keys block.added) ≡ true → is_among key (keys new_told) ≡ true
    told_added key h =
        among-new_told key
        ∙ or_right (is_among key (keys block.modified)) (is_among key (keys block.added) || is_among key (landed block.shifts told_stay))
        (or_left (is_among key (keys block.added)) (is_among key (landed block.shifts told_stay)) h)

    pub told_moved : (key : ℕ) → is_among key (keys told) ≡ true → is_among key (update_of block).removed ≡ false → is_among (place key) (keys new_told) ≡ true
    told_moved key h stays =
        among-new_told (place key)
        ∙ or_right (is_among (place key) (keys block.modified)) (is_among (place key) (keys block.added) || is_among (place key) (landed block.shifts told_stay))
        (or_right (is_among (place key) (keys block.added)) (is_among (place key) (landed block.shifts told_stay))
        (among-landed place key told_stay (among-filter (λ k. not (is_among k (update_of block).removed)) key (keys told) ∙ ap₂ (λ a b. not a && b) stays h)))
