-- The tick from some rows of an exact input before to some of them now, and its parts.
use Rattle.std.proofs.Common.{◌≡◌, refl, ap, ap₂, sym, ◌∙◌, subst, Bool, true, false, not, ◌&&◌, ℕ, ◌^◌, List, ◌++◌, map, filter, length, None, ℤ}
use Rattle.std.{specs.List.{AllByRecursion, list_any}, specs.Ordering.int_eq, specs.Prelude.nat_lt, proofs.lemmas.Bool.and_parts, proofs.lemmas.List.length-map}
use Rattle.key_lists.{specs.Keys.{is_among, IsRising, without}, proofs.Among.{among-filter, each_among}, proofs.Every.{and_swap, any-map, every, every_weaker, every_both, every-map, every_unmapped, every-filter, filter_in, filter_passes, filter_same, filter_swap, filter-map, map_map, map_own, map_same}}
use Rattle.shift_data.specs.Moves.{IsLawful, canonical, pair_by, pairs_of}
use Rattle.table_update.{proofs.LawfulParts.lawful_some, specs.Kept.old_modified}
use Rattle.tick_model.{specs.declared.table.PlainTable.PlainTable, specs.declared.update.KeyPair.KeyPair, specs.declared.update.ShiftRange.ShiftRange, specs.Changes.{Change, change_of}, specs.Rules.update_fault, specs.Shifts.shifted, specs.Tables.{cell, cells_at, keys, same_cells}, specs.Updates.{IsTick, Tick, Update, between, differs, differs_in, kept_pair, new_keys, old_keys, pairs}}
use Rattle.tick_laws.{specs.Checked.keys_after, proofs.OperatorTicks.all_both_in}
use Rattle.row_changes.{proofs.ComparedPairs.not_chosen, proofs.Comparing.pairs_of-keys, proofs.MadeChange.change_is, specs.Parts.{AreParts, AreThere, Parts, cells_under}}
use Rattle.tick_table.{specs.Exact.{IsExact, tick_of}, specs.Ticking.Ticking, proofs.Between.{keys_after_between, shift_keeps_order, staying_are, between_lawful}}
use Rattle.shown_rows.{specs.Shown.{IsPart, staying, stays, through}, proofs.Named.{filter_named, named_by}, proofs.Parts.{cells_there, cells_under-part, is_table}}

-- tests that agree on a list
pub any_same : {X : Type 0} (p q : X → Bool) (xs : List X) → AllByRecursion (λ x. p x ≡ q x) xs → list_any p xs ≡ list_any q xs
any_same p q xs h = sym (any-map (λ b. b) p xs) ∙ ap (list_any (λ b. b)) (map_same p q xs h) ∙ any-map (λ b. b) q xs

module _ (t : Ticking) (e : IsExact t) where
  abbrev pub kept : List KeyPair
  kept = pairs t.old t.update

  -- the pairs that are modified, and their keys
  abbrev pub is_modified : KeyPair → Bool
  is_modified pair = is_among pair.new t.update.modified

  pub exact_shift : IsLawful t.update.shifted (without t.update.removed (keys t.old.rows))
  exact_shift = subst (λ (update : Update). IsLawful update.shifted (without update.removed (keys t.old.rows))) (sym e.update) (shift_keeps_order (tick_of t) e.tick)

  pub modified_by : AllByRecursion (λ pair. is_modified pair ≡ differs t.old t.new pair) kept
  modified_by = subst (λ (update : Update). AllByRecursion (λ pair. is_among pair.new update.modified ≡ differs t.old t.new pair) kept) (sym e.update)
      (named_by (λ (pair : KeyPair). pair.new) (differs t.old t.new) kept e.tick.rising_new)

  -- the old keys of some of the pairs
  pub old_some : (test : KeyPair → Bool) → old_keys (filter test kept) ≡ filter (λ key. test (kept_pair t.update key)) (without t.update.removed (keys t.old.rows))
  old_some test =
      ap old_keys (filter-map test (kept_pair t.update) (without t.update.removed (keys t.old.rows)))
      ∙ map_map (λ (pair : KeyPair). pair.old) (kept_pair t.update) (filter (λ key. test (kept_pair t.update key)) (without t.update.removed (keys t.old.rows)))
      ∙ map_own (λ key. key) (filter (λ key. test (kept_pair t.update key)) (without t.update.removed (keys t.old.rows))) (every (λ key. key ≡ key) (filter (λ key. test (kept_pair t.update key)) (without t.update.removed (keys t.old.rows))) (λ key. refl))

  pub modified_old : old_modified (keys t.old.rows) t.update ≡ old_keys (filter is_modified kept)
  modified_old = sym (old_some is_modified)

  pub modified_new : t.update.modified ≡ new_keys (filter is_modified kept)
  modified_new = ap (λ (update : Update). update.modified) e.update ∙ ap new_keys (sym (filter_same is_modified (differs t.old t.new) kept modified_by))

  pub modified_pairs : pairs_of (old_modified (keys t.old.rows) t.update) t.update.modified ≡ filter is_modified kept
  modified_pairs = ap₂ pairs_of modified_old modified_new ∙ pairs_of-keys (filter is_modified kept)

  pub modified_even : length (old_modified (keys t.old.rows) t.update) ≡ length t.update.modified
  modified_even = ap length modified_old ∙ length-map (filter is_modified kept) (λ (pair : KeyPair). pair.old) ∙ sym (length-map (filter is_modified kept) (λ (pair : KeyPair). pair.new)) ∙ ap length (sym modified_new)

  module _ (choice : PlainTable → PlainTable) (o : IsPart (choice t.old) t.old) (n : IsPart (choice t.new) t.new) where
    abbrev pub shown_tick : Tick
    shown_tick = through choice (tick_of t)

    abbrev pub before : List ℕ
    before = keys (choice t.old).rows

    abbrev pub now : List ℕ
    now = keys (choice t.new).rows

    abbrev pub both : KeyPair → Bool
    both pair = is_among pair.old before && is_among pair.new now

    one_width : (choice t.new).width ≡ (choice t.old).width
    one_width = ap (λ (table : PlainTable). table.width) n ∙ e.tick.one_width ∙ ap (λ (table : PlainTable). table.width) (sym o)

    pub shown_is_tick : IsTick shown_tick
    shown_is_tick = all_both_in (tick_of t) (choice t.old) (choice t.new) e.tick (is_table (choice t.old) t.old o e.tick.old_table) (is_table (choice t.new) t.new n e.tick.new_table) one_width

    -- the rows shown before that are shown still
    pub still_shown : without (between shown_tick).removed before ≡ old_keys shown_tick.kept
    still_shown = staying_are shown_tick shown_is_tick

    pub shift_shown : canonical t.update.shifted (without (between shown_tick).removed before) ≡ (between shown_tick).shifted
    shift_shown =
        ap (λ ks. shifted (map (pair_by t.update.shifted) ks)) still_shown
        ∙ ap shifted (map_map (pair_by t.update.shifted) (λ (pair : KeyPair). pair.old) shown_tick.kept
        ∙ map_own (λ pair. pair_by t.update.shifted pair.old) shown_tick.kept
        (every-filter (λ pair. pair_by t.update.shifted pair.old ≡ pair) both kept
        (every-map (λ pair. pair_by t.update.shifted pair.old ≡ pair) (kept_pair t.update) (without t.update.removed (keys t.old.rows))
        (every (λ key. pair_by t.update.shifted key ≡ kept_pair t.update key) (without t.update.removed (keys t.old.rows)) (λ key. refl)))))

    pub shift_lawful_shown : IsLawful t.update.shifted (without (between shown_tick).removed before)
    shift_lawful_shown =
        subst (IsLawful t.update.shifted) (sym (still_shown ∙ old_some both))
        (lawful_some t.update.shifted (λ key. both (kept_pair t.update key)) (without t.update.removed (keys t.old.rows)) exact_shift)

    -- of the pairs that are modified, those whose row was shown and is shown still
    abbrev pub touched : List KeyPair
    touched = staying t before (between shown_tick).removed

    stays_both : AllByRecursion (λ pair. stays before (between shown_tick).removed pair ≡ both pair) kept
    stays_both =
        every_weaker (λ (pair : KeyPair). is_among pair.old (old_keys (filter both kept)) ≡ both pair) (λ pair. stays before (between shown_tick).removed pair ≡ both pair) kept
        (λ pair named. and_swap (is_among pair.old before) (not (is_among pair.old (between shown_tick).removed))
        ∙ sym (among-filter (λ key. not (is_among key (between shown_tick).removed)) pair.old before)
        ∙ ap (is_among pair.old) still_shown ∙ named)
        (named_by (λ (pair : KeyPair). pair.old) both kept e.tick.rising_old)

    touched_are : touched ≡ filter is_modified shown_tick.kept
    touched_are = filter_swap (stays before (between shown_tick).removed) is_modified kept ∙ ap (filter is_modified) (filter_same (stays before (between shown_tick).removed) both kept stays_both)

    every_touched : (P : KeyPair → Type 0) → AllByRecursion P shown_tick.kept → AllByRecursion P touched
    every_touched P all = subst (AllByRecursion P) (sym touched_are) (every-filter P is_modified shown_tick.kept all)

    compared_shown : touched ≡ filter (λ pair. is_among pair.new (new_keys touched)) shown_tick.kept
    compared_shown =
        touched_are ∙ sym (filter_named (λ (pair : KeyPair). pair.new) is_modified shown_tick.kept shown_is_tick.rising_new)
        ∙ ap (λ pairs. filter (λ (pair : KeyPair). is_among pair.new (new_keys pairs)) shown_tick.kept) (sym touched_are)

    -- a row that is shown is the input's
    abbrev IsSame : KeyPair → Type 0
    IsSame pair = (cells_at pair.old shown_tick.old.rows ≡ cells_at pair.old t.old.rows) × (cells_at pair.new shown_tick.new.rows ≡ cells_at pair.new t.new.rows)

    same_rows : AllByRecursion IsSame shown_tick.kept
    same_rows =
        every_weaker (λ pair. both pair ≡ true) IsSame (filter both kept)
        (λ pair in_both. (cells_there (choice t.old) t.old pair.old o (and_parts _ _ in_both).0, cells_there (choice t.new) t.new pair.new n (and_parts _ _ in_both).1))
        (filter_passes both kept)

    abbrev differ : KeyPair → Bool
    differ = differs shown_tick.old shown_tick.new

    touched_differ : touched ≡ filter differ shown_tick.kept
    touched_differ =
        touched_are
        ∙ filter_same is_modified differ shown_tick.kept
        (every_both IsSame (λ pair. is_modified pair ≡ differs t.old t.new pair) (λ pair. is_modified pair ≡ differ pair) shown_tick.kept
        (λ pair same by. by ∙ sym (ap₂ (λ old new. not (same_cells old new)) same.0 same.1)) same_rows
        (every-filter (λ pair. is_modified pair ≡ differs t.old t.new pair) both kept modified_by))

    all_differ : filter differ touched ≡ touched
    all_differ = ap (filter differ) touched_differ ∙ filter_in differ differ shown_tick.kept (every (λ pair. differ pair ≡ false → differ pair ≡ false) shown_tick.kept (λ pair is. is)) ∙ sym touched_differ

    others_shown : AllByRecursion (λ pair. is_among pair.new (new_keys touched) ≡ false → differ pair ≡ false) shown_tick.kept
    others_shown = subst (λ pairs. AllByRecursion (λ (pair : KeyPair). is_among pair.new (new_keys pairs) ≡ false → differ pair ≡ false) shown_tick.kept) (sym touched_differ) (not_chosen differ shown_tick.kept)

    columns_shown : (column : ℕ) → list_any (differs_in t.old t.new column) touched ≡ list_any (differs_in shown_tick.old shown_tick.new column) touched
    columns_shown column =
        any_same (differs_in t.old t.new column) (differs_in shown_tick.old shown_tick.new column) touched
        (every_touched (λ pair. differs_in t.old t.new column pair ≡ differs_in shown_tick.old shown_tick.new column pair)
        (every_weaker IsSame (λ pair. differs_in t.old t.new column pair ≡ differs_in shown_tick.old shown_tick.new column pair) shown_tick.kept
        (λ pair same. sym (ap₂ (λ old new. not (int_eq (cell old column) (cell new column))) same.0 same.1)) same_rows))

    -- the keys that are read
    touched_new : AllByRecursion (λ key. is_among key now ≡ true) (new_keys touched)
    touched_new =
        every-map (λ key. is_among key now ≡ true) (λ (pair : KeyPair). pair.new) touched
        (every_touched (λ pair. is_among pair.new now ≡ true) (every_unmapped (λ key. is_among key now ≡ true) (λ (pair : KeyPair). pair.new) shown_tick.kept shown_is_tick.of_new))

    pub added_new : AllByRecursion (λ key. is_among key now ≡ true) (between shown_tick).added
    added_new = every-filter (λ key. is_among key now ≡ true) (λ key. not (is_among key (new_keys shown_tick.kept))) (keys shown_tick.new.rows) (each_among (keys shown_tick.new.rows))

    -- the update leaves the keys that are shown now
    pub lawful_shown : update_fault (2 ^ 62) before (between shown_tick) ≡ None
    lawful_shown = between_lawful shown_tick shown_is_tick

    pub keys_shown : keys_after before (between shown_tick) ≡ now
    keys_shown = keys_after_between shown_tick shown_is_tick

    -- what is told is the change
    pub change_shown : (removed added modified columns : List ℕ) (shifts : List ShiftRange) (cells : List ℤ) → removed ≡ (between shown_tick).removed → added ≡ (between shown_tick).added
        → shifts ≡ canonical t.update.shifted (without (between shown_tick).removed before) → modified ≡ new_keys touched → IsRising columns
        → ((column : ℕ) → is_among column columns ≡ (nat_lt column t.new.width && list_any (differs_in t.old t.new column) touched)) → cells ≡ cells_under t.new added ++ cells_under t.new modified
        → let made : Change = record { update = record { removed = removed; added = added; modified = modified; shifted = shifts; columns = columns }; cells = cells } in made ≡ change_of shown_tick
    change_shown removed added modified columns shifts cells r a s m rising c told =
        change_is (choice t.old) (choice t.new) parts shown_tick.kept are modified columns cells
        (m ∙ ap new_keys (sym (ap (filter differ) own ∙ all_differ))) rising
        (λ column. c column ∙ ap₂ (λ width any. nat_lt column width && any) (sym (ap (λ (table : PlainTable). table.width) n)) (columns_shown column ∙ ap (list_any (differs_in (choice t.old) (choice t.new) column)) (sym own)))
        (told ∙ ap₂ (λ (xs ys : List ℤ). xs ++ ys) (same added (subst (AreThere (choice t.new)) (sym a) added_new)) (same modified (subst (AreThere (choice t.new)) (sym m) touched_new)))
      where
        parts : Parts
        parts = record { removed = removed; added = added; shifted = shifts; compared_before = old_keys touched; compared_now = new_keys touched }

        own : pairs_of (old_keys touched) (new_keys touched) ≡ touched
        own = pairs_of-keys touched

        are : AreParts (choice t.old) (choice t.new) parts shown_tick.kept
        are = record {
          tick = shown_is_tick;
          removed = r;
          added = a;
          shifted = s ∙ shift_shown;
          compared = record {
            even = length-map touched (λ (pair : KeyPair). pair.old) ∙ sym (length-map touched (λ (pair : KeyPair). pair.new));
            compared = own ∙ compared_shown;
            others = others_shown;
          };
        }

        same : (ks : List ℕ) → AreThere (choice t.new) ks → cells_under t.new ks ≡ cells_under (choice t.new) ks
        same ks there = sym (cells_under-part (choice t.new) t.new ks n there)
