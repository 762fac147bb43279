-- Which left rows a step may change, and how many these are.
use Rattle.std.proofs.Common.{◌≡◌, refl, ap, ap₂, sym, ◌∙◌, subst, Bool, true, false, not, cond, ◌&&◌, ◌||◌, ℕ, ◌+◌, ◌<◌, ◌≤◌, ◌==◌, ◌^◌, drop, List, ◌++◌, filter, length, ℤ, [], ◌∷◌, true≢false}
use Rattle.std.{specs.Cmp.Rules.signed_items, specs.List.AllByRecursion, proofs.lemmas.Bool.{and_parts, not-false, or_parts}, proofs.Math.Seq.drop-append_seam}
use Rattle.key_lists.{specs.Keys.{is_among, IsRising, without}, proofs.Among.{among-filter, each_among, of_among}, proofs.Every.{every_both, every_weaker, every-filter, every-map, every_unmapped}, proofs.Rising.{rising-filter, rising_some}}
use Rattle.lookup_join.{specs.declared.keyed.Side.TheVariants.Left, specs.declared.pick.Pick.Pick, specs.declared.pick.Pick.TheVariants.{First, Last, Latest}, specs.Keyed.{key_cells, time_of}, specs.Notes.Note, specs.Matched.matched_table, specs.Taken.{step_notes, turned_keys}, proofs.Counts.length-among_two, proofs.Gathered.{matched_cells, matched_rows}, proofs.Taking.notes_own, proofs.Told.{IsHeld, before, now, other_taken, same_is, same_taken, told, told_among, told_by_one, untold_each}}
use Rattle.row_changes.{proofs.ComparedPairs.compared_at, proofs.MadeRows.{cells-made, keys-made}, specs.Mapped.IsMapped, specs.Parts.AreCompared}
use Rattle.row_set.{proofs.United.{among-united, united_rises}, specs.Sets.united}
use Rattle.shift_data.specs.Moves.{unapplied}
use Rattle.shown_rows.{proofs.Named.{named_by, of_named}, proofs.Restricted.{is_modified, kept, modified_by, modified_new}}
use Rattle.tick_laws.proofs.ResultTables.{result_table}
use Rattle.tick_model.{specs.declared.plan.OnPair.OnPair, specs.declared.plan.Choice.TheVariants.{First as FirstMatch, Last as LastMatch}, specs.declared.plan.Op.TheVariants.{AsOf, Join}, specs.declared.table.PlainRow.PlainRow, specs.declared.table.PlainTable.PlainTable, specs.declared.update.KeyPair.KeyPair, specs.Tables.{IsRow, IsTable, cells_at, keys, same_cells}, specs.Updates.{Update, differs, new_keys, old_keys, pairs}}
use Rattle.tick_table.{specs.Exact.{IsExact, tick_of}, specs.Ticking.Ticking}

-- the rows of a join, under the keys of the left rows
module _ (on : List OnPair) (pick : Pick) (take : List ℕ) (left right : PlainTable) where
  pub matched_keys : keys (matched_table on pick take left right).rows ≡ keys left.rows
  matched_keys = ap keys (matched_rows on pick take left right) ∙ keys-made (matched_cells on pick take right.rows) left.rows

  pub matched_at : (key : ℕ) → is_among key (keys left.rows) ≡ true → cells_at key (matched_table on pick take left right).rows ≡ matched_cells on pick take right.rows (cells_at key left.rows)
  matched_at key there = ap (cells_at key) (matched_rows on pick take left right) ∙ cells-made (matched_cells on pick take right.rows) key left.rows there

module _ (on : List OnPair) (pick : Pick) (take : List ℕ) (l : Ticking) (left_exact : IsExact l) (r : Ticking) (right_exact : IsExact r) where
  abbrev old : PlainTable
  old = matched_table on pick take l.old r.old

  abbrev new : PlainTable
  new = matched_table on pick take l.new r.new

  abbrev notes : List Note
  notes = step_notes on pick r

  abbrev turned : List ℕ
  turned = turned_keys on pick take l r

  abbrev Held : Note → Type 0
  Held = IsHeld on pick take l left_exact r right_exact

  abbrev tells : Note → List ℕ
  tells = told on pick take l left_exact r right_exact

  -- the cells that a left row takes before and now
  abbrev taken_old : List ℤ → List ℤ
  taken_old row = before on pick take l left_exact r right_exact (key_cells Left on row) (time_of Left pick row)

  abbrev taken_new : List ℤ → List ℤ
  taken_new row = now on pick take l left_exact r right_exact (key_cells Left on row) (time_of Left pick row)

  -- what is known of a pair of left rows that stay
  abbrev IsPair : KeyPair → Type 0
  IsPair pair = (is_among pair.old (keys l.old.rows) ≡ true) × (is_among pair.new (keys l.new.rows) ≡ true) × (is_modified l left_exact pair ≡ differs l.old l.new pair)

  are_pairs : AllByRecursion IsPair (kept l left_exact)
  are_pairs =
      every_both (λ (pair : KeyPair). is_among pair.old (keys l.old.rows) ≡ true) (λ (pair : KeyPair). (is_among pair.new (keys l.new.rows) ≡ true) × (is_modified l left_exact pair ≡ differs l.old l.new pair)) IsPair (kept l left_exact) (λ pair a b. (a, b.0, b.1))
      (every_unmapped (λ key. is_among key (keys l.old.rows) ≡ true) (λ (pair : KeyPair). pair.old) (kept l left_exact) left_exact.tick.of_old)
      (every_both (λ (pair : KeyPair). is_among pair.new (keys l.new.rows) ≡ true) (λ (pair : KeyPair). is_modified l left_exact pair ≡ differs l.old l.new pair) (λ (pair : KeyPair). (is_among pair.new (keys l.new.rows) ≡ true) × (is_modified l left_exact pair ≡ differs l.old l.new pair)) (kept l left_exact) (λ pair a b. (a, b))
      (every_unmapped (λ key. is_among key (keys l.new.rows) ≡ true) (λ (pair : KeyPair). pair.new) (kept l left_exact) left_exact.tick.of_new) (modified_by l left_exact))

  unmodified : (pair : KeyPair) → IsPair pair → is_modified l left_exact pair ≡ false → cells_at pair.old l.old.rows ≡ cells_at pair.new l.new.rows
  unmodified pair p not_modified = (signed_items (cells_at pair.old l.old.rows) (cells_at pair.new l.new.rows)).0 (not-false _ (sym p.2 ∙ not_modified))

  -- a row that is neither modified nor told stays as it is
  untouched : (pair : KeyPair) → IsPair pair → is_modified l left_exact pair ≡ false → is_among pair.new turned ≡ false → differs old new pair ≡ false
  untouched pair p not_modified untold =
      ap not ((signed_items (cells_at pair.old old.rows) (cells_at pair.new new.rows)).1
      (matched_at on pick take l.old r.old pair.old p.0
      ∙ ap (matched_cells on pick take r.old.rows) (unmodified pair p not_modified)
      ∙ ap (λ taken. cells_at pair.new l.new.rows ++ taken) (same_taken on pick take l left_exact r right_exact pair.new p.1 (untold_each tells pair.new notes untold))
      ∙ sym (matched_at on pick take l.new r.new pair.new p.1)))

  behind : (xs ys zs : List ℤ) → xs ++ ys ≡ xs ++ zs → ys ≡ zs
  behind xs ys zs e = sym (drop-append_seam xs ys) ∙ ap (drop (length xs)) e ∙ drop-append_seam xs zs

  -- a row that is told and not modified differs
  told_differs : (pair : KeyPair) → IsPair pair → is_modified l left_exact pair ≡ false → is_among pair.new turned ≡ true → differs old new pair ≡ true
  told_differs pair p not_modified among = by (same_cells (cells_at pair.old old.rows) (cells_at pair.new new.rows)) refl
    where
      by : (b : Bool) → same_cells (cells_at pair.old old.rows) (cells_at pair.new new.rows) ≡ b → not (same_cells (cells_at pair.old old.rows) (cells_at pair.new new.rows)) ≡ true
      by false e = ap not e
      by true e =
          let one = told_by_one Held tells pair.new notes (notes_own on pick r right_exact) among in
          absurd (other_taken on pick take l left_exact r right_exact pair.new p.1 one.0 one.1.0 one.1.1
          (behind (cells_at pair.new l.new.rows) (taken_old (cells_at pair.new l.new.rows)) (taken_new (cells_at pair.new l.new.rows))
          (ap (matched_cells on pick take r.old.rows) (sym (unmodified pair p not_modified)) ∙ sym (matched_at on pick take l.old r.old pair.old p.0) ∙ same_is (cells_at pair.old old.rows) (cells_at pair.new new.rows) e ∙ matched_at on pick take l.new r.new pair.new p.1)))

  -- a row that is told is there
  turned_there : (key : ℕ) → is_among key turned ≡ true → is_among key (keys l.new.rows) ≡ true
  turned_there key among =
      let one = told_by_one Held tells key notes (notes_own on pick r right_exact) among in
      (and_parts _ _ (and_parts _ _ (sym (told_among on pick take l left_exact r right_exact one.0 key one.1.0) ∙ one.1.1)).1).1

  pub turned_small : AllByRecursion (λ key. key < 2 ^ 62) turned
  turned_small =
      every_weaker (λ key. is_among key turned ≡ true) (λ key. key < 2 ^ 62) turned (λ key among. of_among (λ key. key < 2 ^ 62) key (keys l.new.rows) (every-map (λ key. key < 2 ^ 62) (λ (row : PlainRow). row.key) l.new.rows (every_weaker (IsRow l.new.width) (λ row. row.key < 2 ^ 62) l.new.rows (λ row is. is.key) left_exact.tick.new_table.rows)) (turned_there key among))
      (each_among turned)

  added_is : (key : ℕ) → is_among key l.update.added ≡ (not (is_among key (new_keys (kept l left_exact))) && is_among key (keys l.new.rows))
  added_is key = ap (λ (update : Update). is_among key update.added) left_exact.update ∙ among-filter (λ key. not (is_among key (new_keys (kept l left_exact)))) key (keys l.new.rows)

  -- where there were no left rows, those that are told came
  pub told_came : keys l.old.rows ≡ [] → (key : ℕ) → is_among key l.update.added ≡ false → is_among key turned ≡ false
  told_came none key absent = by (is_among key turned) refl
    where
      no_pair : (pairs : List KeyPair) → AllByRecursion (λ key. is_among key [] ≡ true) (old_keys pairs) → new_keys pairs ≡ []
      no_pair [] h = refl
      no_pair (pair ∷ pairs) h = absurd (true≢false (sym h.0))

      none_stay : new_keys (kept l left_exact) ≡ []
      none_stay = no_pair (kept l left_exact) (subst (λ ks. AllByRecursion (λ key. is_among key ks ≡ true) (old_keys (kept l left_exact))) none left_exact.tick.of_old)

      by : (b : Bool) → is_among key turned ≡ b → is_among key turned ≡ false
      by false is = is
      by true is = absurd (true≢false (sym (added_is key ∙ ap₂ (λ ks b. not (is_among key ks) && b) none_stay (turned_there key is)) ∙ absent))

  matched_is_table : (left right : PlainTable) → IsTable left → IsTable right → IsTable (matched_table on pick take left right)
  matched_is_table left right a b = by_pick pick
    where
      by_pick : (pick : Pick) → IsTable (matched_table on pick take left right)
      by_pick First = result_table (Join 0 1 on take FirstMatch) (λ input. cond (input == 0) left right) (a, (b, tt)) tt
      by_pick Last = result_table (Join 0 1 on take LastMatch) (λ input. cond (input == 0) left right) (a, (b, tt)) tt
      by_pick (Latest at) = result_table (AsOf 0 1 on at take) (λ input. cond (input == 0) left right) (a, (b, tt)) tt

  pub are_mapped : IsMapped (tick_of l) old new
  are_mapped = record {
    before = matched_keys on pick take l.old r.old;
    now = matched_keys on pick take l.new r.new;
    old_table = matched_is_table l.old r.old left_exact.tick.old_table right_exact.tick.old_table;
    new_table = matched_is_table l.new r.new left_exact.tick.new_table right_exact.tick.new_table;
    one_width = ap (λ w. w + length take) left_exact.tick.one_width;
  }

  -- the rows that are compared: those that are modified or told, but for the added ones
  module _ (set compared : List ℕ) (is_set : (key : ℕ) → is_among key l.update.added ≡ false → is_among key set ≡ is_among key turned) (are : compared ≡ without l.update.added (united set l.update.modified)) where
    compared_is : (key : ℕ) → is_among key compared ≡ (not (is_among key l.update.added) && (is_among key turned || is_among key l.update.modified))
    compared_is key =
        ap (is_among key) are ∙ among-filter (λ key. not (is_among key l.update.added)) key (united set l.update.modified)
        ∙ ap (λ b. not (is_among key l.update.added) && b) (among-united key set l.update.modified) ∙ by (is_among key l.update.added) refl
      where
        by : (b : Bool) → is_among key l.update.added ≡ b → (not (is_among key l.update.added) && (is_among key set || is_among key l.update.modified)) ≡ (not (is_among key l.update.added) && (is_among key turned || is_among key l.update.modified))
        by true came = ap (λ b. not b && (is_among key set || is_among key l.update.modified)) came ∙ sym (ap (λ b. not b && (is_among key turned || is_among key l.update.modified)) came)
        by false absent = ap (λ b. not (is_among key l.update.added) && (b || is_among key l.update.modified)) (is_set key absent)

    modified_rises : IsRising l.update.modified
    modified_rises = subst IsRising (sym (modified_new l left_exact)) (rising-filter (λ (pair : KeyPair). pair.new) (is_modified l left_exact) (kept l left_exact) left_exact.tick.rising_new)

    pub compared_rises : IsRising compared
    compared_rises = subst IsRising (sym are) (rising_some (λ key. not (is_among key l.update.added)) (united set l.update.modified) (united_rises set l.update.modified modified_rises))

    modified_kept : AllByRecursion (λ key. is_among key (new_keys (kept l left_exact)) ≡ true) l.update.modified
    modified_kept =
        subst (AllByRecursion (λ key. is_among key (new_keys (kept l left_exact)) ≡ true)) (sym (modified_new l left_exact))
        (every-map (λ key. is_among key (new_keys (kept l left_exact)) ≡ true) (λ (pair : KeyPair). pair.new) (filter (is_modified l left_exact) (kept l left_exact))
        (every-filter (λ (pair : KeyPair). is_among pair.new (new_keys (kept l left_exact)) ≡ true) (is_modified l left_exact) (kept l left_exact)
        (every_unmapped (λ key. is_among key (new_keys (kept l left_exact)) ≡ true) (λ (pair : KeyPair). pair.new) (kept l left_exact) (each_among (new_keys (kept l left_exact))))))

    -- a key that is compared is that of a row that stays
    kept_one : (key : ℕ) → is_among key compared ≡ true → is_among key (new_keys (kept l left_exact)) ≡ true
    kept_one key among = stays (is_among key (new_keys (kept l left_exact))) refl
      where
        parts : (not (is_among key l.update.added) ≡ true) × ((is_among key turned || is_among key l.update.modified) ≡ true)
        parts = and_parts _ _ (sym (compared_is key) ∙ among)

        either : (a b : Bool) → is_among key turned ≡ a → is_among key l.update.modified ≡ b → (a || b) ≡ true → is_among key (new_keys (kept l left_exact)) ≡ false → is_among key (keys l.new.rows) ≡ true
        either true b is m e none = turned_there key is
        either false true is m e none = absurd (true≢false (sym (of_among (λ key. is_among key (new_keys (kept l left_exact)) ≡ true) key l.update.modified modified_kept m) ∙ none))
        either false false is m e none = absurd (true≢false (sym e))

        stays : (b : Bool) → is_among key (new_keys (kept l left_exact)) ≡ b → is_among key (new_keys (kept l left_exact)) ≡ true
        stays true is = is
        stays false is =
            absurd (true≢false
            (sym parts.0 ∙ ap not (added_is key ∙ ap₂ (λ a b. not a && b) is (either (is_among key turned) (is_among key l.update.modified) refl refl parts.1 is))))

    pub compared_kept : AllByRecursion (λ key. is_among key (new_keys (kept l left_exact)) ≡ true) compared
    compared_kept = every_weaker (λ key. is_among key compared ≡ true) (λ key. is_among key (new_keys (kept l left_exact)) ≡ true) compared kept_one (each_among compared)

    -- of a row that stays: it is compared where it is told or modified
    compared_pair : (pair : KeyPair) → is_among pair.new (new_keys (kept l left_exact)) ≡ true → is_among pair.new compared ≡ (is_among pair.new turned || is_among pair.new l.update.modified)
    compared_pair pair stays =
        compared_is pair.new ∙ ap (λ b. not b && (is_among pair.new turned || is_among pair.new l.update.modified)) (added_is pair.new ∙ ap (λ b. not b && is_among pair.new (keys l.new.rows)) stays)

    others : AllByRecursion (λ pair. is_among pair.new compared ≡ false → differs old new pair ≡ false) (kept l left_exact)
    others =
        every_both IsPair (λ (pair : KeyPair). is_among pair.new (new_keys (kept l left_exact)) ≡ true) (λ pair. is_among pair.new compared ≡ false → differs old new pair ≡ false) (kept l left_exact)
        (λ pair p stays absent. let parts = or_parts _ _ (sym (compared_pair pair stays) ∙ absent) in untouched pair p parts.1 parts.0)
        are_pairs
        (every_unmapped (λ key. is_among key (new_keys (kept l left_exact)) ≡ true) (λ (pair : KeyPair). pair.new) (kept l left_exact) (each_among (new_keys (kept l left_exact))))

    pub are_compared : AreCompared old new (pairs l.old l.update) (unapplied l.update.shifted (without l.update.removed (keys l.old.rows)) compared) compared
    are_compared = compared_at l.old l.update old new compared left_exact.tick.rising_new compared_rises compared_kept others

    -- each row that is compared is modified in the input or in the result
    compared_counts : AllByRecursion (λ key. (is_among key l.update.modified || is_among key (new_keys (filter (differs old new) (kept l left_exact)))) ≡ true) compared
    compared_counts =
        every_both (λ key. is_among key compared ≡ true) (λ key. is_among key (new_keys (kept l left_exact)) ≡ true) (λ key. (is_among key l.update.modified || is_among key (new_keys (filter (differs old new) (kept l left_exact)))) ≡ true) compared
        counts (each_among compared) compared_kept
      where
        counts : (key : ℕ) → is_among key compared ≡ true → is_among key (new_keys (kept l left_exact)) ≡ true → (is_among key l.update.modified || is_among key (new_keys (filter (differs old new) (kept l left_exact)))) ≡ true
        counts key among stays =
            let named = of_named (λ (pair : KeyPair). pair.new) (λ pair. IsPair pair × (is_among pair.new (new_keys (filter (differs old new) (kept l left_exact))) ≡ differs old new pair)) key (kept l left_exact)
            (every_both IsPair (λ pair. is_among pair.new (new_keys (filter (differs old new) (kept l left_exact))) ≡ differs old new pair) (λ pair. IsPair pair × (is_among pair.new (new_keys (filter (differs old new) (kept l left_exact))) ≡ differs old new pair)) (kept l left_exact) (λ pair a b. (a, b)) are_pairs
            (named_by (λ (pair : KeyPair). pair.new) (differs old new) (kept l left_exact) left_exact.tick.rising_new)) stays in
            by named.0 named.1.0.0 named.1.0.1 named.1.1 (is_modified l left_exact named.0) refl
          where
            by : (pair : KeyPair) → IsPair pair → is_among pair.new (new_keys (filter (differs old new) (kept l left_exact))) ≡ differs old new pair → pair.new ≡ key → (b : Bool) → is_modified l left_exact pair ≡ b → (is_among key l.update.modified || is_among key (new_keys (filter (differs old new) (kept l left_exact)))) ≡ true
            by pair p differing same true m = ap (λ b. b || is_among key (new_keys (filter (differs old new) (kept l left_exact)))) (ap (λ k. is_among k l.update.modified) (sym same) ∙ m)
            by pair p differing same false m =
                ap₂ (λ a b. a || b) (ap (λ k. is_among k l.update.modified) (sym same) ∙ m)
                (ap (λ k. is_among k (new_keys (filter (differs old new) (kept l left_exact)))) (sym same) ∙ differing
                ∙ told_differs pair p m (subst (λ k. is_among k turned ≡ true) (sym same) (left_true (is_among key turned) (sym (compared_pair pair (subst (λ k. is_among k (new_keys (kept l left_exact)) ≡ true) (sym same) stays) ∙ ap₂ (λ a b. a || b) (ap (λ k. is_among k turned) same) m) ∙ ap (λ k. is_among k compared) same ∙ among))))
              where
                left_true : (a : Bool) → (a || false) ≡ true → a ≡ true
                left_true true e = refl
                left_true false e = e

    pub compared_few : length compared ≤ length l.update.modified + length (new_keys (filter (differs old new) (kept l left_exact)))
    compared_few =
        length-among_two compared l.update.modified (new_keys (filter (differs old new) (kept l left_exact))) compared_rises
        (rising-filter (λ (pair : KeyPair). pair.new) (differs old new) (kept l left_exact) left_exact.tick.rising_new) compared_counts
