-- A step that is a tick's says what the tick is, and of which parts its change is made.
use Rattle.std.proofs.Common.{◌≡◌, refl, ap, ap₂, sym, ◌∙◌, subst, Option, Bool, true, false, cond, not, ◌||◌, ◌==◌, ℕ, ◌<◌, ◌^◌, List, [], ◌∷◌, map, length, ℤ, Some, None, true≢false, unwrap_or}
use Rattle.std.{specs.Prelude.{find, option_map}, specs.List.AllByRecursion, specs.Option.{is_some, option_or}, proofs.lemmas.Bool.{eq-eqb, eqb-false, eqb-true, ne_eqb}, specs.Cmp.Rules.signed_items}
use Rattle.key_lists.{specs.Keys.{is_among, without}, proofs.Among.of_among, proofs.Every.{every_weaker, every_both, every-map, map_map, map_own}}
use Rattle.row_changes.{specs.Parts.{AreParts, AreThere}, proofs.ComparedPairs.compared_at, proofs.MadeChange.parts_there}
use Rattle.shift_data.specs.Moves.{IsLawful}
use Rattle.table_update.specs.Kept.{old_modified}
use Rattle.tick_model.{specs.declared.table.PlainRow.PlainRow, specs.declared.table.PlainTable.PlainTable, specs.declared.update.KeyPair.KeyPair, specs.Rules.landed, specs.Shifts.{as_key, moved}, specs.Tables.{IsRow, cells_at, keys, row_at, same_cells}, specs.Updates.{Tick, differs, pairs}, proofs.Among.{each_found, rows_among}}
use Rattle.source_changes.{specs.Ready.IsReady, specs.Stepping.{IsStepping, Stands, Stepping, cells_now, key_before, now_of, row_now, ticked, touched_by}, proofs.Looked.is_there, proofs.Carrying.cells_of, proofs.Standing.{after_is, first_rules, kept_is, modified_told, others_first, untold_stays}}

module _ (tick : Tick) (step : Stepping) (h : Stands tick step) where
  abbrev before : List ℕ
  before = keys step.old.rows

  abbrev first_place : ℕ → ℕ
  first_place key = as_key (moved step.update.shifted key)

  abbrev staying : List ℕ
  staying = without step.update.removed before

  abbrev old_cells : Option ℕ → Option (List ℤ)
  old_cells o = option_map (λ old. cells_at old step.old.rows) o

  -- of the keys before that lead to one, the first has the cells of now
  found_before : (key : ℕ) → is_among key step.update.modified ≡ false → (ks : List ℕ) → AllByRecursion (λ k. is_among (first_place k) step.update.modified ≡ false → cells_at k tick.old.rows ≡ cells_at (first_place k) tick.new.rows) ks
      → is_among key (landed step.update.shifted ks) ≡ true → unwrap_or (old_cells (find (λ old. is_among (first_place old) (key ∷ [])) ks)) [] ≡ cells_at key tick.new.rows
  found_before key same [] others here = absurd (true≢false (sym here))
  found_before key same (k ∷ ks) others here = go (λ later. found_before key same ks others.1 later) (first_place k == key) refl
    where
      go : (is_among key (landed step.update.shifted ks) ≡ true → unwrap_or (old_cells (find (λ old. is_among (first_place old) (key ∷ [])) ks)) [] ≡ cells_at key tick.new.rows)
          → (b : Bool) → (first_place k == key) ≡ b → unwrap_or (old_cells (find (λ old. is_among (first_place old) (key ∷ [])) (k ∷ ks))) [] ≡ cells_at key tick.new.rows
      go later true e =
          ap (λ t. unwrap_or (old_cells (cond t (Some k) (find (λ old. is_among (first_place old) (key ∷ [])) ks))) []) (swap (eqb-true (first_place k) key e))
          ∙ ap (λ (table : PlainTable). cells_at k table.rows) h.old
          ∙ others.0 (ap (λ p. is_among p step.update.modified) (eqb-true (first_place k) key e) ∙ same)
          ∙ ap (λ p. cells_at p tick.new.rows) (eqb-true (first_place k) key e)
        where
          swap : first_place k ≡ key → is_among (first_place k) (key ∷ []) ≡ true
          swap same = ap (λ b. b || false) (eq-eqb key (first_place k) (sym same))
      go later false e =
          ap (λ t. unwrap_or (old_cells (cond t (Some k) (find (λ old. is_among (first_place old) (key ∷ [])) ks))) []) (ap (λ b. b || false) (ne_eqb key (first_place k) (λ same. eqb-false (first_place k) key e (sym same))))
          ∙ later (sym (ap (λ b. b || is_among key (landed step.update.shifted ks)) e) ∙ here)

  -- each row of now is the told one, or the one from before
  row_is : (row : PlainRow) → is_among row.key (keys tick.new.rows) ≡ true → row_at row.key tick.new.rows ≡ Some row → row_now step row.key ≡ row
  row_is row here found =
      ap (λ (cells : List ℤ). let made : PlainRow = record { key = row.key; cells = cells } in made) (go (row_at row.key step.told) refl ∙ ap cells_of found)
    where
      not_modified : is_among row.key (keys step.told) ≡ false → (b : Bool) → is_among row.key step.update.modified ≡ b → b ≡ false
      not_modified untold true e = absurd (true≢false (sym (modified_told tick step h row.key e) ∙ untold))
      not_modified untold false e = refl

      go : (o : Option PlainRow) → row_at row.key step.told ≡ o → cells_now step row.key ≡ cells_at row.key tick.new.rows
      go (Some told) e =
          ap (λ o. unwrap_or (option_or (option_map (λ (row : PlainRow). row.cells) o) (old_cells (key_before step row.key))) []) e
          ∙ sym (ap cells_of e)
          ∙ of_among (λ k. cells_at k step.told ≡ cells_at k tick.new.rows) row.key (keys step.told) h.told_same (is_there row.key step.told ∙ ap is_some e)
      go None e =
          let untold = is_there row.key step.told ∙ ap is_some e in
          ap (λ o. unwrap_or (option_or (option_map (λ (row : PlainRow). row.cells) o) (old_cells (key_before step row.key))) []) e
          ∙ found_before row.key (not_modified untold (is_among row.key step.update.modified) refl) staying (others_first tick step h) (untold_stays tick step h row.key here untold)

  now_is : now_of step ≡ tick.new
  now_is =
      ap₂ (λ (width : ℕ) (rows : List PlainRow). let made : PlainTable = record { width = width; rows = rows } in made)
      (ap (λ (table : PlainTable). table.width) h.old ∙ sym h.is_tick.one_width)
      (ap (map (row_now step)) (after_is tick step h)
      ∙ map_map (row_now step) (λ (row : PlainRow). row.key) tick.new.rows
      ∙ map_own (λ row. row_now step row.key) tick.new.rows
      (every_both (λ (row : PlainRow). is_among row.key (keys tick.new.rows) ≡ true) (λ (row : PlainRow). row_at row.key tick.new.rows ≡ Some row) (λ row. row_now step row.key ≡ row) tick.new.rows row_is (rows_among tick.new.rows) (each_found tick.new.rows h.is_tick.new_table.rising)))

  pub tick_is : tick ≡ ticked step
  tick_is =
      ap₂ (λ (old new : PlainTable). let made : Tick = record { old = old; new = new; kept = tick.kept } in made) (sym h.old) (sym now_is)
      ∙ ap (λ (kept : List KeyPair). let made : Tick = record { old = step.old; new = now_of step; kept = kept } in made) (sym (kept_is tick step h))

  pub stepping : IsStepping step
  stepping = subst (λ t. Stands t step) tick_is h

-- the parts of the change of a source
module _ (step : Stepping) (h : IsStepping step) where
  pub shift_lawful : IsLawful step.update.shifted (without step.update.removed (keys step.old.rows))
  shift_lawful = (first_rules (ticked step) step h).shifted

  keys_small : AllByRecursion (λ key. key < 2 ^ 62) (keys (now_of step).rows)
  keys_small =
      every-map (λ key. key < 2 ^ 62) (λ (row : PlainRow). row.key) (now_of step).rows
      (every_weaker (IsRow (now_of step).width) (λ (row : PlainRow). row.key < 2 ^ 62) (now_of step).rows (λ row r. r.key) h.is_tick.new_table.rows)

  pub ready : IsReady step
  ready = record { lawful = shift_lawful; small = subst (AllByRecursion (λ key. key < 2 ^ 62)) (sym (after_is (ticked step) step h)) keys_small }

  same_rows : (xs ys : List ℤ) → xs ≡ ys → not (same_cells xs ys) ≡ false
  same_rows xs ys e = ap not ((signed_items xs ys).1 e)

  pub parts_are : AreParts step.old (now_of step) (touched_by step) (pairs step.old step.update)
  parts_are = record {
    tick = h.is_tick;
    removed = h.removed;
    added = h.added;
    shifted = h.shifted;
    compared =
        compared_at step.old step.update step.old (now_of step) step.update.modified h.is_tick.rising_new h.modified_rise h.modified_stay
        (every_weaker (λ (pair : KeyPair). is_among pair.new step.update.modified ≡ false → cells_at pair.old step.old.rows ≡ cells_at pair.new (now_of step).rows) (λ pair. is_among pair.new step.update.modified ≡ false → differs step.old (now_of step) pair ≡ false) (pairs step.old step.update)
        (λ pair same e. same_rows (cells_at pair.old step.old.rows) (cells_at pair.new (now_of step).rows) (same e)) h.others);
  }

  pub even : length (old_modified (keys step.old.rows) step.update) ≡ length step.update.modified
  even = parts_are.compared.even

  pub there : AreThere (now_of step) step.update.added × AreThere step.old (old_modified (keys step.old.rows) step.update) × AreThere (now_of step) step.update.modified
  there = parts_there step.old (now_of step) (touched_by step) (pairs step.old step.update) parts_are
