-- The change of a sort, from the positions that a step touches.
use Rattle.std.proofs.Common.{◌≡◌, refl, ap, ap₂, sym, ◌∙◌, subst, Bool, true, false, ◌||◌, ℕ, ◌<◌, ◌^◌, List, filter, None, true≢false}
use Rattle.std.{specs.Cmp.Rules.signed_items, specs.List.AllByRecursion, proofs.lemmas.Bool.not-false}
use Rattle.key_lists.{specs.Keys.{is_among, without}, proofs.Among.of_among, proofs.Every.{every_both, every_unmapped, every_weaker, every-map}}
use Rattle.row_set.{specs.Sets.united, proofs.United.among-united}
use Rattle.shift_data.{specs.Moves.pairs_of, proofs.Kept.run_kept, proofs.Lawful.{Lands, lawful}}
use Rattle.tick_model.{specs.declared.plan.Op.TheVariants.Sort, specs.declared.plan.SortBy.SortBy, specs.declared.update.KeyPair.KeyPair, specs.declared.update.ShiftRange.ShiftRange, specs.Rules.is_past, specs.Shifts.{as_key, moved, shifted}, specs.declared.table.PlainRow.PlainRow, specs.Tables.{IsRow, cells_at, keys}, specs.Updates.{Tick, IsTick, between, differs, old_keys}}
use Rattle.tick_laws.{proofs.Moves.each_moved, proofs.Placed.sort_keeps, proofs.ResultTables.result_table}
use Rattle.tick_table.{proofs.Between.{shift_keeps_order, staying_are}, specs.Exact.{IsExact, tick_of}, specs.Ticking.Ticking}
use Rattle.row_changes.{specs.Parts.{AreCompared, AreParts, Parts}, proofs.Comparing.old_keys-pairs_of}
use Rattle.shown_rows.proofs.Named.{named_by, of_named}
use Rattle.sort_op.{specs.Sorter.sorted, specs.Steps.Stays, proofs.KeptPlaces.kept_are}

module _ (by : List SortBy) (t : Ticking) (e : IsExact t) where
  abbrev tick : Tick
  tick = sorted by (tick_of t)

  pub sorted_tick : IsTick tick
  sorted_tick = sort_keeps by (tick_of t) e.tick (result_table (Sort 0 by) (λ n. t.old) (e.tick.old_table, tt) tt) (result_table (Sort 0 by) (λ n. t.new) (e.tick.new_table, tt) tt)

  -- the parts of the change, where the rows that stay move by ranges of positions
  pub sorted_parts : (parts : Parts) (before now : List ℕ) → parts.removed ≡ (between tick).removed → parts.added ≡ (between tick).added
      → before ≡ without parts.removed (keys tick.old.rows) → now ≡ without parts.added (keys tick.new.rows) → parts.shifted ≡ shifted (pairs_of before now)
      → AreCompared tick.old tick.new tick.kept parts.compared_before parts.compared_now → AreParts tick.old tick.new parts tick.kept
  sorted_parts parts before now removed added stay_before stay_now shift compared = record {
    tick = sorted_tick;
    removed = removed;
    added = added;
    shifted =
        shift
        ∙ ap shifted (ap₂ pairs_of (stay_before ∙ ap (λ ks. without ks (keys tick.old.rows)) removed) (stay_now ∙ ap (λ ks. without ks (keys tick.new.rows)) added) ∙ sym (kept_are tick sorted_tick));
    compared = compared;
  }

  -- a pair whose rows are not compared
  abbrev Unchanged : List ℕ → KeyPair → Type 0
  Unchanged before pair = is_among pair.old before ≡ false → cells_at pair.old tick.old.rows ≡ cells_at pair.new tick.new.rows

  -- what is known of a pair
  abbrev Known : List ℕ → KeyPair → Type 0
  Known before pair = (as_key (moved (shifted tick.kept) pair.old) ≡ pair.new) × (is_among pair.new (keys tick.new.rows) ≡ true) × Unchanged before pair

  unchanged : (before now : List ℕ) → AreCompared tick.old tick.new tick.kept before now → AllByRecursion (Unchanged before) tick.kept
  unchanged before now compared =
      every_both (λ (pair : KeyPair). is_among pair.old (old_keys (filter (λ (p : KeyPair). is_among p.new now) tick.kept)) ≡ is_among pair.new now) (λ (pair : KeyPair). is_among pair.new now ≡ false → differs tick.old tick.new pair ≡ false) (Unchanged before) tick.kept
      (λ pair named same outside. (signed_items (cells_at pair.old tick.old.rows) (cells_at pair.new tick.new.rows)).0 (not-false _ (same (sym named ∙ ap (is_among pair.old) (sym olds) ∙ outside))))
      (named_by (λ (pair : KeyPair). pair.old) (λ (p : KeyPair). is_among p.new now) tick.kept sorted_tick.rising_old)
      compared.others
    where
      olds : before ≡ old_keys (filter (λ (p : KeyPair). is_among p.new now) tick.kept)
      olds = sym (old_keys-pairs_of before now compared.even) ∙ ap old_keys compared.compared

  -- a row that does not go and is not compared is the same at the position to which it moves
  pub stays : (removed before now touched : List ℕ) (shifts : List ShiftRange) → removed ≡ (between tick).removed → shifts ≡ (between tick).shifted → AreCompared tick.old tick.new tick.kept before now → touched ≡ united removed before
      → (position : ℕ) → is_among position (keys tick.old.rows) ≡ true → is_among position touched ≡ false → Stays tick.old tick.new shifts position
  stays removed before now touched shifts is_removed is_shift compared both position here outside =
      subst (λ ranges. Stays tick.old tick.new ranges position) (sym is_shift) (go (of_named (λ (pair : KeyPair). pair.old) (Known before) position tick.kept all_known own))
    where
      neither : (a b : Bool) → (a || b) ≡ false → (a ≡ false) × (b ≡ false)
      neither true b h = absurd (true≢false h)
      neither false b h = (refl, h)

      apart : (is_among position removed ≡ false) × (is_among position before ≡ false)
      apart = neither (is_among position removed) (is_among position before) (sym (among-united position removed before) ∙ ap (is_among position) (sym both) ∙ outside)

      kept : is_among position (without (between tick).removed (keys tick.old.rows)) ≡ true
      kept = run_kept (between tick).removed (keys tick.old.rows) position here (ap (is_among position) (sym is_removed) ∙ apart.0)

      own : is_among position (old_keys tick.kept) ≡ true
      own = ap (is_among position) (sym (staying_are tick sorted_tick)) ∙ kept

      all_known : AllByRecursion (Known before) tick.kept
      all_known =
          every_both (λ (pair : KeyPair). as_key (moved (shifted tick.kept) pair.old) ≡ pair.new) (λ (pair : KeyPair). (is_among pair.new (keys tick.new.rows) ≡ true) × Unchanged before pair) (Known before) tick.kept
          (λ pair moves rest. (moves, rest.0, rest.1))
          (each_moved tick.kept sorted_tick.rising_old)
          (every_both (λ (pair : KeyPair). is_among pair.new (keys tick.new.rows) ≡ true) (Unchanged before) (λ (pair : KeyPair). (is_among pair.new (keys tick.new.rows) ≡ true) × Unchanged before pair) tick.kept (λ pair there same. (there, same))
          (every_unmapped (λ key. is_among key (keys tick.new.rows) ≡ true) (λ (pair : KeyPair). pair.new) tick.kept sorted_tick.of_new) (unchanged before now compared))

      lands : Lands (2 ^ 62) (shifted tick.kept) None (without (between tick).removed (keys tick.old.rows))
      lands = lawful (shifted tick.kept) (without (between tick).removed (keys tick.old.rows)) (shift_keeps_order tick sorted_tick)

      go : (pair : KeyPair) × (Known before pair × (pair.old ≡ position)) → Stays tick.old tick.new (shifted tick.kept) position
      go (pair, (known, is)) =
          let place : as_key (moved (shifted tick.kept) position) ≡ pair.new = ap (λ k. as_key (moved (shifted tick.kept) k)) (sym is) ∙ known.0 in record {
            small =
                of_among (λ key. key < 2 ^ 62) position (keys tick.old.rows)
                (every-map (λ key. key < 2 ^ 62) (λ (row : PlainRow). row.key) tick.old.rows (every_weaker (IsRow tick.old.width) (λ (row : PlainRow). row.key < 2 ^ 62) tick.old.rows (λ row r. r.key) sorted_tick.old_table.rows)) here;
            inside = of_among (λ key. is_past (2 ^ 62) (moved (shifted tick.kept) key) ≡ false) position (without (between tick).removed (keys tick.old.rows)) lands.inside kept;
            here = ap (λ k. is_among k (keys tick.new.rows)) place ∙ known.1;
            same =
                ap (λ k. cells_at k tick.old.rows) (sym is)
                ∙ known.2 (ap (λ k. is_among k before) is ∙ apart.1)
                ∙ ap (λ k. cells_at k tick.new.rows) (sym place);
          }
