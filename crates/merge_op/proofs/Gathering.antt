-- What is gathered of the inputs are the parts of the merge's change.
use Rattle.std.proofs.Common.{◌≡◌, refl, ap, ap₂, sym, ◌∙◌, subst, true, false, ℕ, ◌<◌, ◌^◌, List, map, filter, length, ℤ, None, pos, ◌-ℤ◌}
use Rattle.std.specs.List.{AllByRecursion}
use Rattle.key_lists.{specs.Keys.{is_among, without}, proofs.Every.{every_both, every_unmapped, every_weaker, every-map}}
use Rattle.row_changes.specs.Parts.{AreParts, Parts}
use Rattle.shift_data.{proofs.Parting.canonical_goes, specs.Moves.{IsLawful, canonical, pair_by, pairs_of}}
use Rattle.tick_laws.proofs.Moves.{each_moved}
use Rattle.tick_model.{specs.declared.update.KeyPair.KeyPair, specs.declared.update.ShiftRange.ShiftRange, specs.Shifts.{as_key, delta_at, moved, shifted}, specs.Tables.keys, specs.Updates.{IsTick, between, differs, old_keys}}
use Rattle.tick_table.{proofs.Between.{shift_keeps_order, staying_are}, specs.Exact.{IsExact, tick_of}, specs.Ticking.Ticking}
use Rattle.merge_op.{specs.Merged.merged, specs.Regions.{in_regions, moves, room_before, room_now}, proofs.Apart.AreBelow, proofs.Looked.others, proofs.Moving.{fault_same, moves_are, pairs_by}, proofs.Paired.{compared, even, modified_before, modified_now}, proofs.Ticked.{added_are, below_before, below_kept_before, below_kept_now, below_now, removed_are}}

module _ (ts : List Ticking) (e : AllByRecursion IsExact ts) (tick : IsTick (merged ts)) (modified_below : AreBelow room_now modified_now ts) (shifts : List ShiftRange) (agrees : AllByRecursion (λ key. delta_at shifts key ≡ moves 0 0 ts key) (old_keys (merged ts).kept)) where
  moved_so : AllByRecursion (λ (pair : KeyPair). pos pair.new -ℤ pos pair.old ≡ moves 0 0 ts pair.old) (merged ts).kept
  moved_so = moves_are 0 0 ts e (below_kept_before ts e)

  -- the keys that stay
  staying : without (between (merged ts)).removed (keys (merged ts).old.rows) ≡ old_keys (merged ts).kept
  staying = staying_are (merged ts) tick

  shifted_are : canonical shifts (without (between (merged ts)).removed (keys (merged ts).old.rows)) ≡ (between (merged ts)).shifted
  shifted_are = ap (λ ks. shifted (map (pair_by shifts) ks)) staying ∙ ap shifted (pairs_by shifts (merged ts).kept (moves 0 0 ts) moved_so agrees)

  -- the merge's own shift moves them by as much
  own_moves : AllByRecursion (λ key. delta_at shifts key ≡ delta_at (between (merged ts)).shifted key) (old_keys (merged ts).kept)
  own_moves =
      every-map (λ key. delta_at shifts key ≡ delta_at (between (merged ts)).shifted key) (λ (pair : KeyPair). pair.old) (merged ts).kept
      (every_both (λ (pair : KeyPair). delta_at shifts pair.old ≡ pos pair.new -ℤ pos pair.old) (λ (pair : KeyPair). pos pair.new -ℤ pos pair.old ≡ delta_at (between (merged ts)).shifted pair.old) (λ (pair : KeyPair). delta_at shifts pair.old ≡ delta_at (between (merged ts)).shifted pair.old) (merged ts).kept
      (λ pair a b. a ∙ b)
      (every_both (λ (pair : KeyPair). delta_at shifts pair.old ≡ moves 0 0 ts pair.old) (λ (pair : KeyPair). pos pair.new -ℤ pos pair.old ≡ moves 0 0 ts pair.old) (λ (pair : KeyPair). delta_at shifts pair.old ≡ pos pair.new -ℤ pos pair.old) (merged ts).kept
      (λ pair a b. a ∙ sym b) (every_unmapped (λ key. delta_at shifts key ≡ moves 0 0 ts key) (λ (pair : KeyPair). pair.old) (merged ts).kept agrees) moved_so)
      (every_both (λ (pair : KeyPair). as_key (moved (shifted (merged ts).kept) pair.old) ≡ pair.new) (λ (pair : KeyPair). pos (as_key (moved (between (merged ts)).shifted pair.old)) -ℤ pos pair.old ≡ delta_at (between (merged ts)).shifted pair.old) (λ (pair : KeyPair). pos pair.new -ℤ pos pair.old ≡ delta_at (between (merged ts)).shifted pair.old) (merged ts).kept
      (λ pair new by. ap (λ l. pos l -ℤ pos pair.old) (sym new) ∙ by)
      (each_moved (merged ts).kept tick.rising_old)
      (every_unmapped (λ key. pos (as_key (moved (between (merged ts)).shifted key)) -ℤ pos key ≡ delta_at (between (merged ts)).shifted key) (λ (pair : KeyPair). pair.old) (merged ts).kept
      (subst (AllByRecursion (λ key. pos (as_key (moved (between (merged ts)).shifted key)) -ℤ pos key ≡ delta_at (between (merged ts)).shifted key)) staying
      (canonical_goes (between (merged ts)).shifted (without (between (merged ts)).removed (keys (merged ts).old.rows)) (shift_keeps_order (merged ts) tick)).by))))

  pub lawful : IsLawful shifts (without (between (merged ts)).removed (keys (merged ts).old.rows))
  lawful =
      fault_same (2 ^ 62) shifts (between (merged ts)).shifted None (without (between (merged ts)).removed (keys (merged ts).old.rows)) tt
      (subst (AllByRecursion (λ key. delta_at shifts key ≡ delta_at (between (merged ts)).shifted key)) (sym staying) own_moves)
      ∙ shift_keeps_order (merged ts) tick

  pub gathered : (parts : Parts) → parts.removed ≡ in_regions (λ t. t.update.removed) room_before 0 ts → parts.added ≡ in_regions (λ t. t.update.added) room_now 0 ts
      → parts.shifted ≡ canonical shifts (without parts.removed (keys (merged ts).old.rows)) → parts.compared_before ≡ in_regions modified_before room_before 0 ts → parts.compared_now ≡ in_regions modified_now room_now 0 ts
      → AreParts (merged ts).old (merged ts).new parts (merged ts).kept
  gathered parts removed added shift old new = record {
    tick = tick;
    removed = removed ∙ removed_are ts e;
    added = added ∙ added_are ts e;
    shifted = shift ∙ ap (λ ks. canonical shifts (without ks (keys (merged ts).old.rows))) (removed ∙ removed_are ts e) ∙ shifted_are;
    compared = record {
      even = ap length old ∙ even 0 0 ts e ∙ ap length (sym new);
      compared = ap₂ pairs_of old new ∙ compared 0 0 ts e modified_below (below_kept_now ts e) ∙ ap (λ (ks : List ℕ). filter (λ (pair : KeyPair). is_among pair.new ks) (merged ts).kept) (sym new);
      others = subst (λ (ks : List ℕ). AllByRecursion (λ pair. is_among pair.new ks ≡ false → differs (merged ts).old (merged ts).new pair ≡ false) (merged ts).kept) (sym new) (others 0 0 ts e (below_before ts e) (below_now ts e) (below_kept_now ts e) modified_below);
    };
  }
