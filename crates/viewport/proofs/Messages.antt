-- The rows of a message, and what stands after it.
use Rattle.std.proofs.Common.{◌≡◌, refl, ap, ap₂, sym, ◌∙◌, subst, true, false, not, ◌&&◌, ℕ, ◌^◌, List, map, length, None, true≢false}
use Rattle.std.{specs.List.AllByRecursion, proofs.lemmas.List.length-map}
use Rattle.key_lists.{specs.Keys.{is_among, without}, proofs.Among.each_among, proofs.Every.{every, every-filter, every-map, every_unmapped, every_weaker, filter_all, filter_same, filter-map, map_map, map_own}}
use Rattle.row_changes.{specs.Parts.{AreCompared, AreParts, Parts, tick_along}, proofs.Comparing.pairs_of-keys}
use Rattle.shift_data.specs.Moves.{IsLawful, pairs_of, unapplied}
use Rattle.table_update.{specs.Coalesced.key_pairs, proofs.KeysAfter.rules_kept}
use Rattle.tick_laws.{specs.Replaced.no_update, proofs.Carried.pairs-between, proofs.OperatorTicks.all_both_in, proofs.SourceTicks.unchanged_tick, proofs.WholeUpdates.between-unchanged}
use Rattle.tick_model.{specs.declared.table.PlainTable.PlainTable, specs.declared.update.KeyPair.KeyPair, specs.declared.update.ShiftRange.ShiftRange, specs.Rules.{landed, update_fault}, specs.Shifts.{as_key, moved, shifted}, specs.Sources.{same_key, unchanged}, specs.Tables.{IsTable, keys}, specs.Updates.{IsTick, Update, both_in, differs, kept_pair, new_keys, old_keys, pairs}}
use Rattle.tick_table.{specs.Ticking.no_rows, proofs.Between.between_lawful}
use Rattle.viewport.{specs.declared.slice.Slice.Slice, specs.Slices.{IsSlice, cut, narrowed}, specs.Standing.{IsStanding, kept_tick}, proofs.SliceTables.{cut_table, cut_there, narrowed_keys, narrowed_table}}

module _ (slice : Slice) (last table : PlainTable) (kept : Update) (s : IsStanding slice last table kept) (t : IsTable table) where
  abbrev before : List ℕ
  before = keys last.rows

  abbrev now : List ℕ
  now = keys (cut slice table).rows

  abbrev staying : List ℕ
  staying = without kept.removed before

  abbrev place : ℕ → ℕ
  place key = as_key (moved kept.shifted key)

  -- the old keys of the rows that are in the slice still, and where they are now
  abbrev pub stayed : List ℕ
  stayed = unapplied kept.shifted staying now

  abbrev pub stay : List ℕ
  stay = landed kept.shifted stayed

  abbrev pub in_both : List KeyPair
  in_both = both_in last (cut slice table) (key_pairs before kept)

  staying_there : AllByRecursion (λ key. is_among key before ≡ true) staying
  staying_there = every-filter (λ key. is_among key before ≡ true) (λ key. not (is_among key kept.removed)) before (each_among before)

  in_both_are : in_both ≡ map (kept_pair kept) stayed
  in_both_are =
      filter-map (λ (pair : KeyPair). is_among pair.old before && is_among pair.new now) (kept_pair kept) staying
      ∙ ap (map (kept_pair kept)) (filter_same (λ key. is_among key before && is_among (place key) now) (λ key. is_among (place key) now) staying
      (every_weaker (λ key. is_among key before ≡ true) (λ key. (is_among key before && is_among (place key) now) ≡ is_among (place key) now) staying (λ key here. ap (λ b. b && is_among (place key) now) here) staying_there))

  old_are : old_keys in_both ≡ stayed
  old_are = ap old_keys in_both_are ∙ map_map (λ (pair : KeyPair). pair.old) (kept_pair kept) stayed ∙ map_own (λ key. key) stayed (every (λ key. key ≡ key) stayed (λ key. refl))

  new_are : new_keys in_both ≡ stay
  new_are = ap new_keys in_both_are ∙ map_map (λ (pair : KeyPair). pair.new) (kept_pair kept) stayed

  pub staying_lawful : IsLawful kept.shifted staying
  staying_lawful = (rules_kept (2 ^ 62) before kept s.lawful).shifted

  pub message_is_tick : IsTick (tick_along last (cut slice table) in_both)
  message_is_tick = all_both_in (kept_tick slice last table (key_pairs before kept)) last (cut slice table) s.tick s.tick.old_table (cut_table slice table t) s.tick.one_width

  pairs_are : pairs_of stayed stay ≡ in_both
  pairs_are = ap₂ pairs_of (sym old_are) (sym new_are) ∙ pairs_of-keys in_both

  all_compared : AllByRecursion (λ (pair : KeyPair). is_among pair.new stay ≡ true) in_both
  all_compared =
      every_unmapped (λ key. is_among key stay ≡ true) (λ (pair : KeyPair). pair.new) in_both
      (subst (λ ks. AllByRecursion (λ key. is_among key stay ≡ true) ks) (sym new_are) (each_among stay))

  compared_are : AreCompared last (cut slice table) in_both stayed stay
  compared_are = record {
    even = sym (length-map stayed place);
    compared = pairs_are ∙ sym (filter_same (λ (pair : KeyPair). is_among pair.new stay) (λ _. true) in_both all_compared ∙ filter_all in_both);
    others = every_weaker (λ (pair : KeyPair). is_among pair.new stay ≡ true) (λ (pair : KeyPair). is_among pair.new stay ≡ false → differs last (cut slice table) pair ≡ false) in_both (λ pair here absent. absurd (true≢false (sym here ∙ absent))) all_compared;
  }

  -- the rows that go, come, move and stay are the parts of the message
  pub message_parts : let parts : Parts = record { removed = without stayed before; added = without stay now; shifted = shifted (pairs_of stayed stay); compared_before = stayed; compared_now = stay } in
      AreParts last (cut slice table) parts in_both
  message_parts = record {
    tick = message_is_tick;
    removed = ap (λ ks. without ks before) (sym old_are);
    added = ap (λ ks. without ks now) (sym new_are);
    shifted = ap shifted pairs_are;
    compared = compared_are;
  }

  abbrev parts_with : List ℕ → List ℕ → List ShiftRange → List ℕ → List ℕ → Parts
  parts_with removed added shift old new = record { removed = removed; added = added; shifted = shift; compared_before = old; compared_now = new }

  pub parts_are : (removed added old new : List ℕ) (shift : List ShiftRange) → old ≡ stayed → new ≡ landed kept.shifted old → removed ≡ without old before → added ≡ without new now → shift ≡ shifted (pairs_of old new)
      → let parts : Parts = record { removed = removed; added = added; shifted = shift; compared_before = old; compared_now = new } in AreParts last (cut slice table) parts in_both
  parts_are removed added old new shift o n r a m =
      let news : new ≡ stay = n ∙ ap (landed kept.shifted) o in
      subst (λ parts. AreParts last (cut slice table) parts in_both)
      (sym (ap (λ ks. parts_with ks added shift old new) (r ∙ ap (λ ks. without ks before) o)
      ∙ ap (λ ks. parts_with (without stayed before) ks shift old new) (a ∙ ap (λ ks. without ks now) news)
      ∙ ap (λ ranges. parts_with (without stayed before) (without stay now) ranges old new) (m ∙ ap₂ (λ olds news. shifted (pairs_of olds news)) o news)
      ∙ ap₂ (parts_with (without stayed before) (without stay now) (shifted (pairs_of stayed stay))) o news))
      message_parts

-- where nothing has changed since, each row is kept as it is
pub none_kept : (table : PlainTable) → IsTable table → key_pairs (keys table.rows) no_update ≡ map same_key (keys table.rows)
none_kept table t = sym (ap (pairs table) (between-unchanged table)) ∙ pairs-between (unchanged table) (unchanged_tick table t)

none_lawful : (table : PlainTable) → IsTable table → update_fault (2 ^ 62) (keys table.rows) no_update ≡ None
none_lawful table t = sym (ap (update_fault (2 ^ 62) (keys table.rows)) (between-unchanged table)) ∙ between_lawful (unchanged table) (unchanged_tick table t)

same_tick : (slice : Slice) (table : PlainTable) → IsTable table → IsTick (kept_tick slice (cut slice table) table (map same_key (keys (cut slice table).rows)))
same_tick slice table t =
    let own = unchanged_tick (cut slice table) (cut_table slice table t) in
    record {
      old_table = cut_table slice table t;
      new_table = narrowed_table slice.columns table t;
      one_width = refl;
      of_old = own.of_old;
      of_new =
          every-map (λ key. is_among key (keys (narrowed slice.columns table).rows) ≡ true) (λ (pair : KeyPair). pair.new) (map same_key (keys (cut slice table).rows))
          (every-map (λ (pair : KeyPair). is_among pair.new (keys (narrowed slice.columns table).rows) ≡ true) same_key (keys (cut slice table).rows)
          (subst (λ ks. AllByRecursion (λ key. is_among key ks ≡ true) (keys (cut slice table).rows)) (sym (narrowed_keys slice.columns table)) (cut_there slice table)));
      rising_old = own.rising_old;
      rising_new = own.rising_new;
    }

-- after a message the rows of the slice are those to follow
pub started_stands : (slice : Slice) (table : PlainTable) → IsSlice table.width slice → IsTable table → IsStanding slice (cut slice table) table no_update
started_stands slice table asked t = record {
  asked = asked;
  tick = subst (λ these. IsTick (kept_tick slice (cut slice table) table these)) (sym (none_kept (cut slice table) (cut_table slice table t))) (same_tick slice table t);
  lawful = none_lawful (cut slice table) (cut_table slice table t);
  none_added = refl;
  none_modified = refl;
}

-- before the first message there are none
pub empty_stands : (slice : Slice) (table : PlainTable) → IsSlice table.width slice → IsTable table → IsStanding slice (no_rows (length slice.columns)) table no_update
empty_stands slice table asked t = record {
  asked = asked;
  tick = record {
    old_table = record { rows = tt; rising = tt };
    new_table = narrowed_table slice.columns table t;
    one_width = refl;
    of_old = tt;
    of_new = tt;
    rising_old = tt;
    rising_new = tt;
  };
  lawful = refl;
  none_added = refl;
  none_modified = refl;
}
