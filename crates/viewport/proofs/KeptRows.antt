-- What became of some rows of a table over one more step.
use Rattle.std.proofs.Common.{◌≡◌, refl, ap, ap₂, sym, ◌∙◌, subst, Bool, true, false, cond, not, ◌&&◌, ◌||◌, ◌++◌, ℕ, ◌^◌, ◌==◌, List, [], ◌∷◌, map, filter, Some, None, Option}
use Rattle.std.{specs.Prelude.{find, option_map}, specs.List.{AllByRecursion, cons_option}, specs.Option.option_or, proofs.lemmas.Bool.eqb-true}
use Rattle.key_lists.{specs.Keys.{is_among, IsRising, without}, proofs.Among.{among-filter, each_among, of_among}, proofs.Every.{every_unmapped, every_weaker, filter_passes, find_none}, proofs.Rising.{rising_same, rising_some}}
use Rattle.row_changes.specs.Parts.{tick_along}
use Rattle.row_set.specs.Sets.{united}
use Rattle.shift_data.specs.Moves.{IsLawful}
use Rattle.table_update.{specs.Coalesced.{coalesced, key_pairs, kept_by_both}, proofs.CoalescedKeys.{united_added, united_modified}, proofs.KeysAfter.rules_kept, proofs.LawfulParts.lawful_some}
use Rattle.tick_laws.{specs.Checked.{keys_after, put_keys}, proofs.Carried.pairs-between, proofs.Composed.composed_tick}
use Rattle.tick_model.{specs.declared.table.PlainTable.PlainTable, specs.declared.update.KeyPair.KeyPair, specs.declared.update.UpdateFault.UpdateFault, specs.declared.update.UpdateFault.TheVariants.{RemovedAbsent, AddedTaken, ModifiedAbsent, ModifiedAdded}, specs.Rules.{landed, shift_fault, update_fault}, specs.Shifts.{as_key, composed, moved, shifted}, specs.Tables.keys, specs.Updates.{IsTick, Update, between, kept_pair, new_keys, old_keys, pairs}}
use Rattle.tick_table.{specs.Exact.{IsExact, tick_of}, specs.Ticking.Ticking, proofs.Between.{between_lawful, new_keys-pairs, shift_keeps_order}}
use Rattle.viewport.{specs.declared.slice.Slice.Slice, specs.Passing.passing, specs.Slices.{IsSlice, narrowed}, specs.Standing.{IsStanding, kept_tick}, proofs.SliceTables.{narrowed_keys, narrowed_table}}

-- an update that adds and modifies nothing breaks no rule where it removes and moves as it may
pub bare_lawful : (old : List ℕ) (update : Update) → find (λ key. not (is_among key old)) update.removed ≡ None → shift_fault (2 ^ 62) update.shifted (without update.removed old) ≡ None
    → update.added ≡ [] → update.modified ≡ [] → update_fault (2 ^ 62) old update ≡ None
bare_lawful old update removed shift added modified =
    let places = landed update.shifted (without update.removed old) in
    ap₂ (λ (a m : List ℕ). option_or (option_map RemovedAbsent (find (λ key. not (is_among key old)) update.removed)) (option_or (shift_fault (2 ^ 62) update.shifted (without update.removed old)) (option_or (option_map AddedTaken (find (λ key. is_among key places) a)) (option_or (option_map ModifiedAbsent (find (λ key. not (is_among key (places ++ a))) m)) (option_map ModifiedAdded (find (λ key. is_among key a) m)))))) added modified
    ∙ ap (λ (found : Option ℕ). option_or (option_map RemovedAbsent found) (option_or (shift_fault (2 ^ 62) update.shifted (without update.removed old)) None)) removed
    ∙ ap (λ (fault : Option UpdateFault). option_or fault None) shift

-- pairs that lead on alike
composed_same : (kept next other : List KeyPair) → AllByRecursion (λ (pair : KeyPair). find (λ (further : KeyPair). further.old == pair.new) next ≡ find (λ (further : KeyPair). further.old == pair.new) other) kept → composed kept next ≡ composed kept other
composed_same [] next other h = refl
composed_same (pair ∷ kept) next other h =
    ap₂ (λ (o : Option KeyPair) (pairs : List KeyPair). cons_option (option_map (λ (further : KeyPair). let on : KeyPair = record { old = pair.old; new = further.new } in on) o) pairs) h.0 (composed_same kept next other h.1)

find_pair : (update : Update) (place : ℕ) (ks : List ℕ) → find (λ (further : KeyPair). further.old == place) (map (kept_pair update) ks) ≡ cond (is_among place ks) (Some (kept_pair update place)) None
find_pair update place [] = refl
find_pair update place (key ∷ ks) =
    (elim (key == place) as (λ b. (key == place) ≡ b → cond b (Some (kept_pair update key)) (find (λ (further : KeyPair). further.old == place) (map (kept_pair update) ks)) ≡ cond (b || is_among place ks) (Some (kept_pair update place)) None) [
      | true ↦ λ e. ap (λ k. Some (kept_pair update k)) (eqb-true key place e)
      | false ↦ λ e. find_pair update place ks
    ]) refl

some_stay : (p r o : Bool) → (p ≡ true → o ≡ true) → (not (p && r) && p) ≡ (p && (not r && o))
some_stay true true o h = refl
some_stay true false true h = refl
some_stay true false false h = sym (h refl)
some_stay false r o h = refl

module _ (slice : Slice) (last : PlainTable) (kept : Update) (t : Ticking) (e : IsExact t) (s : IsStanding slice last t.old kept) where
  abbrev before : List ℕ
  before = keys last.rows

  abbrev now : List ℕ
  now = keys t.old.rows

  abbrev places : List ℕ
  places = keys_after before kept

  abbrev pub step : Update
  step = passing places t.update

  abbrev pub both : Update
  both = coalesced before kept step

  places_are : places ≡ new_keys (key_pairs before kept)
  places_are = ap (λ added. put_keys added (landed kept.shifted (without kept.removed before))) s.none_added ∙ sym (new_keys-pairs last kept)

  places_rise : IsRising places
  places_rise = subst IsRising (sym places_are) s.tick.rising_new

  places_there : AllByRecursion (λ key. is_among key now ≡ true) places
  places_there =
      subst (AllByRecursion (λ key. is_among key now ≡ true)) (sym places_are)
      (subst (λ ks. AllByRecursion (λ key. is_among key ks ≡ true) (new_keys (key_pairs before kept))) (narrowed_keys slice.columns t.old) s.tick.of_new)

  exact_shift : IsLawful t.update.shifted (without t.update.removed now)
  exact_shift = subst (λ (update : Update). IsLawful update.shifted (without update.removed now)) (sym e.update) (shift_keeps_order (tick_of t) e.tick)

  -- the rows that the step leaves of the kept ones
  left : without step.removed places ≡ filter (λ key. is_among key places) (without t.update.removed now)
  left =
      rising_same (without step.removed places) (filter (λ key. is_among key places) (without t.update.removed now))
      (rising_some (λ key. not (is_among key step.removed)) places places_rise)
      (rising_some (λ key. is_among key places) (without t.update.removed now) (rising_some (λ key. not (is_among key t.update.removed)) now e.tick.old_table.rising))
      (λ key.
      among-filter (λ key. not (is_among key step.removed)) key places
      ∙ ap (λ b. not b && is_among key places) (among-filter (λ key. is_among key places) key t.update.removed)
      ∙ some_stay (is_among key places) (is_among key t.update.removed) (is_among key now) (of_among (λ key. is_among key now ≡ true) key places places_there)
      ∙ sym (among-filter (λ key. is_among key places) key (without t.update.removed now) ∙ ap (λ b. is_among key places && b) (among-filter (λ key. not (is_among key t.update.removed)) key now)))

  step_shift : IsLawful step.shifted (without step.removed places)
  step_shift = subst (IsLawful t.update.shifted) (sym left) (lawful_some t.update.shifted (λ key. is_among key places) (without t.update.removed now) exact_shift)

  -- the step may be taken
  pub step_lawful : update_fault (2 ^ 62) places step ≡ None
  step_lawful =
      bare_lawful places step
      (find_none (λ key. not (is_among key places)) step.removed
      (every_weaker (λ key. is_among key places ≡ true) (λ key. not (is_among key places) ≡ false) step.removed (λ key h. ap not h) (filter_passes (λ key. is_among key places) t.update.removed)))
      step_shift refl refl

  -- it keeps of these rows what it keeps of the table
  leads_alike : (place : ℕ) → is_among place places ≡ true → find (λ (further : KeyPair). further.old == place) (key_pairs places step) ≡ find (λ (further : KeyPair). further.old == place) (pairs t.old t.update)
  leads_alike place here =
      find_pair step place (without step.removed places)
      ∙ ap (λ b. cond b (Some (kept_pair t.update place)) None)
      (ap (is_among place) left ∙ among-filter (λ key. is_among key places) place (without t.update.removed now) ∙ ap (λ b. b && is_among place (without t.update.removed now)) here)
      ∙ sym (find_pair t.update place (without t.update.removed now))

  abbrev further : List KeyPair
  further = composed (key_pairs before kept) (pairs t.old t.update)

  both_kept : kept_by_both before kept step ≡ further
  both_kept =
      composed_same (key_pairs before kept) (key_pairs places step) (pairs t.old t.update)
      (every_weaker (λ (pair : KeyPair). is_among pair.new places ≡ true) (λ (pair : KeyPair). find (λ (further : KeyPair). further.old == pair.new) (key_pairs places step) ≡ find (λ (further : KeyPair). further.old == pair.new) (pairs t.old t.update)) (key_pairs before kept)
      (λ pair here. leads_alike pair.new here)
      (every_unmapped (λ key. is_among key places ≡ true) (λ (pair : KeyPair). pair.new) (key_pairs before kept)
      (subst (λ ks. AllByRecursion (λ key. is_among key places ≡ true) ks) places_are (each_among places))))

  narrow_tick : IsTick (tick_along (narrowed slice.columns t.old) (narrowed slice.columns t.new) (pairs t.old t.update))
  narrow_tick = record {
    old_table = narrowed_table slice.columns t.old e.tick.old_table;
    new_table = narrowed_table slice.columns t.new e.tick.new_table;
    one_width = refl;
    of_old = subst (λ ks. AllByRecursion (λ key. is_among key ks ≡ true) (old_keys (pairs t.old t.update))) (sym (narrowed_keys slice.columns t.old)) e.tick.of_old;
    of_new = subst (λ ks. AllByRecursion (λ key. is_among key ks ≡ true) (new_keys (pairs t.old t.update))) (sym (narrowed_keys slice.columns t.new)) e.tick.of_new;
    rising_old = e.tick.rising_old;
    rising_new = e.tick.rising_new;
  }

  further_tick : IsTick (kept_tick slice last t.new further)
  further_tick = composed_tick (kept_tick slice last t.old (key_pairs before kept)) (tick_along (narrowed slice.columns t.old) (narrowed slice.columns t.new) (pairs t.old t.update)) s.tick narrow_tick refl

  -- the pairs of an update that removes and moves as pairs have it
  pairs_by : List KeyPair → List KeyPair
  pairs_by these = map (λ key. let pair : KeyPair = record { old = key; new = as_key (moved (shifted these) key) } in pair) (without (without (old_keys these) before) before)

  -- the two updates together keep what is composed
  pub both_pairs : key_pairs before both ≡ further
  unfolding pairs_by
  both_pairs = ap pairs_by both_kept ∙ pairs-between (kept_tick slice last t.new further) further_tick

  none_rise : (ks : List ℕ) → ks ≡ [] → IsRising ks
  none_rise ks none = subst IsRising (sym none) tt

  none_added : both.added ≡ []
  none_added =
      sym (united_added before kept step s.lawful step_lawful (none_rise kept.added s.none_added) tt)
      ∙ ap (λ added. united (landed step.shifted (without step.removed added)) []) s.none_added

  none_modified : both.modified ≡ []
  none_modified =
      sym (united_modified before kept step s.lawful step_lawful (none_rise kept.added s.none_added) (none_rise kept.modified s.none_modified) tt)
      ∙ ap (λ modified. united (landed step.shifted (without step.removed modified)) []) s.none_modified

  both_lawful : update_fault (2 ^ 62) before both ≡ None
  both_lawful =
      let rules = rules_kept (2 ^ 62) before (between (kept_tick slice last t.new further)) (between_lawful (kept_tick slice last t.new further) further_tick) in
      bare_lawful before both
      (subst (λ these. find (λ key. not (is_among key before)) (without (old_keys these) before) ≡ None) (sym both_kept) rules.removed)
      (subst (λ these. shift_fault (2 ^ 62) (shifted these) (without (without (old_keys these) before) before) ≡ None) (sym both_kept) rules.shifted)
      none_added none_modified

  -- so the rows that the last message left are followed over the step
  pub passed_stands : IsStanding slice last t.new both
  passed_stands = record {
    asked = subst (λ width. IsSlice width slice) (sym e.tick.one_width) s.asked;
    tick = subst (λ these. IsTick (kept_tick slice last t.new these)) (sym both_pairs) further_tick;
    lawful = both_lawful;
    none_added = none_added;
    none_modified = none_modified;
  }
