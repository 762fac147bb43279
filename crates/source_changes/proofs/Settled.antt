-- The update that two updates of a table make together may be applied, and leaves the keys that both leave.
use Rattle.std.proofs.Common.{◌≡◌, refl, ap, ap₂, sym, ◌∙◌, subst, Bool, true, false, cond, not, ◌||◌, ℕ, ◌<◌, ◌^◌, List, [], ◌++◌, map, filter, None, lit≤}
use Rattle.std.{specs.List.AllByRecursion, proofs.lemmas.List.map-id}
use Rattle.key_lists.{specs.Keys.{is_among, IsRising, without}, proofs.Among.{among-append, each_among, of_among}, proofs.Every.{every_weaker, every-append, every-filter, every-map, every_unmapped, map_map, find_none}}
use Rattle.row_set.specs.Sets.{IsKeySet, united}
use Rattle.table_update.{specs.Coalesced.{coalesced, is_modified, kept_by_both, key_pairs, modified_by_both}, proofs.KeysAfter.{KeepsRules, rules_kept}}
use Rattle.tick_laws.{specs.Checked.{IsChecked, carried_tick, keys_after}, specs.Replaced.followed, proofs.Carried.pairs-between, proofs.CheckedUpdates.{keys-carry, tick-carry}, proofs.Composed.composed_tick, proofs.ToldRows.none_without}
use Rattle.tick_model.{specs.declared.table.PlainRow.PlainRow, specs.declared.table.PlainTable.PlainTable, specs.declared.update.KeyPair.KeyPair, specs.declared.update.ShiftRange.ShiftRange, specs.Changes.{is_empty, is_none, told_keys}, specs.Rules.{landed, update_fault}, specs.Shifts.{composed, shifted}, specs.Tables.{IsRow, IsTable, keys}, specs.Updates.{IsTick, Tick, Update, between, new_keys, old_keys}}
use Rattle.tick_table.proofs.Between.{between_lawful, keys_after_between, new_keys-pairs}
use Rattle.source_changes.{specs.Stepping.{first_update, update_after}, proofs.Followed.{after_added, after_modified, after_removed, after_shifted}, proofs.Standing.none_broken}

-- rows without cells, and a table of them
abbrev bare : ℕ → PlainRow
bare key = record { key = key; cells = [] }

abbrev bare_table : List ℕ → PlainTable
bare_table ks = record { width = 0; rows = map bare ks }

bare_keys : (ks : List ℕ) → keys (map bare ks) ≡ ks
bare_keys ks = map_map (λ (row : PlainRow). row.key) bare ks ∙ map-id ks

bare_rows : (ks : List ℕ) → AllByRecursion (λ key. key < 2 ^ 62) ks → AllByRecursion (IsRow 0) (map bare ks)
bare_rows ks below = every-map (IsRow 0) bare ks (every_weaker (λ key. key < 2 ^ 62) (λ key. IsRow 0 (bare key)) ks (λ key less. record { key = less; whole = refl }) below)

is_bare_table : (ks : List ℕ) → IsKeySet ks → IsTable (bare_table ks)
is_bare_table ks set = record { rows = bare_rows ks set.small; rising = subst IsRising (sym (bare_keys ks)) set.rising }

-- what an update makes of a table without cells
abbrev bare_tick : PlainTable → Update → Tick
bare_tick table update = carried_tick table update (map bare (told_keys update))

module _ (table : PlainTable) (h : IsTable table) (narrow : table.width ≡ 0) (update : Update) (applies : update_fault (2 ^ 62) (keys table.rows) update ≡ None)
    (added_set : IsKeySet update.added) (modified_set : IsKeySet update.modified) where
  checked : IsChecked (2 ^ 62) (keys table.rows) update
  checked = record { breaks_none = applies; added_rise = added_set.rising }

  is_bare_tick : IsTick (bare_tick table update)
  is_bare_tick =
      tick-carry (2 ^ 62) table update (map bare (told_keys update)) checked (bare_keys (told_keys update)) (lit≤ tt) h
      (subst (λ width. AllByRecursion (IsRow width) (map bare (told_keys update))) (sym narrow)
      (bare_rows (told_keys update) (every-append (λ key. key < 2 ^ 62) update.added update.modified added_set.small modified_set.small)))

  bare_after : keys (bare_tick table update).new.rows ≡ keys_after (keys table.rows) update
  bare_after = keys-carry (2 ^ 62) table update (map bare (told_keys update)) checked (bare_keys (told_keys update))

-- the update between the tables of a tick, naming other rows that stay as modified
abbrev naming : Tick → List ℕ → List ℕ → Update
naming tick modified columns = record (between tick) { modified = modified; columns = columns }

module _ (tick : Tick) (h : IsTick tick) (modified columns : List ℕ) (modified_stay : AllByRecursion (λ key. is_among key (new_keys tick.kept) ≡ true) modified) where
  abbrev named : Update
  named = naming tick modified columns

  abbrev places : List ℕ
  places = landed named.shifted (without named.removed (keys tick.old.rows))

  places_are : places ≡ new_keys tick.kept
  places_are = sym (new_keys-pairs tick.old (between tick)) ∙ ap new_keys (pairs-between tick h)

  between_rules : KeepsRules (2 ^ 62) (keys tick.old.rows) (between tick)
  between_rules = rules_kept (2 ^ 62) (keys tick.old.rows) (between tick) (between_lawful tick h)

  named_rules : KeepsRules (2 ^ 62) (keys tick.old.rows) named
  named_rules = record {
    removed = between_rules.removed;
    shifted = between_rules.shifted;
    added = between_rules.added;
    modified =
        find_none (λ key. not (is_among key (places ++ named.added))) modified
        (every_weaker (λ key. is_among key (new_keys tick.kept) ≡ true) (λ key. not (is_among key (places ++ named.added)) ≡ false) modified
        (λ key own. ap not (among-append key places named.added ∙ ap (λ ks. is_among key ks || is_among key named.added) places_are ∙ ap (λ b. b || is_among key named.added) own)) modified_stay);
    apart =
        find_none (λ key. is_among key named.added) modified
        (every_weaker (λ key. is_among key (new_keys tick.kept) ≡ true) (λ key. is_among key named.added ≡ false) modified
        (λ key own. of_among (λ k. is_among k named.added ≡ false) key (new_keys tick.kept) (none_without (new_keys tick.kept) (keys tick.new.rows)) own) modified_stay);
  }

  named_applies : update_fault (2 ^ 62) (keys tick.old.rows) named ≡ None
  named_applies = none_broken (2 ^ 62) (keys tick.old.rows) named named_rules

  named_after : keys_after (keys tick.old.rows) named ≡ keys tick.new.rows
  named_after = keys_after_between tick h

  named_pairs : key_pairs (keys tick.old.rows) named ≡ tick.kept
  named_pairs = pairs-between tick h

module _ (old : List ℕ) (first next : Update) (applies : update_fault (2 ^ 62) old first ≡ None) (follows : update_fault (2 ^ 62) (keys_after old first) next ≡ None)
    (old_set : IsKeySet old) (first_added : IsKeySet first.added) (first_modified : IsKeySet first.modified)
    (next_removed : IsKeySet next.removed) (next_added : IsKeySet next.added) (next_modified : IsKeySet next.modified) where
  -- the ticks of both, and of the one after the other, of tables without cells
  abbrev first_tick : Tick
  first_tick = bare_tick (bare_table old) first

  abbrev next_tick : Tick
  next_tick = bare_tick first_tick.new next

  abbrev both : Tick
  both = followed first_tick next_tick

  first_applies : update_fault (2 ^ 62) (keys (map bare old)) first ≡ None
  first_applies = ap (λ ks. update_fault (2 ^ 62) ks first) (bare_keys old) ∙ applies

  is_first_tick : IsTick first_tick
  is_first_tick = is_bare_tick (bare_table old) (is_bare_table old old_set) refl first first_applies first_added first_modified

  middle_is : keys first_tick.new.rows ≡ keys_after old first
  middle_is =
      bare_after (bare_table old) (is_bare_table old old_set) refl first first_applies first_added first_modified
      ∙ ap (λ ks. keys_after ks first) (bare_keys old)

  next_applies : update_fault (2 ^ 62) (keys first_tick.new.rows) next ≡ None
  next_applies = ap (λ ks. update_fault (2 ^ 62) ks next) middle_is ∙ follows

  is_next_tick : IsTick next_tick
  is_next_tick = is_bare_tick first_tick.new is_first_tick.new_table refl next next_applies next_added next_modified

  is_both : IsTick both
  is_both = composed_tick first_tick next_tick is_first_tick is_next_tick refl

  last_is : keys both.new.rows ≡ keys_after (keys_after old first) next
  last_is = bare_after first_tick.new is_first_tick.new_table refl next next_applies next_added next_modified ∙ ap (λ ks. keys_after ks next) middle_is

  kept_is : both.kept ≡ kept_by_both old first next
  kept_is = ap₂ (λ (ks others : List ℕ). composed (key_pairs ks first) (key_pairs others next)) (bare_keys old) middle_is

  abbrev changed : List ℕ
  changed = modified_by_both old first next

  changed_stay : AllByRecursion (λ key. is_among key (new_keys both.kept) ≡ true) changed
  changed_stay =
      subst (λ (kept : List KeyPair). AllByRecursion (λ key. is_among key (new_keys kept) ≡ true) changed) (sym kept_is)
      (every-map (λ key. is_among key (new_keys (kept_by_both old first next)) ≡ true) (λ (pair : KeyPair). pair.new) (filter (is_modified first next) (kept_by_both old first next))
      (every-filter (λ (pair : KeyPair). is_among pair.new (new_keys (kept_by_both old first next)) ≡ true) (is_modified first next) (kept_by_both old first next)
      (every_unmapped (λ key. is_among key (new_keys (kept_by_both old first next)) ≡ true) (λ (pair : KeyPair). pair.new) (kept_by_both old first next) (each_among (new_keys (kept_by_both old first next))))))

  abbrev together : Update
  together = coalesced old first next

  -- the update that both make is the one between the tables, with the rows that they name
  abbrev update_between : List ℕ → List ℕ → List KeyPair → Update
  update_between ks others kept = record { removed = without (old_keys kept) ks; added = without (new_keys kept) others; modified = changed; shifted = shifted kept; columns = together.columns }

  together_is : together ≡ naming both changed together.columns
  together_is =
      sym (ap₂ (λ (ks others : List ℕ). update_between ks others both.kept) (bare_keys old) last_is
      ∙ ap (update_between old (keys_after (keys_after old first) next)) kept_is)

  pub coalesced_keys : keys_after old (coalesced old first next) ≡ keys_after (keys_after old first) next
  coalesced_keys =
      ap₂ keys_after (sym (bare_keys old)) together_is
      ∙ named_after both is_both changed together.columns changed_stay
      ∙ last_is

  pub coalesced_applies : update_fault (2 ^ 62) old (coalesced old first next) ≡ None
  coalesced_applies = ap₂ (update_fault (2 ^ 62)) (sym (bare_keys old)) together_is ∙ named_applies both is_both changed together.columns changed_stay

  pub key_pairs_both : key_pairs old (coalesced old first next) ≡ kept_by_both old first next
  key_pairs_both = ap₂ key_pairs (sym (bare_keys old)) together_is ∙ named_pairs both is_both changed together.columns changed_stay ∙ kept_is

  pub coalesced_plain : first.columns ≡ [] → next.columns ≡ [] → (coalesced old first next).columns ≡ []
  coalesced_plain none also_none = ap₂ (λ (columns others : List ℕ). cond (is_none changed) [] (united columns others)) none also_none ∙ either (is_none changed)
    where
      either : (b : Bool) → cond b [] (united [] []) ≡ []
      either true = refl
      either false = refl

  -- the update after both has the parts of the one that they make, but for its columns
  abbrev settled : Update
  settled = update_after old first next

  settled_is : settled ≡ record together { columns = settled.columns }
  settled_is =
      ap₂ (λ (removed added : List ℕ). let update : Update = record { removed = removed; added = added; modified = settled.modified; shifted = settled.shifted; columns = settled.columns } in update)
      (after_removed old first next applies follows old_set.rising first_added.rising first_modified.rising next_removed.rising next_added.rising next_modified.rising)
      (after_added old first next applies follows old_set.rising first_added.rising first_modified.rising next_removed.rising next_added.rising next_modified.rising)
      ∙ ap₂ (λ (modified : List ℕ) (shifts : List ShiftRange). let update : Update = record { removed = together.removed; added = together.added; modified = modified; shifted = shifts; columns = settled.columns } in update)
      (after_modified old first next applies follows old_set.rising first_added.rising first_modified.rising next_removed.rising next_added.rising next_modified.rising)
      (after_shifted old first next applies follows old_set.rising first_added.rising first_modified.rising next_removed.rising next_added.rising next_modified.rising)

  pub settled_keys : keys_after old (update_after old first next) ≡ keys_after (keys_after old first) next
  settled_keys = ap (keys_after old) settled_is ∙ coalesced_keys

  pub settled_applies : update_fault (2 ^ 62) old (update_after old first next) ≡ None
  settled_applies = ap (update_fault (2 ^ 62) old) settled_is ∙ coalesced_applies

  pub settled_pairs : key_pairs old (update_after old first next) ≡ kept_by_both old first next
  settled_pairs = ap (key_pairs old) settled_is ∙ key_pairs_both

  pub settled_plain : first.columns ≡ [] → next.columns ≡ [] → (update_after old first next).columns ≡ []
  settled_plain none also_none = either (is_empty first)
    where
      either : (b : Bool) → (cond b (first_update old next) (coalesced old first next)).columns ≡ []
      either true = also_none
      either false = coalesced_plain none also_none
