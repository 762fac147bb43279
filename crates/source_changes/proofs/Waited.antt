-- An update that waits takes the next one: what both make is joined to the update before them as the one and then the other.
use Rattle.std.proofs.Common.{◌≡◌, refl, ap, ap₂, sym, ◌∙◌, subst, Bool, true, false, cond, not, ◌&&◌, ◌||◌, ℕ, ◌^◌, List, [], ◌++◌, None, true≢false, lit≤}
use Rattle.std.proofs.lemmas.Bool.{not-false}
use Rattle.key_lists.{specs.Keys.{is_among, IsRising, without}, proofs.Among.{among-append, among-filter, of_among}, proofs.Every.{every, map_map, map_own, none_pass}, proofs.Rising.{rising_same, rising_some}}
use Rattle.row_set.{specs.Sets.{IsKeySet, united}, proofs.United.{among-united, united_rises}}
use Rattle.tick_model.{specs.declared.update.KeyPair.KeyPair, specs.declared.update.ShiftRange.ShiftRange, specs.Changes.{is_empty, is_none}, specs.Rules.{landed, update_fault}, specs.Shifts.{composed, shifted}, specs.Updates.{Update, kept_pair, new_keys, old_keys}}
use Rattle.tick_laws.{specs.Checked.{IsChecked, keys_after}, proofs.CheckedUpdates.{among-put_keys, keys_after-below, keys_after-rise}, proofs.ComposedThrice.composed-associative}
use Rattle.table_update.{specs.Coalesced.{added_by_both, coalesced, key_pairs, kept_by_both, modified_by_both}, proofs.CoalescedKeys.{united_added, united_modified}, proofs.KeysAfter.rules_kept, proofs.StillKeys.{still_places, still_removed, still_shifted}}
use Rattle.source_changes.{specs.Stepping.{first_update, update_after}, specs.Waiting.MayWait, proofs.Followed.{after_added, after_modified, after_removed, after_shifted}, proofs.Settled.{coalesced_applies, coalesced_keys, key_pairs_both, settled_applies, settled_keys, settled_pairs}}

-- whether a key is modified, by whether the update that waits, or the next one, removes, adds or modifies it, and the first one adds or modifies it
joined_test : (wait_removed wait_added next_removed added modified here wait_modified next_modified : Bool)
    → (added ≡ true → here ≡ true)
    → (modified ≡ true → here ≡ true)
    → (wait_added ≡ true → (not wait_removed && here) ≡ false)
    → (next_removed ≡ true → (wait_added || (not wait_removed && here)) ≡ true)
    → ((not ((not wait_added && next_removed) || wait_removed) && modified)
    || (not (not ((not wait_added && next_removed) || wait_removed) && added) && ((not next_removed && wait_modified) || (not (not next_removed && wait_added) && next_modified))))
    ≡ ((not next_removed && ((not wait_removed && modified) || (not (not wait_removed && added) && wait_modified)))
    || (not (not next_removed && ((not wait_removed && added) || wait_added)) && next_modified))
joined_test true true true added modified here wait_modified next_modified a m w n = refl
joined_test true true false added modified here wait_modified next_modified a m w n = refl
joined_test true false true added modified here wait_modified next_modified a m w n = absurd (true≢false (sym (n refl)))
joined_test true false false added modified here wait_modified next_modified a m w n = refl
joined_test false true next_removed true modified here wait_modified next_modified a m w n = absurd (true≢false (sym (a refl) ∙ w refl))
joined_test false true next_removed false true here wait_modified next_modified a m w n = absurd (true≢false (sym (m refl) ∙ w refl))
joined_test false true true false false here wait_modified next_modified a m w n = refl
joined_test false true false false false here wait_modified next_modified a m w n = refl
joined_test false false true added modified here wait_modified next_modified a m w n = refl
joined_test false false false true true here wait_modified next_modified a m w n = refl
joined_test false false false true false here wait_modified next_modified a m w n = refl
joined_test false false false false true here wait_modified next_modified a m w n = refl
joined_test false false false false false here wait_modified next_modified a m w n = refl

-- updates of the same parts are one
same_parts : (update other : Update) → update.removed ≡ other.removed → update.added ≡ other.added → update.modified ≡ other.modified → update.shifted ≡ other.shifted → update.columns ≡ other.columns → update ≡ other
same_parts update other removed added modified shifts columns =
    ap₂ (λ (r a : List ℕ). let parts : Update = record { removed = r; added = a; modified = update.modified; shifted = update.shifted; columns = update.columns } in parts) removed added
    ∙ ap₂ (λ (m : List ℕ) (s : List ShiftRange). let parts : Update = record { removed = other.removed; added = other.added; modified = m; shifted = s; columns = update.columns } in parts) modified shifts
    ∙ ap (λ (c : List ℕ). let parts : Update = record { removed = other.removed; added = other.added; modified = other.modified; shifted = other.shifted; columns = c } in parts) columns

-- updates that name no column name none together
plain_both : (old : List ℕ) (first next : Update) → first.columns ≡ [] → next.columns ≡ [] → (coalesced old first next).columns ≡ []
plain_both old first next none also_none = ap₂ (λ (columns others : List ℕ). cond (is_none changed) [] (united columns others)) none also_none ∙ either (is_none changed)
  where
    changed : List ℕ
    changed = modified_by_both old first next

    either : (b : Bool) → cond b [] (united [] []) ≡ []
    either true = refl
    either false = refl

plain_after : (old : List ℕ) (first next : Update) → first.columns ≡ [] → next.columns ≡ [] → (update_after old first next).columns ≡ []
plain_after old first next none also_none = either (is_empty first)
  where
    either : (b : Bool) → (cond b (first_update old next) (coalesced old first next)).columns ≡ []
    either true = also_none
    either false = plain_both old first next none also_none

-- the keys that an update finds and leaves
module _ (old : List ℕ) (update : Update) (applies : update_fault (2 ^ 62) old update ≡ None) where
  abbrev places : List ℕ
  places = landed update.shifted (without update.removed old)

  removed_here : (key : ℕ) → is_among key update.removed ≡ true → is_among key old ≡ true
  removed_here key here =
      not-false (is_among key old) (of_among (λ key. not (is_among key old) ≡ false) key update.removed (none_pass (λ key. not (is_among key old)) update.removed (rules_kept (2 ^ 62) old update applies).removed) here)

  added_apart : (key : ℕ) → is_among key update.added ≡ true → is_among key places ≡ false
  added_apart key here = of_among (λ key. is_among key places ≡ false) key update.added (none_pass (λ key. is_among key places) update.added (rules_kept (2 ^ 62) old update applies).added) here

  added_left : (key : ℕ) → is_among key update.added ≡ true → is_among key (keys_after old update) ≡ true
  added_left key here = among-put_keys key update.added places ∙ ap (λ b. b || is_among key places) here

  modified_left : (key : ℕ) → is_among key update.modified ≡ true → is_among key (keys_after old update) ≡ true
  modified_left key here =
      among-put_keys key update.added places
      ∙ or_swap (is_among key update.added) (is_among key places)
      ∙ sym (among-append key places update.added)
      ∙ not-false (is_among key (places ++ update.added)) (of_among (λ key. not (is_among key (places ++ update.added)) ≡ false) key update.modified (none_pass (λ key. not (is_among key (places ++ update.added))) update.modified (rules_kept (2 ^ 62) old update applies).modified) here)
    where
      or_swap : (a b : Bool) → (a || b) ≡ (b || a)
      or_swap true true = refl
      or_swap true false = refl
      or_swap false true = refl
      or_swap false false = refl

  module _ (still : update.shifted ≡ []) where
    still_place : (key : ℕ) → is_among key places ≡ (not (is_among key update.removed) && is_among key old)
    still_place key = ap (is_among key) (still_places update.shifted (without update.removed old) still) ∙ among-filter (λ key. not (is_among key update.removed)) key old

    still_left : (key : ℕ) → is_among key (keys_after old update) ≡ (is_among key update.added || (not (is_among key update.removed) && is_among key old))
    still_left key = among-put_keys key update.added places ∙ ap (λ b. is_among key update.added || b) (still_place key)

  -- the keys rise, and so do those of the pairs that it keeps
  keys_left : IsKeySet update.added → IsKeySet (keys_after old update)
  keys_left added =
      let checked : IsChecked (2 ^ 62) old update = record { breaks_none = applies; added_rise = added.rising } in
      record { rising = keys_after-rise (2 ^ 62) old update checked; small = keys_after-below (2 ^ 62) old update checked (2 ^ 62) (lit≤ tt) added.small }

pairs_rise : (old : List ℕ) (update : Update) → IsRising old → IsRising (old_keys (key_pairs old update))
pairs_rise old update rise =
    let stay : List ℕ = without update.removed old in
    subst IsRising
    (sym (map_map (λ (pair : KeyPair). pair.old) (kept_pair update) stay ∙ map_own (λ key. key) stay (every (λ (key : ℕ). key ≡ key) stay (λ key. refl))))
    (rising_some (λ key. not (is_among key update.removed)) old rise)

-- what the first one and a next one that moves no row add and modify
module _ (old : List ℕ) (first next : Update) (f : update_fault (2 ^ 62) old first ≡ None) (n : update_fault (2 ^ 62) (keys_after old first) next ≡ None) (added_rise : IsRising first.added) (next_added_rise : IsRising next.added) where
  abbrev carried : List ℕ
  carried = landed next.shifted (without next.removed first.added)

  added_rises : IsRising (added_by_both old first next)
  added_rises = subst IsRising (united_added old first next f n added_rise next_added_rise) (united_rises carried next.added next_added_rise)

  among_added : next.shifted ≡ [] → (key : ℕ) → is_among key (added_by_both old first next) ≡ ((not (is_among key next.removed) && is_among key first.added) || is_among key next.added)
  among_added still key =
      sym (ap (is_among key) (united_added old first next f n added_rise next_added_rise))
      ∙ among-united key carried next.added
      ∙ ap (λ b. b || is_among key next.added) (ap (is_among key) (still_places next.shifted (without next.removed first.added) still) ∙ among-filter (λ key. not (is_among key next.removed)) key first.added)

  module _ (modified_rise : IsRising first.modified) (next_modified_rise : IsRising next.modified) where
    modified_rises : IsRising (modified_by_both old first next)
    modified_rises =
        subst IsRising (united_modified old first next f n added_rise modified_rise next_modified_rise)
        (united_rises (landed next.shifted (without next.removed first.modified)) (without carried next.modified) (rising_some (λ key. not (is_among key carried)) next.modified next_modified_rise))

    among_modified : next.shifted ≡ [] → (key : ℕ)
        → is_among key (modified_by_both old first next) ≡ ((not (is_among key next.removed) && is_among key first.modified) || (not (not (is_among key next.removed) && is_among key first.added) && is_among key next.modified))
    among_modified still key =
        sym (ap (is_among key) (united_modified old first next f n added_rise modified_rise next_modified_rise))
        ∙ ap₂ (λ (kept others : List ℕ). is_among key (united kept (without others next.modified))) (still_places next.shifted (without next.removed first.modified) still) (still_places next.shifted (without next.removed first.added) still)
        ∙ among-united key (without next.removed first.modified) (without (without next.removed first.added) next.modified)
        ∙ ap₂ (λ (a b : Bool). a || b) (among-filter (λ key. not (is_among key next.removed)) key first.modified)
        (among-filter (λ key. not (is_among key (without next.removed first.added))) key next.modified
        ∙ ap (λ b. not b && is_among key next.modified) (among-filter (λ key. not (is_among key next.removed)) key first.added))

module _ (old : List ℕ) (first waiting next : Update)
    (first_applies : update_fault (2 ^ 62) old first ≡ None)
    (waits : MayWait (keys_after old first) waiting)
    (follows : update_fault (2 ^ 62) (keys_after (keys_after old first) waiting) next ≡ None)
    (still : next.shifted ≡ []) (plain : next.columns ≡ []) (first_plain : first.columns ≡ [])
    (old_set : IsKeySet old)
    (first_added : IsKeySet first.added) (first_modified : IsKeySet first.modified)
    (waiting_removed : IsKeySet waiting.removed) (waiting_added : IsKeySet waiting.added) (waiting_modified : IsKeySet waiting.modified)
    (next_removed : IsKeySet next.removed) (next_added : IsKeySet next.added) (next_modified : IsKeySet next.modified) where
  abbrev middle : List ℕ
  middle = keys_after old first

  abbrev later : List ℕ
  later = keys_after middle waiting

  abbrev both : Update
  both = coalesced middle waiting next

  abbrev so_far : Update
  so_far = update_after old first waiting

  middle_set : IsKeySet middle
  middle_set = keys_left old first first_applies first_added

  -- both are like one that waits
  pub both_keys : keys_after middle both ≡ keys_after later next
  both_keys = coalesced_keys middle waiting next waits.applies follows middle_set waiting_added waiting_modified next_removed next_added next_modified

  both_still : both.shifted ≡ []
  both_still = still_shifted middle waiting next waits.applies follows waits.still still

  both_plain : both.columns ≡ []
  both_plain = plain_both middle waiting next waits.plain plain

  both_applies : update_fault (2 ^ 62) middle both ≡ None
  both_applies = coalesced_applies middle waiting next waits.applies follows middle_set waiting_added waiting_modified next_removed next_added next_modified

  pub both_waits : MayWait middle both
  both_waits = record { still = both_still; plain = both_plain; applies = both_applies }

  -- the update before it, with the one that waits
  so_far_keys : keys_after old so_far ≡ later
  so_far_keys = settled_keys old first waiting first_applies waits.applies old_set first_added first_modified waiting_removed waiting_added waiting_modified

  so_far_applies : update_fault (2 ^ 62) old so_far ≡ None
  so_far_applies = settled_applies old first waiting first_applies waits.applies old_set first_added first_modified waiting_removed waiting_added waiting_modified

  so_far_follows : update_fault (2 ^ 62) (keys_after old so_far) next ≡ None
  so_far_follows = ap (λ keys. update_fault (2 ^ 62) keys next) so_far_keys ∙ follows

  so_far_plain : so_far.columns ≡ []
  so_far_plain = plain_after old first waiting first_plain waits.plain

  so_far_added : so_far.added ≡ added_by_both old first waiting
  so_far_added = after_added old first waiting first_applies waits.applies old_set.rising first_added.rising first_modified.rising waiting_removed.rising waiting_added.rising waiting_modified.rising

  so_far_modified : so_far.modified ≡ modified_by_both old first waiting
  so_far_modified = after_modified old first waiting first_applies waits.applies old_set.rising first_added.rising first_modified.rising waiting_removed.rising waiting_added.rising waiting_modified.rising

  -- the sets rise
  both_removed_rise : IsRising both.removed
  both_removed_rise = rising_some (λ key. not (is_among key (old_keys (kept_by_both middle waiting next)))) middle middle_set.rising

  both_added_rise : IsRising both.added
  both_added_rise = added_rises middle waiting next waits.applies follows waiting_added.rising next_added.rising

  both_modified_rise : IsRising both.modified
  both_modified_rise = modified_rises middle waiting next waits.applies follows waiting_added.rising next_added.rising waiting_modified.rising next_modified.rising

  so_far_added_rise : IsRising so_far.added
  so_far_added_rise = subst IsRising (sym so_far_added) (added_rises old first waiting first_applies waits.applies first_added.rising waiting_added.rising)

  so_far_modified_rise : IsRising so_far.modified
  so_far_modified_rise = subst IsRising (sym so_far_modified) (modified_rises old first waiting first_applies waits.applies first_added.rising waiting_added.rising first_modified.rising waiting_modified.rising)

  -- the pairs that all keep
  kept_same : kept_by_both old first both ≡ kept_by_both old so_far next
  kept_same =
      ap (composed (key_pairs old first)) (key_pairs_both middle waiting next waits.applies follows middle_set waiting_added waiting_modified next_removed next_added next_modified)
      ∙ sym (composed-associative (key_pairs old first) (key_pairs middle waiting) (key_pairs later next) (pairs_rise middle waiting middle_set.rising))
      ∙ sym (ap₂ (λ (pairs : List KeyPair) (keys : List ℕ). composed pairs (key_pairs keys next)) (settled_pairs old first waiting first_applies waits.applies old_set first_added first_modified waiting_removed waiting_added waiting_modified) so_far_keys)

  last_same : keys_after middle both ≡ keys_after (keys_after old so_far) next
  last_same = both_keys ∙ ap (λ keys. keys_after keys next) (sym so_far_keys)

  -- and what all modify
  among_both_removed : (key : ℕ) → is_among key both.removed ≡ ((not (is_among key waiting.added) && is_among key next.removed) || is_among key waiting.removed)
  among_both_removed key =
      sym (ap (is_among key) (still_removed middle waiting next waits.applies follows waits.still still waiting_added.rising middle_set.rising waiting_removed.rising))
      ∙ among-united key (without waiting.added next.removed) waiting.removed
      ∙ ap (λ b. b || is_among key waiting.removed) (among-filter (λ key. not (is_among key waiting.added)) key next.removed)

  among_both_modified : (key : ℕ) → is_among key both.modified ≡ ((not (is_among key next.removed) && is_among key waiting.modified) || (not (not (is_among key next.removed) && is_among key waiting.added) && is_among key next.modified))
  among_both_modified key = among_modified middle waiting next waits.applies follows waiting_added.rising next_added.rising waiting_modified.rising next_modified.rising still key

  among_so_far_added : (key : ℕ) → is_among key so_far.added ≡ ((not (is_among key waiting.removed) && is_among key first.added) || is_among key waiting.added)
  among_so_far_added key = ap (is_among key) so_far_added ∙ among_added old first waiting first_applies waits.applies first_added.rising waiting_added.rising waits.still key

  among_so_far_modified : (key : ℕ)
      → is_among key so_far.modified ≡ ((not (is_among key waiting.removed) && is_among key first.modified) || (not (not (is_among key waiting.removed) && is_among key first.added) && is_among key waiting.modified))
  among_so_far_modified key =
      ap (is_among key) so_far_modified
      ∙ among_modified old first waiting first_applies waits.applies first_added.rising waiting_added.rising first_modified.rising waiting_modified.rising waits.still key

  modified_same : modified_by_both old first both ≡ modified_by_both old so_far next
  modified_same =
      rising_same (modified_by_both old first both) (modified_by_both old so_far next)
      (modified_rises old first both first_applies both_applies first_added.rising both_added_rise first_modified.rising both_modified_rise)
      (modified_rises old so_far next so_far_applies so_far_follows so_far_added_rise next_added.rising so_far_modified_rise next_modified.rising)
      (λ key.
      among_modified old first both first_applies both_applies first_added.rising both_added_rise first_modified.rising both_modified_rise both_still key
      ∙ ap₂ (λ (removed modified : Bool). (not removed && is_among key first.modified) || (not (not removed && is_among key first.added) && modified)) (among_both_removed key) (among_both_modified key)
      ∙ joined_test (is_among key waiting.removed) (is_among key waiting.added) (is_among key next.removed) (is_among key first.added) (is_among key first.modified) (is_among key middle) (is_among key waiting.modified) (is_among key next.modified)
      (added_left old first first_applies key) (modified_left old first first_applies key)
      (λ comes. sym (still_place middle waiting waits.applies waits.still key) ∙ added_apart middle waiting waits.applies key comes)
      (λ goes. sym (still_left middle waiting waits.applies waits.still key) ∙ removed_here later next follows key goes)
      ∙ sym
      (among_modified old so_far next so_far_applies so_far_follows so_far_added_rise next_added.rising so_far_modified_rise next_modified.rising still key
      ∙ ap₂ (λ (modified added : Bool). (not (is_among key next.removed) && modified) || (not (not (is_among key next.removed) && added) && is_among key next.modified)) (among_so_far_modified key) (among_so_far_added key)))

  pub both_joined : update_after old first both ≡ update_after old so_far next
  both_joined =
      same_parts (update_after old first both) (update_after old so_far next)
      (after_removed old first both first_applies both_applies old_set.rising first_added.rising first_modified.rising both_removed_rise both_added_rise both_modified_rise
      ∙ ap (λ (pairs : List KeyPair). without (old_keys pairs) old) kept_same
      ∙ sym (after_removed old so_far next so_far_applies so_far_follows old_set.rising so_far_added_rise so_far_modified_rise next_removed.rising next_added.rising next_modified.rising))
      (after_added old first both first_applies both_applies old_set.rising first_added.rising first_modified.rising both_removed_rise both_added_rise both_modified_rise
      ∙ ap₂ (λ (pairs : List KeyPair) (keys : List ℕ). without (new_keys pairs) keys) kept_same last_same
      ∙ sym (after_added old so_far next so_far_applies so_far_follows old_set.rising so_far_added_rise so_far_modified_rise next_removed.rising next_added.rising next_modified.rising))
      (after_modified old first both first_applies both_applies old_set.rising first_added.rising first_modified.rising both_removed_rise both_added_rise both_modified_rise
      ∙ modified_same
      ∙ sym (after_modified old so_far next so_far_applies so_far_follows old_set.rising so_far_added_rise so_far_modified_rise next_removed.rising next_added.rising next_modified.rising))
      (after_shifted old first both first_applies both_applies old_set.rising first_added.rising first_modified.rising both_removed_rise both_added_rise both_modified_rise
      ∙ ap shifted kept_same
      ∙ sym (after_shifted old so_far next so_far_applies so_far_follows old_set.rising so_far_added_rise so_far_modified_rise next_removed.rising next_added.rising next_modified.rising))
      (plain_after old first both first_plain both_plain ∙ sym (plain_after old so_far next so_far_plain plain))
