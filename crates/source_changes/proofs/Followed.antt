-- The update so far and then the next one, also where it is the first that changes anything: it has the parts of both together.
use Rattle.std.proofs.Common.{◌≡◌, refl, ap, ap₂, sym, ◌∙◌, subst, Bool, true, false, cond, not, ◌&&◌, ℕ, ◌^◌, List, [], map, filter, None}
use Rattle.std.{specs.List.AllByRecursion, proofs.lemmas.Bool.{and_parts, not-false}}
use Rattle.key_lists.{specs.Keys.{is_among, IsRising, without}, proofs.Every.{every, every_weaker, filter_all, filter_same, map_own, map_same, none_pass}, proofs.Rising.as_filter}
use Rattle.row_set.specs.Sets.{united}
use Rattle.shift_data.specs.Moves.{IsLawful, canonical, pair_through, unapplied}
use Rattle.table_update.{specs.Coalesced.{added_by_both, coalesced, kept_by_both, modified_by_both, removed_by_both}, proofs.CoalescedKeys.{kept_pairs, united_added, united_modified, united_removed}, proofs.KeysAfter.rules_kept, proofs.StillKeys.still_key}
use Rattle.tick_laws.{specs.Checked.{keys_after, put_keys}, proofs.EmptyUpdates.none_is}
use Rattle.tick_model.{specs.declared.update.KeyPair.KeyPair, specs.declared.update.ShiftRange.ShiftRange, specs.Changes.{is_empty, is_none}, specs.Rules.{landed, update_fault}, specs.Shifts.{as_key, moved, shifted}, specs.Updates.{Update, kept_pair}}
use Rattle.source_changes.specs.Stepping.{first_update, update_after}

pub unmoved : (keys : List ℕ) → landed [] (without [] keys) ≡ keys
unmoved keys = map_own (λ key. as_key (moved [] key)) (without [] keys) (every (λ key. as_key (moved [] key) ≡ key) (without [] keys) still_key) ∙ filter_all keys

module _ (old : List ℕ) (first next : Update) (f : update_fault (2 ^ 62) old first ≡ None) (n : update_fault (2 ^ 62) (keys_after old first) next ≡ None)
    (rising : IsRising old) (added_rise : IsRising first.added) (modified_rise : IsRising first.modified)
    (removed_next : IsRising next.removed) (added_next : IsRising next.added) (modified_next : IsRising next.modified) where
  module _ (e : is_empty first ≡ true) where
    nothing : (first.removed ≡ []) × (first.added ≡ []) × (first.modified ≡ []) × (first.shifted ≡ [])
    nothing =
        let all = and_parts (is_none first.removed && is_none first.added && is_none first.modified) (is_none first.shifted) e in
        let keys = and_parts (is_none first.removed && is_none first.added) (is_none first.modified) all.0 in
        let gone = and_parts (is_none first.removed) (is_none first.added) keys.0 in
        (none_is first.removed gone.0, none_is first.added gone.1, none_is first.modified keys.1, none_is first.shifted all.1)

    middle_is : keys_after old first ≡ old
    middle_is =
        ap (λ added. put_keys added (landed first.shifted (without first.removed old))) nothing.1
        ∙ ap₂ (λ (shifts : List ShiftRange) (removed : List ℕ). landed shifts (without removed old)) nothing.3 nothing.0
        ∙ unmoved old

    stays : (removed : List ℕ) → filter (λ key. not (is_among (as_key (moved [] key)) removed)) (without [] old) ≡ without removed old
    stays removed =
        ap (filter (λ key. not (is_among (as_key (moved [] key)) removed))) (filter_all old)
        ∙ filter_same (λ key. not (is_among (as_key (moved [] key)) removed)) (λ key. not (is_among key removed)) old
        (every (λ key. not (is_among (as_key (moved [] key)) removed) ≡ not (is_among key removed)) old (λ key. ap (λ k. not (is_among k removed)) (still_key key)))

    kept_are : kept_by_both old first next ≡ map (kept_pair next) (without next.removed old)
    kept_are =
        kept_pairs old first next f n
        ∙ ap₂ (λ (shifts : List ShiftRange) (removed : List ℕ). map (pair_through shifts next.shifted) (filter (λ key. not (is_among (as_key (moved shifts key)) next.removed)) (without removed old))) nothing.3 nothing.0
        ∙ ap (map (pair_through [] next.shifted)) (stays next.removed)
        ∙ map_same (pair_through [] next.shifted) (kept_pair next) (without next.removed old)
        (every (λ key. pair_through [] next.shifted key ≡ kept_pair next key) (without next.removed old)
        (λ key. ap (λ k. let pair : KeyPair = record { old = key; new = as_key (moved next.shifted k) } in pair) (still_key key)))

    removed_there : AllByRecursion (λ key. is_among key old ≡ true) next.removed
    removed_there =
        every_weaker (λ key. not (is_among key (keys_after old first)) ≡ false) (λ key. is_among key old ≡ true) next.removed
        (λ key h. ap (is_among key) (sym middle_is) ∙ not-false (is_among key (keys_after old first)) h)
        (none_pass (λ key. not (is_among key (keys_after old first))) next.removed (rules_kept (2 ^ 62) (keys_after old first) next n).removed)

    removed_is : next.removed ≡ removed_by_both old first next
    removed_is =
        sym (as_filter next.removed old removed_next rising removed_there)
        ∙ sym (filter_same (λ key. is_among (as_key (moved [] key)) next.removed) (λ key. is_among key next.removed) old
        (every (λ key. is_among (as_key (moved [] key)) next.removed ≡ is_among key next.removed) old (λ key. ap (λ k. is_among k next.removed) (still_key key))))
        ∙ ap (λ keys. unapplied [] keys next.removed) (sym (filter_all old))
        ∙ sym (ap₂ (λ (shifts : List ShiftRange) (removed : List ℕ). united removed (unapplied shifts (without removed old) next.removed)) nothing.3 nothing.0)
        ∙ united_removed old first next f n rising

    added_is : next.added ≡ added_by_both old first next
    added_is = sym (ap (λ added. united (landed next.shifted (without next.removed added)) next.added) nothing.1) ∙ united_added old first next f n added_rise added_next

    modified_is : next.modified ≡ modified_by_both old first next
    modified_is =
        sym (filter_all next.modified)
        ∙ sym (ap₂ (λ (modified added : List ℕ). united (landed next.shifted (without next.removed modified)) (without (landed next.shifted (without next.removed added)) next.modified)) nothing.2 nothing.1)
        ∙ united_modified old first next f n added_rise modified_rise modified_next

    shifted_is : canonical next.shifted (without next.removed old) ≡ shifted (kept_by_both old first next)
    shifted_is = ap shifted (sym kept_are)

  pub after_removed : (update_after old first next).removed ≡ removed_by_both old first next
  after_removed = go (is_empty first) refl
    where
      go : (b : Bool) → is_empty first ≡ b → (cond b (first_update old next) (coalesced old first next)).removed ≡ removed_by_both old first next
      go true e = removed_is e
      go false e = refl

  pub after_added : (update_after old first next).added ≡ added_by_both old first next
  after_added = go (is_empty first) refl
    where
      go : (b : Bool) → is_empty first ≡ b → (cond b (first_update old next) (coalesced old first next)).added ≡ added_by_both old first next
      go true e = added_is e
      go false e = refl

  pub after_modified : (update_after old first next).modified ≡ modified_by_both old first next
  after_modified = go (is_empty first) refl
    where
      go : (b : Bool) → is_empty first ≡ b → (cond b (first_update old next) (coalesced old first next)).modified ≡ modified_by_both old first next
      go true e = modified_is e
      go false e = refl

  pub after_shifted : (update_after old first next).shifted ≡ shifted (kept_by_both old first next)
  after_shifted = go (is_empty first) refl
    where
      go : (b : Bool) → is_empty first ≡ b → (cond b (first_update old next) (coalesced old first next)).shifted ≡ shifted (kept_by_both old first next)
      go true e = shifted_is e
      go false e = refl

-- where the first one is empty, the next shift is lawful on the old keys
pub first_rules_keep : (old : List ℕ) (first next : Update) → update_fault (2 ^ 62) (keys_after old first) next ≡ None → is_empty first ≡ true → IsLawful next.shifted (without next.removed old)
first_rules_keep old first next n e =
    let all = and_parts (is_none first.removed && is_none first.added && is_none first.modified) (is_none first.shifted) e in
    let keys = and_parts (is_none first.removed && is_none first.added) (is_none first.modified) all.0 in
    let gone = and_parts (is_none first.removed) (is_none first.added) keys.0 in
    let middle : keys_after old first ≡ old =
    ap (λ added. put_keys added (landed first.shifted (without first.removed old))) (none_is first.added gone.1)
    ∙ ap₂ (λ (shifts : List ShiftRange) (removed : List ℕ). landed shifts (without removed old)) (none_is first.shifted all.1) (none_is first.removed gone.0)
    ∙ unmoved old in
    subst (λ ks. IsLawful next.shifted (without next.removed ks)) middle (rules_kept (2 ^ 62) (keys_after old first) next n).shifted
