-- What an update that moves no rows modifies, and what two such, one after the other, remove, add, modify and move, by edits of
-- the sets of the first.
use Rattle.std.proofs.Common.{◌≡◌, refl, ap, ap₂, sym, ◌∙◌, Bool, true, false, not, ◌&&◌, ◌||◌, ℕ, ◌^◌, ◌==◌, arith, List, [], ◌++◌, length, filter, pos, ◌+ℤ◌, None, true≢false}
use Rattle.std.{specs.Prelude.find, specs.List.AllByRecursion, proofs.lemmas.Bool.not-false, proofs.lemmas.Int.ints}
use Rattle.key_lists.{specs.Keys.{is_among, IsRising, without}, proofs.Among.{among-append, among-filter, of_among}, proofs.Every.{every, every_weaker, filter_all, filter_same, find_none, map_own, map_same, none_pass}, proofs.Rising.{rising_some, rising_same}, proofs.Booleans.or_turned}
use Rattle.row_set.{specs.Sets.united, proofs.Batches.empty_without, proofs.United.{among-united, united_rises}}
use Rattle.tick_model.{specs.declared.update.KeyPair.KeyPair, specs.declared.update.ShiftRange.ShiftRange, specs.Rules.{landed, update_fault}, specs.Shifts.{moved, as_key, shifted}, specs.Sources.same_key, specs.Updates.Update}
use Rattle.tick_laws.{specs.Checked.keys_after, proofs.WholeUpdates.nothing_moves}
use Rattle.shift_data.specs.Moves.{IsLawful, pair_through, unapplied}
use Rattle.table_update.{specs.Coalesced.{kept_by_both, removed_by_both, added_by_both, modified_by_both}, proofs.KeysAfter.rules_kept, proofs.Occupied.landed-unapplied, proofs.CoalescedKeys.{kept_keys, kept_pairs, in_between, is_apart, united_removed, united_added, united_modified}}

-- no range moves no key
pub still_key : (key : ℕ) → as_key (moved [] key) ≡ key
still_key key = let same : pos key +ℤ pos 0 ≡ pos key = omega (arith, ints) in ap as_key same

landed_still : (keys : List ℕ) → landed [] keys ≡ keys
landed_still keys = map_own (λ key. as_key (moved [] key)) keys (every (λ key. as_key (moved [] key) ≡ key) keys still_key)

pub still_places : (shifts : List ShiftRange) (keys : List ℕ) → shifts ≡ [] → landed shifts keys ≡ keys
still_places shifts keys still = ap (λ ranges. landed ranges keys) still ∙ landed_still keys

-- where no row moves, those that are asked for have the keys by which they are asked for
pub unapplied_still : (shifts : List ShiftRange) (survivors asked : List ℕ) → shifts ≡ [] → IsLawful shifts survivors → IsRising asked → AllByRecursion (λ key. is_among key (landed shifts survivors) ≡ true) asked → unapplied shifts survivors asked ≡ asked
unapplied_still shifts survivors asked still lawful rise stay =
    sym (still_places shifts (unapplied shifts survivors asked) still)
    ∙ landed-unapplied shifts survivors asked lawful rise
    ∙ filter_same (λ key. is_among key (landed shifts survivors)) (λ _. true) asked stay
    ∙ filter_all asked

-- where no row goes or moves, those that stay have their keys
pub none_absent : (shifts : List ShiftRange) (removed old added modified : List ℕ) → shifts ≡ [] → (length removed == 0) ≡ true → find (λ key. not (is_among key old)) modified ≡ None → find (λ key. not (is_among key (landed shifts (without removed old) ++ added))) modified ≡ None
none_absent shifts removed old added modified still stay present =
    let places = landed shifts (without removed old) in
    let same : places ≡ old = still_places shifts (without removed old) still ∙ sym (empty_without removed old stay) in
    find_none (λ key. not (is_among key (places ++ added))) modified
    (every_weaker (λ key. not (is_among key old) ≡ false) (λ key. not (is_among key (places ++ added)) ≡ false) modified
    (λ key here. ap not (among-append key places added ∙ ap (λ keys. is_among key keys || is_among key added) same ∙ ap (λ b. b || is_among key added) (not-false (is_among key old) here)))
    (none_pass (λ key. not (is_among key old)) modified present))

same_pair : (first next : List ShiftRange) (key : ℕ) → first ≡ [] → next ≡ [] → pair_through first next key ≡ same_key key
same_pair first next key still next_still =
    ap₂ (λ shifts others. pair_through shifts others key) still next_still
    ∙ ap (λ place. let pair : KeyPair = record { old = key; new = place } in pair) (ap (λ place. as_key (moved [] place)) (still_key key) ∙ still_key key)

-- the keys of two lists, whichever is put into the other
united_swap : (keys others : List ℕ) → IsRising keys → IsRising others → united keys others ≡ united others keys
united_swap keys others rise others_rise =
    rising_same (united keys others) (united others keys) (united_rises keys others others_rise) (united_rises others keys rise)
    (λ key. among-united key keys others ∙ or_turned (is_among key keys) (is_among key others) ∙ sym (among-united key others keys))

-- a key that the second one removes was added or stayed
gone_test : (a s x r : Bool) → (a ≡ true → s ≡ false) → (x ≡ true → (a || s) ≡ true) → ((not a && x) || r) ≡ (r || (x && s))
gone_test true true x r h k = absurd (true≢false (h refl))
gone_test true false true true h k = refl
gone_test true false true false h k = refl
gone_test true false false true h k = refl
gone_test true false false false h k = refl
gone_test false true true true h k = refl
gone_test false true true false h k = refl
gone_test false true false true h k = refl
gone_test false true false false h k = refl
gone_test false false true r h k = absurd (true≢false (sym (k refl)))
gone_test false false false true h k = refl
gone_test false false false false h k = refl

module _ (old : List ℕ) (first next : Update) (f : update_fault (2 ^ 62) old first ≡ None) (n : update_fault (2 ^ 62) (keys_after old first) next ≡ None) (still : first.shifted ≡ []) (next_still : next.shifted ≡ []) where
  abbrev stay : List ℕ
  stay = without first.removed old

  -- what both do not move
  pub still_shifted : shifted (kept_by_both old first next) ≡ []
  still_shifted =
      ap shifted (kept_pairs old first next f n ∙ map_same (pair_through first.shifted next.shifted) same_key (kept_keys old first next f n) (every (λ key. pair_through first.shifted next.shifted key ≡ same_key key) (kept_keys old first next f n) (λ key. same_pair first.shifted next.shifted key still next_still)))
      ∙ nothing_moves (kept_keys old first next f n)

  module _ (added_rise : IsRising first.added) where
    -- what both remove
    pub still_removed : IsRising old → IsRising first.removed → united (without first.added next.removed) first.removed ≡ removed_by_both old first next
    still_removed old_rise removed_rise =
        rising_same (united (without first.added next.removed) first.removed) (united first.removed gone)
        (united_rises (without first.added next.removed) first.removed removed_rise)
        (united_rises first.removed gone (rising_some asked stay (rising_some (λ key. not (is_among key first.removed)) old old_rise)))
        (λ key.
        among-united key (without first.added next.removed) first.removed
        ∙ ap (λ b. b || is_among key first.removed) (among-filter (λ key. not (is_among key first.added)) key next.removed)
        ∙ gone_test (is_among key first.added) (is_among key stay) (is_among key next.removed) (is_among key first.removed) (apart key) (was_there key)
        ∙ ap (λ b. is_among key first.removed || b) (sym (among-filter asked key stay ∙ ap (λ place. is_among place next.removed && is_among key stay) (own_place key)))
        ∙ sym (among-united key first.removed gone))
        ∙ united_removed old first next f n old_rise
      where
        asked : ℕ → Bool
        asked key = is_among (as_key (moved first.shifted key)) next.removed

        gone : List ℕ
        gone = filter asked stay

        own_place : (key : ℕ) → as_key (moved first.shifted key) ≡ key
        own_place key = ap (λ shifts. as_key (moved shifts key)) still ∙ still_key key

        apart : (key : ℕ) → is_among key first.added ≡ true → is_among key stay ≡ false
        apart key here = ap (is_among key) (sym (still_places first.shifted stay still)) ∙ is_apart old first next f n added_rise key here

        was_there : (key : ℕ) → is_among key next.removed ≡ true → (is_among key first.added || is_among key stay) ≡ true
        was_there key here =
            ap (λ keys. is_among key first.added || is_among key keys) (sym (still_places first.shifted stay still))
            ∙ sym (in_between old first next f n added_rise key)
            ∙ not-false (is_among key (keys_after old first)) (of_among (λ key. not (is_among key (keys_after old first)) ≡ false) key next.removed (none_pass (λ key. not (is_among key (keys_after old first))) next.removed (rules_kept (2 ^ 62) (keys_after old first) next n).removed) here)

    -- what both add
    pub still_added : IsRising next.added → united next.added (without next.removed first.added) ≡ added_by_both old first next
    still_added next_added_rise =
        united_swap next.added (without next.removed first.added) next_added_rise (rising_some (λ key. not (is_among key next.removed)) first.added added_rise)
        ∙ ap (λ keys. united keys next.added) (sym (still_places next.shifted (without next.removed first.added) next_still))
        ∙ united_added old first next f n added_rise next_added_rise

    -- what both modify
    pub still_modified : IsRising first.modified → IsRising next.modified → united (without (without next.removed first.added) next.modified) (without next.removed first.modified) ≡ modified_by_both old first next
    still_modified modified_rise next_modified_rise =
        united_swap (without (without next.removed first.added) next.modified) (without next.removed first.modified) (rising_some (λ key. not (is_among key (without next.removed first.added))) next.modified next_modified_rise) (rising_some (λ key. not (is_among key next.removed)) first.modified modified_rise)
        ∙ ap₂ (λ kept carried. united kept (without carried next.modified)) (sym (still_places next.shifted (without next.removed first.modified) next_still)) (sym (still_places next.shifted (without next.removed first.added) next_still))
        ∙ united_modified old first next f n added_rise modified_rise next_modified_rise
