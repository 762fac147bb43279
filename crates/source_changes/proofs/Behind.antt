-- An update that moves no row, checked on the keys that it names alone.
use Rattle.std.proofs.Common.{◌≡◌, refl, ap, ap₂, sym, ◌∙◌, subst, Bool, true, false, cond, not, ◌&&◌, ◌||◌, ℕ, ◌^◌, ◌<◌, arith, List, [], ◌∷◌, ◌++◌, ltb, leb, Option, Some, None, pos}
use Rattle.std.{specs.Prelude.{find, int_le, option_map}, specs.List.AllByRecursion, specs.Option.option_or, proofs.lemmas.Bool.{and_parts, or_from, or_left, or_right, le-ltb, lt-leb}, proofs.lemmas.Int.ints, proofs.lemmas.List.append-nil}
use Rattle.key_lists.{specs.Keys.{is_among, IsRising, without}, proofs.Among.{among-append, among-filter, each_among, of_among}, proofs.Every.{every, every_weaker, every-filter, filter_all, filter_passes, find_none, find_same}, proofs.Rising.{rising_same, rising_some}}
use Rattle.row_set.{specs.Sets.{common, united}, proofs.United.{among-united, united_rises}}
use Rattle.source_changes.specs.Waiting.{MayWait}
use Rattle.table_update.proofs.StillKeys.{still_places}
use Rattle.tick_laws.{specs.Checked.keys_after, proofs.CheckedUpdates.{among-put_keys, keys_after-rise}, proofs.EmptyUpdates.none_is}
use Rattle.tick_model.{specs.Changes.is_none, specs.declared.update.ShiftRange.ShiftRange, specs.declared.update.UpdateFault.UpdateFault, specs.declared.update.UpdateFault.TheVariants.{RemovedAbsent, AddedTaken, ModifiedAbsent, ModifiedAdded, ShiftBreaks}, specs.Rules.{is_past, landed, shift_fault, shift_fault_after, update_fault}, specs.Shifts.moved, specs.Updates.Update}

-- the keys that an update names
abbrev pub named : Update → List ℕ
named update = united update.removed (united update.added update.modified)

pub named_rise : (update : Update) → IsRising update.modified → IsRising (named update)
named_rise update rising = united_rises update.removed (united update.added update.modified) (united_rises update.added update.modified rising)

-- rising keys break no order where none moves
same_place : (key : ℕ) → moved [] key ≡ pos key
same_place key = omega (arith, ints)

inside : (limit key : ℕ) → key < limit → is_past limit (moved [] key) ≡ false
inside limit key less = ap (is_past limit) (same_place key) ∙ or_from (ltb key 0) (leb limit key) (le-ltb key 0 (omega arith)) (lt-leb limit key less)

in_order : (before key : ℕ) → before < key → int_le (moved [] key) (moved [] before) ≡ false
in_order before key less = ap₂ int_le (same_place key) (same_place before) ∙ lt-leb key before less

still_after : (limit before : ℕ) (keys : List ℕ) → AllByRecursion (λ key. before < key) keys → IsRising keys → AllByRecursion (λ key. key < limit) keys → shift_fault_after limit [] (Some before) keys ≡ None
still_after limit before [] above rising below = refl
still_after limit before (key ∷ keys) above rising below =
    ap (λ b. cond b (Some (ShiftBreaks key key)) (cond (int_le (moved [] key) (moved [] before)) (Some (ShiftBreaks before key)) (shift_fault_after limit [] (Some key) keys))) (inside limit key below.0)
    ∙ ap (λ b. cond b (Some (ShiftBreaks before key)) (shift_fault_after limit [] (Some key) keys)) (in_order before key above.0)
    ∙ still_after limit key keys rising.0 rising.1 below.1

still_keeps : (limit : ℕ) (shifts : List ShiftRange) (keys : List ℕ) → shifts ≡ [] → IsRising keys → AllByRecursion (λ key. key < limit) keys → shift_fault limit shifts keys ≡ None
still_keeps limit shifts keys still rising below = ap (λ ranges. shift_fault limit ranges keys) still ∙ own keys rising below
  where
    own : (keys : List ℕ) → IsRising keys → AllByRecursion (λ key. key < limit) keys → shift_fault_after limit [] None keys ≡ None
    own [] rising below = refl
    own (key ∷ keys) rising below =
        ap (λ b. cond b (Some (ShiftBreaks key key)) (shift_fault_after limit [] (Some key) keys)) (inside limit key below.0)
        ∙ still_after limit key keys rising.0 rising.1 below.1

-- an update that moves no row breaks on some keys what it breaks on others, where those that it names are among both or neither
module _ (limit : ℕ) (here keys : List ℕ) (update : Update) (still : update.shifted ≡ []) (same : (key : ℕ) → is_among key (named update) ≡ true → is_among key here ≡ is_among key keys) where
  all_same : (some : List ℕ) → ((key : ℕ) → is_among key some ≡ true → is_among key (named update) ≡ true) → AllByRecursion (λ key. is_among key here ≡ is_among key keys) some
  all_same some part = every_weaker (λ key. is_among key some ≡ true) (λ key. is_among key here ≡ is_among key keys) some (λ key e. same key (part key e)) (each_among some)

  removed_named : (key : ℕ) → is_among key update.removed ≡ true → is_among key (named update) ≡ true
  removed_named key e = among-united key update.removed (united update.added update.modified) ∙ or_left (is_among key update.removed) (is_among key (united update.added update.modified)) e

  coming_named : (key : ℕ) → (is_among key update.added || is_among key update.modified) ≡ true → is_among key (named update) ≡ true
  coming_named key e =
      among-united key update.removed (united update.added update.modified)
      ∙ or_right (is_among key update.removed) (is_among key (united update.added update.modified)) (among-united key update.added update.modified ∙ e)

  -- the rows that stay
  among-places : (key : ℕ) (old : List ℕ) → is_among key (landed update.shifted (without update.removed old)) ≡ (not (is_among key update.removed) && is_among key old)
  among-places key old = ap (is_among key) (still_places update.shifted (without update.removed old) still) ∙ among-filter (λ other. not (is_among other update.removed)) key old

  same_places : (key : ℕ) → is_among key here ≡ is_among key keys → is_among key (landed update.shifted (without update.removed here)) ≡ is_among key (landed update.shifted (without update.removed keys))
  same_places key e = among-places key here ∙ ap (λ b. not (is_among key update.removed) && b) e ∙ sym (among-places key keys)

  same_absent : (key : ℕ) → is_among key here ≡ is_among key keys
      → not (is_among key (landed update.shifted (without update.removed here) ++ update.added)) ≡ not (is_among key (landed update.shifted (without update.removed keys) ++ update.added))
  same_absent key e =
      ap not (among-append key (landed update.shifted (without update.removed here)) update.added
      ∙ ap (λ b. b || is_among key update.added) (same_places key e) ∙ sym (among-append key (landed update.shifted (without update.removed keys)) update.added))

  removed_same : find (λ key. not (is_among key here)) update.removed ≡ find (λ key. not (is_among key keys)) update.removed
  removed_same =
      find_same (λ key. not (is_among key here)) (λ key. not (is_among key keys)) update.removed
      (every_weaker (λ key. is_among key here ≡ is_among key keys) (λ key. not (is_among key here) ≡ not (is_among key keys)) update.removed (λ key e. ap not e) (all_same update.removed removed_named))

  added_same : find (λ key. is_among key (landed update.shifted (without update.removed here))) update.added ≡ find (λ key. is_among key (landed update.shifted (without update.removed keys))) update.added
  added_same =
      find_same (λ key. is_among key (landed update.shifted (without update.removed here))) (λ key. is_among key (landed update.shifted (without update.removed keys))) update.added
      (every_weaker (λ key. is_among key here ≡ is_among key keys) (λ key. is_among key (landed update.shifted (without update.removed here)) ≡ is_among key (landed update.shifted (without update.removed keys))) update.added same_places
      (all_same update.added (λ key e. coming_named key (or_left (is_among key update.added) (is_among key update.modified) e))))

  modified_same : find (λ key. not (is_among key (landed update.shifted (without update.removed here) ++ update.added))) update.modified
      ≡ find (λ key. not (is_among key (landed update.shifted (without update.removed keys) ++ update.added))) update.modified
  modified_same =
      find_same (λ key. not (is_among key (landed update.shifted (without update.removed here) ++ update.added))) (λ key. not (is_among key (landed update.shifted (without update.removed keys) ++ update.added))) update.modified
      (every_weaker (λ key. is_among key here ≡ is_among key keys) (λ key. not (is_among key (landed update.shifted (without update.removed here) ++ update.added)) ≡ not (is_among key (landed update.shifted (without update.removed keys) ++ update.added))) update.modified same_absent
      (all_same update.modified (λ key e. coming_named key (or_right (is_among key update.added) (is_among key update.modified) e))))

  stay_in_order : (old : List ℕ) → IsRising old → AllByRecursion (λ key. key < limit) old → shift_fault limit update.shifted (without update.removed old) ≡ None
  stay_in_order old rising below =
      still_keeps limit update.shifted (without update.removed old) still (rising_some (λ key. not (is_among key update.removed)) old rising)
      (every-filter (λ key. key < limit) (λ key. not (is_among key update.removed)) old below)

  pub same_fault : IsRising here → IsRising keys → AllByRecursion (λ key. key < limit) here → AllByRecursion (λ key. key < limit) keys → update_fault limit here update ≡ update_fault limit keys update
  same_fault here_rise rise here_below below =
      ap₂ (λ (gone order : Option UpdateFault). option_or gone (option_or order (placed here)))
      (ap (option_map RemovedAbsent) removed_same) (stay_in_order here here_rise here_below ∙ sym (stay_in_order keys rise below))
      ∙ ap (λ rest. option_or (option_map RemovedAbsent (find (λ key. not (is_among key keys)) update.removed)) (option_or (shift_fault limit update.shifted (without update.removed keys)) rest)) placed_same
    where
      placed : List ℕ → Option UpdateFault
      placed old =
          option_or (option_map AddedTaken (find (λ key. is_among key (landed update.shifted (without update.removed old))) update.added))
          (option_or (option_map ModifiedAbsent (find (λ key. not (is_among key (landed update.shifted (without update.removed old) ++ update.added))) update.modified))
          (option_map ModifiedAdded (find (λ key. is_among key update.added) update.modified)))

      placed_same : placed here ≡ placed keys
      placed_same =
          ap₂ (λ (taken absent : Option ℕ). option_or (option_map AddedTaken taken) (option_or (option_map ModifiedAbsent absent) (option_map ModifiedAdded (find (λ key. is_among key update.added) update.modified))))
          added_same modified_same

common_below : (limit : ℕ) (some keys : List ℕ) → AllByRecursion (λ key. key < limit) keys → AllByRecursion (λ key. key < limit) (common some keys)
common_below limit some keys below =
    every_weaker (λ key. is_among key keys ≡ true) (λ key. key < limit) (common some keys) (λ key e. of_among (λ other. other < limit) key keys below e) (filter_passes (λ key. is_among key keys) some)

-- so it may be checked on those of the keys that it names
pub named_fault : (limit : ℕ) (keys : List ℕ) (update : Update) → update.shifted ≡ [] → IsRising keys → AllByRecursion (λ key. key < limit) keys → IsRising update.modified → update_fault limit (common (named update) keys) update ≡ update_fault limit keys update
named_fault limit keys update still rising below modified_rise =
    same_fault limit (common (named update) keys) keys update still
    (λ key e. among-filter (λ other. is_among other keys) key (named update) ∙ both (is_among key keys) (is_among key (named update)) e)
    (rising_some (λ key. is_among key keys) (named update) (named_rise update modified_rise)) rising
    (common_below limit (named update) keys below) below
  where
    both : (a b : Bool) → b ≡ true → (a && b) ≡ a
    both true b e = e
    both false b e = refl

-- those of the keys after an update that moves no row which are among some
pub common_after : (keys some : List ℕ) (waiting : Update) → waiting.shifted ≡ [] → IsRising some → united (common some waiting.added) (without waiting.removed (common some keys)) ≡ common some (keys_after keys waiting)
common_after keys some waiting still rising =
    rising_same (united (common some waiting.added) (without waiting.removed (common some keys))) (common some (keys_after keys waiting))
    (united_rises (common some waiting.added) (without waiting.removed (common some keys)) (rising_some (λ key. not (is_among key waiting.removed)) (common some keys) (rising_some (λ key. is_among key keys) some rising)))
    (rising_some (λ key. is_among key (keys_after keys waiting)) some rising)
    (λ key.
    among-united key (common some waiting.added) (without waiting.removed (common some keys))
    ∙ ap₂ (λ a b. a || b) (among-filter (λ other. is_among other waiting.added) key some)
    (among-filter (λ other. not (is_among other waiting.removed)) key (common some keys) ∙ ap (λ b. not (is_among key waiting.removed) && b) (among-filter (λ other. is_among other keys) key some))
    ∙ either (is_among key waiting.added) (not (is_among key waiting.removed)) (is_among key keys) (is_among key some)
    ∙ sym (among-filter (λ other. is_among other (keys_after keys waiting)) key some ∙ ap (λ b. b && is_among key some) (among_after key)))
  where
    either : (a r k s : Bool) → ((a && s) || (r && (k && s))) ≡ ((a || (r && k)) && s)
    either true true true true = refl
    either true true true false = refl
    either true true false true = refl
    either true true false false = refl
    either true false k true = refl
    either true false k false = refl
    either false true k s = refl
    either false false k s = refl

    among_after : (key : ℕ) → is_among key (keys_after keys waiting) ≡ (is_among key waiting.added || (not (is_among key waiting.removed) && is_among key keys))
    among_after key =
        among-put_keys key waiting.added (landed waiting.shifted (without waiting.removed keys))
        ∙ ap (λ b. is_among key waiting.added || b) (ap (is_among key) (still_places waiting.shifted (without waiting.removed keys) still) ∙ among-filter (λ other. not (is_among other waiting.removed)) key keys)

-- an update that only modifies rows breaks no rule but that they are there
pub absent_alone : (limit : ℕ) (keys : List ℕ) (update : Update) → (is_none update.removed && is_none update.added && is_none update.shifted) ≡ true → IsRising keys → AllByRecursion (λ key. key < limit) keys
    → update_fault limit keys update ≡ option_map ModifiedAbsent (find (λ key. not (is_among key keys)) update.modified)
absent_alone limit keys update alone rising below =
    let both = and_parts (is_none update.removed && is_none update.added) (is_none update.shifted) alone in
    let come = and_parts (is_none update.removed) (is_none update.added) both.0 in
    ap₂ (λ (removed : List ℕ) (shifts : List ShiftRange). update_fault limit keys (record update { removed = removed; shifted = shifts })) (none_is update.removed come.0) (none_is update.shifted both.1)
    ∙ ap (λ (added : List ℕ). update_fault limit keys (record update { removed = []; added = added; shifted = [] })) (none_is update.added come.1)
    ∙ ap (λ (stay : List ℕ). option_or (shift_fault limit [] stay) (option_or (option_map ModifiedAbsent (find (λ key. not (is_among key (landed [] stay ++ []))) update.modified)) new)) (filter_all keys)
    ∙ ap₂ (λ (order : Option UpdateFault) (places : List ℕ). option_or order (option_or (option_map ModifiedAbsent (find (λ key. not (is_among key places)) update.modified)) new))
    (still_keeps limit [] keys refl rising below) (append-nil (landed [] keys) ∙ still_places [] keys refl)
    ∙ ap (λ (o : Option ℕ). option_or absent (option_map ModifiedAdded o)) (find_none (λ key. is_among key []) update.modified (every (λ key. is_among key [] ≡ false) update.modified (λ key. refl)))
    ∙ elim absent as (λ o. option_or o None ≡ o) [ None ↦ refl | Some fault ↦ refl ]
  where
    new : Option UpdateFault
    new = option_map ModifiedAdded (find (λ key. is_among key []) update.modified)

    absent : Option UpdateFault
    absent = option_map ModifiedAbsent (find (λ key. not (is_among key keys)) update.modified)

-- an update behind one that waits, checked on those of the keys that it names
module _ (keys : List ℕ) (waiting : Update) (waits : MayWait keys waiting) (added_rise : IsRising waiting.added) where
  pub after_rise : IsRising (keys_after keys waiting)
  after_rise = keys_after-rise (2 ^ 62) keys waiting (record { breaks_none = waits.applies; added_rise = added_rise })

  pub here_below : (update : Update) (here : List ℕ) → here ≡ common (named update) (keys_after keys waiting) → AllByRecursion (λ key. key < 2 ^ 40) (keys_after keys waiting) → AllByRecursion (λ key. key < 2 ^ 40) here
  here_below update here is below = subst (AllByRecursion (λ key. key < 2 ^ 40)) (sym is) (common_below (2 ^ 40) (named update) (keys_after keys waiting) below)

  pub here_same : (update : Update) → update.shifted ≡ [] → AllByRecursion (λ key. key < 2 ^ 40) (keys_after keys waiting) → IsRising update.modified → (here : List ℕ) → here ≡ common (named update) (keys_after keys waiting) → update_fault (2 ^ 40) here update ≡ update_fault (2 ^ 40) (keys_after keys waiting) update
  here_same update still below modified_rise here is = ap (λ some. update_fault (2 ^ 40) some update) is ∙ named_fault (2 ^ 40) (keys_after keys waiting) update still after_rise below modified_rise
