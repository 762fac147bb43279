-- A step that is a tick's: its update, its keys and its told rows, and how a block carries it on.
use Rattle.std.proofs.Common.{◌≡◌, refl, ap, ap₂, sym, ◌∙◌, subst, Option, Bool, true, false, not, ◌||◌, ◌&&◌, ℕ, ◌^◌, List, [], ◌++◌, map, filter, None, true≢false, inl, inr, lit≤}
use Rattle.std.{specs.Prelude.{find, option_map}, specs.List.AllByRecursion, specs.Option.option_or, proofs.lemmas.Bool.{and_parts, or_cases, or_parts}}
use Rattle.key_lists.{specs.Keys.{is_among, IsRising, without}, proofs.Among.{among-append, among-filter, each_among, of_among}, proofs.Every.{every, every_weaker, every_both, every-map, every_unmapped, every-filter, every-append, filter_passes, map_map, find_none}, proofs.Rising.rising-filter}
use Rattle.shift_data.specs.Moves.{pair_through}
use Rattle.shown_rows.proofs.Named.{named_by, of_named}
use Rattle.table_update.{specs.Coalesced.{Follow, is_modified, kept_by_both, key_pairs}, proofs.CoalescedKeys.{kept_keys, kept_pairs}, proofs.KeysAfter.{KeepsRules, rules_kept}, proofs.LawfulParts.lawful_below}
use Rattle.tick_laws.{specs.Checked.{IsChecked, keys_after, put_keys}, specs.Replaced.no_update, proofs.Blocks.{block_checked, block_tick}, proofs.Carried.pairs-between, proofs.Composed.composed_tick, proofs.SourceTicks.unchanged_tick, proofs.ToldRows.none_without, proofs.WholeUpdates.between-unchanged}
use Rattle.tick_model.{specs.declared.feed.Block.Block, specs.declared.table.PlainTable.PlainTable, specs.declared.update.KeyPair.KeyPair, specs.declared.update.ShiftRange.ShiftRange, specs.declared.update.UpdateFault.UpdateFault, specs.declared.update.UpdateFault.TheVariants.{RemovedAbsent, AddedTaken, ModifiedAbsent, ModifiedAdded}, specs.Rules.{landed, shift_fault, update_fault}, specs.Shifts.{as_key, composed, moved, shifted}, specs.Sources.{IsBlock, block_fault, carried, carry_on, same_key, unchanged, update_of}, specs.Tables.{IsTable, cells_at, keys}, specs.Updates.{IsTick, Tick, Update, between, kept_pair, new_keys, old_keys, pairs}}
use Rattle.tick_table.proofs.Between.{between_lawful, keys_after_between}
use Rattle.source_changes.{specs.Stepping.{Stands, Stepping, stepped}, proofs.Carrying.{among-carried, among-landed, carried_keys, cells_stay, new_told_rise, new_told_same, new_told_there, told_added, told_lawful, told_modified, told_moved}, proofs.Followed.{after_added, after_modified, after_removed, after_shifted}}

-- where each rule is kept, none is broken
pub none_broken : (limit : ℕ) (old : List ℕ) (update : Update) → KeepsRules limit old update → update_fault limit old update ≡ None
none_broken limit old update k =
    ap (λ o. option_or (option_map RemovedAbsent o) (option_or (shift_fault limit update.shifted (without update.removed old)) places)) k.removed
    ∙ ap (λ o. option_or o places) k.shifted
    ∙ ap (λ o. option_or (option_map AddedTaken o) modified) k.added
    ∙ ap (λ o. option_or (option_map ModifiedAbsent o) (option_map ModifiedAdded (find (λ key. is_among key update.added) update.modified))) k.modified
    ∙ ap (option_map ModifiedAdded) k.apart
  where
    modified : Option UpdateFault
    modified = option_or (option_map ModifiedAbsent (find (λ key. not (is_among key (landed update.shifted (without update.removed old) ++ update.added))) update.modified)) (option_map ModifiedAdded (find (λ key. is_among key update.added) update.modified))

    places : Option UpdateFault
    places = option_or (option_map AddedTaken (find (λ key. is_among key (landed update.shifted (without update.removed old))) update.added)) modified

-- an update that may be applied below a limit may be applied
pub lawful_wider : (old : List ℕ) (update : Update) → update_fault (2 ^ 40) old update ≡ None → update_fault (2 ^ 62) old update ≡ None
lawful_wider old update e =
    let k = rules_kept (2 ^ 40) old update e in
    none_broken (2 ^ 62) old update
    (record { removed = k.removed; shifted = lawful_below (2 ^ 40) update.shifted (without update.removed old) (lit≤ tt) k.shifted; added = k.added; modified = k.modified; apart = k.apart })

module _ (tick : Tick) (step : Stepping) (h : Stands tick step) where
  abbrev pub before : List ℕ
  before = keys step.old.rows

  abbrev pub first : Update
  first = step.update

  abbrev first_place : ℕ → ℕ
  first_place key = as_key (moved first.shifted key)

  before_is : before ≡ keys tick.old.rows
  before_is = ap (λ (table : PlainTable). keys table.rows) h.old

  -- the pairs that its update keeps are the tick's
  pub kept_is : key_pairs before first ≡ tick.kept
  kept_is =
      ap (λ ks. key_pairs ks first) before_is
      ∙ ap₂ (λ (removed : List ℕ) (shifts : List ShiftRange). map (λ key. let pair : KeyPair = record { old = key; new = as_key (moved shifts key) } in pair) (without removed (keys tick.old.rows))) h.removed h.shifted
      ∙ pairs-between tick h.is_tick

  -- and it leaves the keys of the tick's new table
  pub after_is : keys_after before first ≡ keys tick.new.rows
  after_is =
      ap (λ ks. keys_after ks first) before_is
      ∙ ap (λ added. put_keys added (landed first.shifted (without first.removed (keys tick.old.rows)))) h.added
      ∙ ap₂ (λ (removed : List ℕ) (shifts : List ShiftRange). put_keys (between tick).added (landed shifts (without removed (keys tick.old.rows)))) h.removed h.shifted
      ∙ keys_after_between tick h.is_tick

  places_are : landed first.shifted (without first.removed before) ≡ new_keys tick.kept
  places_are = sym (map_map (λ (pair : KeyPair). pair.new) (kept_pair first) (without first.removed before)) ∙ ap new_keys kept_is

  between_rules : KeepsRules (2 ^ 62) (keys tick.old.rows) (between tick)
  between_rules = rules_kept (2 ^ 62) (keys tick.old.rows) (between tick) (between_lawful tick h.is_tick)

  pub first_rules : KeepsRules (2 ^ 62) before first
  first_rules = record {
    removed = ap₂ (λ (ks removed : List ℕ). find (λ key. not (is_among key ks)) removed) before_is h.removed ∙ between_rules.removed;
    shifted = ap₂ (λ (ks removed : List ℕ). shift_fault (2 ^ 62) first.shifted (without removed ks)) before_is h.removed ∙ ap (λ (shifts : List ShiftRange). shift_fault (2 ^ 62) shifts (without (between tick).removed (keys tick.old.rows))) h.shifted ∙ between_rules.shifted;
    added =
        ap₂ (λ (ks removed : List ℕ). find (λ key. is_among key (landed first.shifted (without removed ks))) first.added) before_is h.removed
        ∙ ap₂ (λ (shifts : List ShiftRange) (added : List ℕ). find (λ key. is_among key (landed shifts (without (between tick).removed (keys tick.old.rows)))) added) h.shifted h.added ∙ between_rules.added;
    modified =
        find_none (λ key. not (is_among key (landed first.shifted (without first.removed before) ++ first.added))) first.modified
        (every_weaker (λ key. is_among key (new_keys tick.kept) ≡ true) (λ key. not (is_among key (landed first.shifted (without first.removed before) ++ first.added)) ≡ false) first.modified
        (λ key own. ap not (among-append key (landed first.shifted (without first.removed before)) first.added ∙ ap (λ ks. is_among key ks || is_among key first.added) places_are ∙ ap (λ b. b || is_among key first.added) own)) h.modified_stay);
    apart =
        find_none (λ key. is_among key first.added) first.modified
        (every_weaker (λ key. is_among key (new_keys tick.kept) ≡ true) (λ key. is_among key first.added ≡ false) first.modified
        (λ key own. ap (is_among key) h.added ∙ of_among (λ k. is_among k (without (new_keys tick.kept) (keys tick.new.rows)) ≡ false) key (new_keys tick.kept) (none_without (new_keys tick.kept) (keys tick.new.rows)) own) h.modified_stay);
  }

  pub first_applies : update_fault (2 ^ 62) before first ≡ None
  first_applies = none_broken (2 ^ 62) before first first_rules

  -- a key of now that is not told is that of a row that stays and has the cells that it had
  pub others_first : AllByRecursion (λ key. is_among (first_place key) first.modified ≡ false → cells_at key tick.old.rows ≡ cells_at (first_place key) tick.new.rows) (without first.removed before)
  others_first =
      every_unmapped (λ (pair : KeyPair). is_among pair.new first.modified ≡ false → cells_at pair.old tick.old.rows ≡ cells_at pair.new tick.new.rows) (kept_pair first) (without first.removed before)
      (subst (AllByRecursion (λ (pair : KeyPair). is_among pair.new first.modified ≡ false → cells_at pair.old tick.old.rows ≡ cells_at pair.new tick.new.rows)) (sym kept_is) h.others)

  told_of : (key : ℕ) → is_among key (first.added ++ first.modified) ≡ true → is_among key (keys step.told) ≡ true
  told_of key e = of_among (λ k. is_among k (keys step.told) ≡ true) key (first.added ++ first.modified) h.all_told e

  pub added_told : (key : ℕ) → is_among key first.added ≡ true → is_among key (keys step.told) ≡ true
  added_told key e = told_of key (among-append key first.added first.modified ∙ ap (λ b. b || is_among key first.modified) e)

  pub modified_told : (key : ℕ) → is_among key first.modified ≡ true → is_among key (keys step.told) ≡ true
  modified_told key e = told_of key (among-append key first.added first.modified ∙ either (is_among key first.added) (is_among key first.modified) e)
    where
      either : (a b : Bool) → b ≡ true → (a || b) ≡ true
      either true b e = refl
      either false b e = e

  -- a key of now that is not told is one to which a row moves that stays
  pub untold_stays : (key : ℕ) → is_among key (keys tick.new.rows) ≡ true → is_among key (keys step.told) ≡ false → is_among key (landed first.shifted (without first.removed before)) ≡ true
  untold_stays key here untold =
      ap (is_among key) places_are ∙ stays (is_among key (new_keys tick.kept)) refl
    where
      stays : (b : Bool) → is_among key (new_keys tick.kept) ≡ b → b ≡ true
      stays true e = refl
      stays false e =
          absurd (true≢false (sym (added_told key (ap (is_among key) h.added ∙ among-filter (λ k. not (is_among k (new_keys tick.kept))) key (keys tick.new.rows) ∙ ap₂ (λ a b. not a && b) e here)) ∙ untold))

  module _ (block : Block) (l : IsBlock tick.new.width block) (fine : block_fault tick.new block ≡ None) (removed_rise : IsRising (update_of block).removed) (before_rise : IsRising before) (added_rise : IsRising first.added) where
    abbrev next : Update
    next = update_of block

    abbrev new_tick : Tick
    new_tick = carry_on tick block

    abbrev new_step : Stepping
    new_step = stepped step block

    checked : IsChecked (2 ^ 40) (keys tick.new.rows) next
    checked = block_checked tick.new block fine l.rising_added

    next_applies : update_fault (2 ^ 62) (keys_after before first) next ≡ None
    next_applies = ap (λ ks. update_fault (2 ^ 62) ks next) after_is ∙ lawful_wider (keys tick.new.rows) next checked.breaks_none

    pub follow : Follow before first next
    follow = record { applies = first_applies; follows = next_applies }

    kept_both : kept_by_both before first next ≡ new_tick.kept
    kept_both = ap₂ composed kept_is (ap (λ ks. key_pairs ks next) after_is)

    abbrev both_keys : List ℕ
    both_keys = kept_keys before first next first_applies next_applies

    abbrev pair_of : ℕ → KeyPair
    pair_of = pair_through first.shifted next.shifted

    pairs_both : map pair_of both_keys ≡ new_tick.kept
    pairs_both = sym (kept_pairs before first next first_applies next_applies) ∙ kept_both

    is_new_tick : IsTick new_tick
    is_new_tick = composed_tick tick (record { old = tick.new; new = carried tick.new block; kept = pairs tick.new next }) h.is_tick (block_tick tick.new block h.is_tick.new_table l fine) refl

    modified_is : new_step.update.modified ≡ new_keys (filter (is_modified first next) new_tick.kept)
    modified_is =
        after_modified before first next first_applies next_applies before_rise added_rise h.modified_rise removed_rise l.rising_added l.rising_modified
        ∙ ap (λ kept. new_keys (filter (is_modified first next) kept)) kept_both

    added_is : new_step.update.added ≡ (between new_tick).added
    added_is =
        after_added before first next first_applies next_applies before_rise added_rise h.modified_rise removed_rise l.rising_added l.rising_modified
        ∙ ap₂ (λ (kept : List KeyPair) (ks : List ℕ). without (new_keys kept) ks) kept_both (ap (λ ks. keys_after ks next) after_is ∙ sym (carried_keys tick.new block checked))

    -- what is known of the key before the step of a row that stays through all
    record IsStaying (key : ℕ) : Type 0 where
      same : is_among (first_place key) first.modified ≡ false → cells_at key tick.old.rows ≡ cells_at (first_place key) tick.new.rows
      stays : is_among (first_place key) next.removed ≡ false
      here : is_among (first_place key) (keys tick.new.rows) ≡ true

    not_true : (b : Bool) → not b ≡ true → b ≡ false
    not_true true e = absurd (true≢false (sym e))
    not_true false e = refl

    first_here : AllByRecursion (λ key. is_among (first_place key) (keys tick.new.rows) ≡ true) (without first.removed before)
    first_here =
        every_unmapped (λ (pair : KeyPair). is_among pair.new (keys tick.new.rows) ≡ true) (kept_pair first) (without first.removed before)
        (subst (AllByRecursion (λ (pair : KeyPair). is_among pair.new (keys tick.new.rows) ≡ true)) (sym kept_is) (every_unmapped (λ key. is_among key (keys tick.new.rows) ≡ true) (λ (pair : KeyPair). pair.new) tick.kept h.is_tick.of_new))

    abbrev goes_on : ℕ → Bool
    goes_on key = not (is_among (first_place key) next.removed)

    staying : AllByRecursion IsStaying both_keys
    staying =
        every_both (λ key. goes_on key ≡ true) (λ key. (is_among (first_place key) first.modified ≡ false → cells_at key tick.old.rows ≡ cells_at (first_place key) tick.new.rows) × (is_among (first_place key) (keys tick.new.rows) ≡ true)) IsStaying both_keys
        (λ key e s. record { same = s.0; stays = not_true (is_among (first_place key) next.removed) e; here = s.1 })
        (filter_passes goes_on (without first.removed before))
        (every-filter (λ key. (is_among (first_place key) first.modified ≡ false → cells_at key tick.old.rows ≡ cells_at (first_place key) tick.new.rows) × (is_among (first_place key) (keys tick.new.rows) ≡ true)) goes_on (without first.removed before)
        (every_both (λ key. is_among (first_place key) first.modified ≡ false → cells_at key tick.old.rows ≡ cells_at (first_place key) tick.new.rows) (λ key. is_among (first_place key) (keys tick.new.rows) ≡ true) (λ key. (is_among (first_place key) first.modified ≡ false → cells_at key tick.old.rows ≡ cells_at (first_place key) tick.new.rows) × (is_among (first_place key) (keys tick.new.rows) ≡ true)) (without first.removed before) (λ key s t. (s, t)) others_first first_here))

    new_others : AllByRecursion (λ pair. is_among pair.new new_step.update.modified ≡ false → cells_at pair.old tick.old.rows ≡ cells_at pair.new new_tick.new.rows) new_tick.kept
    new_others =
        every_both (λ (pair : KeyPair). is_among pair.new (new_keys (filter (is_modified first next) new_tick.kept)) ≡ is_modified first next pair)
        (λ (pair : KeyPair). is_modified first next pair ≡ false → cells_at pair.old tick.old.rows ≡ cells_at pair.new new_tick.new.rows)
        (λ (pair : KeyPair). is_among pair.new new_step.update.modified ≡ false → cells_at pair.old tick.old.rows ≡ cells_at pair.new new_tick.new.rows) new_tick.kept
        (λ pair named same e. same (sym named ∙ ap (is_among pair.new) (sym modified_is) ∙ e))
        (named_by (λ (pair : KeyPair). pair.new) (is_modified first next) new_tick.kept is_new_tick.rising_new)
        (subst (AllByRecursion (λ (pair : KeyPair). is_modified first next pair ≡ false → cells_at pair.old tick.old.rows ≡ cells_at pair.new new_tick.new.rows)) pairs_both
        (every-map (λ (pair : KeyPair). is_modified first next pair ≡ false → cells_at pair.old tick.old.rows ≡ cells_at pair.new new_tick.new.rows) pair_of both_keys
        (every_weaker IsStaying (λ key. is_modified first next (pair_of key) ≡ false → cells_at key tick.old.rows ≡ cells_at (pair_of key).new new_tick.new.rows) both_keys
        (λ key s e.
        let parts = or_parts (is_among (first_place key) first.modified) (is_among (pair_of key).new next.modified) e in
        s.same parts.0 ∙ cells_stay tick.new block checked (first_place key) s.here s.stays parts.1)
        staying)))

    told_is_told : AllByRecursion (λ key. is_among key (keys new_step.told) ≡ true) new_step.update.modified
    told_is_told =
        subst (AllByRecursion (λ key. is_among key (keys new_step.told) ≡ true)) (sym modified_is)
        (every-map (λ key. is_among key (keys new_step.told) ≡ true) (λ (pair : KeyPair). pair.new) (filter (is_modified first next) new_tick.kept)
        (every_both (λ (pair : KeyPair). is_modified first next pair ≡ true) (λ (pair : KeyPair). is_modified first next pair ≡ true → is_among pair.new (keys new_step.told) ≡ true) (λ (pair : KeyPair). is_among pair.new (keys new_step.told) ≡ true) (filter (is_modified first next) new_tick.kept)
        (λ pair e f. f e)
        (filter_passes (is_modified first next) new_tick.kept)
        (every-filter (λ (pair : KeyPair). is_modified first next pair ≡ true → is_among pair.new (keys new_step.told) ≡ true) (is_modified first next) new_tick.kept
        (subst (AllByRecursion (λ (pair : KeyPair). is_modified first next pair ≡ true → is_among pair.new (keys new_step.told) ≡ true)) pairs_both
        (every-map (λ (pair : KeyPair). is_modified first next pair ≡ true → is_among pair.new (keys new_step.told) ≡ true) pair_of both_keys
        (every_weaker IsStaying (λ key. is_modified first next (pair_of key) ≡ true → is_among (pair_of key).new (keys new_step.told) ≡ true) both_keys
        (λ key s e.
        elim (or_cases (is_among (first_place key) first.modified) (is_among (pair_of key).new next.modified) e) [
          | inl before ↦ told_moved tick.new block checked l.rising_modified h.is_tick.new_table.rising step.told h.told_rise h.told_there h.told_same (first_place key) (modified_told (first_place key) before) s.stays
          | inr now ↦ told_modified tick.new block checked l.rising_modified h.is_tick.new_table.rising step.told h.told_rise h.told_there h.told_same (pair_of key).new now
        ])
        staying))))))

    -- a row that came is told: by the block, or before it
    added_is_told : AllByRecursion (λ key. is_among key (keys new_step.told) ≡ true) (between new_tick).added
    added_is_told =
        every_weaker (λ key. is_among key (between new_tick).added ≡ true) (λ key. is_among key (keys new_step.told) ≡ true) (between new_tick).added
        (λ key e.
        let parts = and_parts (not (is_among key (new_keys new_tick.kept))) (is_among key (keys new_tick.new.rows)) (sym (among-filter (λ k. not (is_among k (new_keys new_tick.kept))) key (keys new_tick.new.rows)) ∙ e) in
        one key (not_true (is_among key (new_keys new_tick.kept)) parts.0) parts.1)
        (each_among (between new_tick).added)
      where
        next_place : ℕ → ℕ
        next_place key = as_key (moved next.shifted key)

        stayed : (key : ℕ) → is_among key (landed first.shifted (without first.removed before)) ≡ true → is_among key next.removed ≡ false → is_among (next_place key) (new_keys new_tick.kept) ≡ true
        stayed key here stays =
            let from = of_named first_place (λ k. is_among k (without first.removed before) ≡ true) key (without first.removed before) (each_among (without first.removed before)) here in
            let on : is_among from.0 both_keys ≡ true =
            among-filter goes_on from.0 (without first.removed before) ∙ ap₂ (λ a b. not a && b) (ap (λ k. is_among k next.removed) from.1.1 ∙ stays) from.1.0 in
            subst (λ k. is_among (next_place k) (new_keys new_tick.kept) ≡ true) from.1.1
            (subst (λ kept. is_among (pair_of from.0).new (new_keys kept) ≡ true) pairs_both
            (ap (is_among (pair_of from.0).new) (map_map (λ (pair : KeyPair). pair.new) pair_of both_keys) ∙ among-landed (λ k. (pair_of k).new) from.0 both_keys on))

        from_before : (key : ℕ) → is_among (next_place key) (new_keys new_tick.kept) ≡ false → is_among key (keys tick.new.rows) ≡ true → is_among key next.removed ≡ false → (b : Bool) → is_among key (keys step.told) ≡ b → is_among (next_place key) (keys new_step.told) ≡ true
        from_before key none here stays true e = told_moved tick.new block checked l.rising_modified h.is_tick.new_table.rising step.told h.told_rise h.told_there h.told_same key e stays
        from_before key none here stays false e = absurd (true≢false (sym (stayed key (untold_stays key here e) stays) ∙ none))

        one : (key : ℕ) → is_among key (new_keys new_tick.kept) ≡ false → is_among key (keys new_tick.new.rows) ≡ true → is_among key (keys new_step.told) ≡ true
        one key none here =
            elim (or_cases (is_among key (keys block.added)) (is_among key (landed block.shifts (without next.removed (keys tick.new.rows)))) (sym (among-carried tick.new block checked key) ∙ here)) [
              | inl added ↦ told_added tick.new block checked l.rising_modified h.is_tick.new_table.rising step.told h.told_rise h.told_there h.told_same key added
              | inr moves ↦
                  let from = of_named next_place (λ k. is_among k (without next.removed (keys tick.new.rows)) ≡ true) key (without next.removed (keys tick.new.rows)) (each_among (without next.removed (keys tick.new.rows))) moves in
                  let parts = and_parts (not (is_among from.0 next.removed)) (is_among from.0 (keys tick.new.rows)) (sym (among-filter (λ k. not (is_among k next.removed)) from.0 (keys tick.new.rows)) ∙ from.1.0) in
                  subst (λ k. is_among k (keys new_step.told) ≡ true) from.1.1
                  (from_before from.0 (ap (λ k. is_among k (new_keys new_tick.kept)) from.1.1 ∙ none) parts.1 (not_true (is_among from.0 next.removed) parts.0) (is_among from.0 (keys step.told)) refl)
            ]

    pub stands_on : Stands new_tick new_step
    stands_on = record {
      is_tick = is_new_tick;
      old = h.old;
      removed =
          after_removed before first next first_applies next_applies before_rise added_rise h.modified_rise removed_rise l.rising_added l.rising_modified
          ∙ ap₂ (λ (kept : List KeyPair) (ks : List ℕ). without (old_keys kept) ks) kept_both before_is;
      added = added_is;
      shifted =
          after_shifted before first next first_applies next_applies before_rise added_rise h.modified_rise removed_rise l.rising_added l.rising_modified
          ∙ ap shifted kept_both;
      modified_rise = subst IsRising (sym modified_is) (rising-filter (λ (pair : KeyPair). pair.new) (is_modified first next) new_tick.kept is_new_tick.rising_new);
      modified_stay =
          subst (AllByRecursion (λ key. is_among key (new_keys new_tick.kept) ≡ true)) (sym modified_is)
          (every-map (λ key. is_among key (new_keys new_tick.kept) ≡ true) (λ (pair : KeyPair). pair.new) (filter (is_modified first next) new_tick.kept)
          (every-filter (λ (pair : KeyPair). is_among pair.new (new_keys new_tick.kept) ≡ true) (is_modified first next) new_tick.kept
          (every_unmapped (λ key. is_among key (new_keys new_tick.kept) ≡ true) (λ (pair : KeyPair). pair.new) new_tick.kept (each_among (new_keys new_tick.kept)))));
      others = new_others;
      told_rise = new_told_rise tick.new block checked l.rising_modified h.is_tick.new_table.rising step.told h.told_rise h.told_there h.told_same;
      told_there = new_told_there tick.new block checked l.rising_modified h.is_tick.new_table.rising step.told h.told_rise h.told_there h.told_same;
      told_same = new_told_same tick.new block checked l.rising_modified h.is_tick.new_table.rising step.told h.told_rise h.told_there h.told_same;
      all_told =
          every-append (λ key. is_among key (keys new_step.told) ≡ true) new_step.update.added new_step.update.modified
          (subst (AllByRecursion (λ key. is_among key (keys new_step.told) ≡ true)) (sym added_is) added_is_told) told_is_told;
    }

    -- the shift of the block is lawful on the told rows
    pub told_moves : shift_fault (2 ^ 62) block.shifts (without next.removed (keys step.told)) ≡ None
    told_moves = told_lawful tick.new block checked l.rising_modified h.is_tick.new_table.rising step.told h.told_rise h.told_there h.told_same

-- a source that no block has changed
pub stands_unchanged : (table : PlainTable) → IsTable table → let step : Stepping = record { old = table; update = no_update; told = [] } in Stands (unchanged table) step
stands_unchanged table h = record {
  is_tick = unchanged_tick table h;
  old = refl;
  removed = sym (ap (λ (update : Update). update.removed) (between-unchanged table));
  added = sym (ap (λ (update : Update). update.added) (between-unchanged table));
  shifted = sym (ap (λ (update : Update). update.shifted) (between-unchanged table));
  modified_rise = tt;
  modified_stay = tt;
  others =
      every-map (λ (pair : KeyPair). is_among pair.new [] ≡ false → cells_at pair.old table.rows ≡ cells_at pair.new table.rows) same_key (keys table.rows)
      (every (λ key. is_among key [] ≡ false → cells_at key table.rows ≡ cells_at key table.rows) (keys table.rows) (λ key e. refl));
  told_rise = tt;
  told_there = tt;
  told_same = tt;
  all_told = tt;
}
