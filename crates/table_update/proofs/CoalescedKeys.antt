-- What two updates, one after the other, remove, add and modify, by edits of the sets of the second.
use Rattle.std.proofs.Common.{◌≡◌, refl, ap, ap₂, sym, ◌∙◌, subst, Bool, true, false, cond, not, ◌&&◌, ◌||◌, ◌==◌, ℕ, ◌<◌, ◌^◌, List, [], ◌∷◌, ◌++◌, map, filter, Some, None, true≢false, inl, inr}
use Rattle.std.{specs.Prelude.{find, option_map}, specs.List.{AllByRecursion, cons_option}, proofs.lemmas.Bool.{and_parts, or_right, or_cases, not-false, eqb-true, cases_Bool, cases_eq, eq-eqb, ne_eqb, or_left}}
use Rattle.key_lists.{specs.Keys.{is_among, IsRising, without}, proofs.Among.{among-filter, among-append, among_below, each_among, of_among, absent-filter}, proofs.Every.{every, every_weaker, every_unmapped, filter-map, map_map, map_own, none_pass}, proofs.Rising.{rising_some, rising_same}, proofs.Booleans.{or_assoc, or_swap}}
use Rattle.row_set.{specs.Sets.united, proofs.United.{among-united, united_rises}}
use Rattle.tick_model.{specs.declared.update.KeyPair.KeyPair, specs.Rules.{landed, update_fault}, specs.Shifts.{moved, as_key, composed}, specs.Updates.{Update, kept_pair, new_keys, old_keys}}
use Rattle.tick_laws.{specs.Checked.keys_after, proofs.CheckedUpdates.{among-put_keys, keys_after-rise}}
use Rattle.shift_data.specs.Moves.{IsLawful, pair_through, unapplied}
use Rattle.table_update.{specs.Coalesced.{key_pairs, kept_by_both, is_modified, modified_after, removed_by_both, added_by_both, modified_by_both}, proofs.KeysAfter.{KeepsRules, rules_kept}, proofs.LawfulParts.{lawful_some, places_rise}}

-- tests of a key, by the sets that have it
removed_test : (r o g : Bool) → (r ≡ true → o ≡ true) → (r || (g && (not r && o))) ≡ (not (not g && (not r && o)) && o)
removed_test true true true h = refl
removed_test true true false h = refl
removed_test true false g h = absurd (true≢false (sym (h refl)))
removed_test false true true h = refl
removed_test false true false h = refl
removed_test false false true h = refl
removed_test false false false h = refl

kept_test : (k o : Bool) → (k ≡ true → o ≡ true) → (not (not k && o) && o) ≡ k
kept_test true true h = refl
kept_test true false h = absurd (true≢false (sym (h refl)))
kept_test false true h = refl
kept_test false false h = refl

stayed_test : (a p r : Bool) → (a ≡ true → p ≡ false) → (not r && p) ≡ (not a && (not r && (a || p)))
stayed_test true true r h = absurd (true≢false (h refl))
stayed_test true false true h = refl
stayed_test true false false h = refl
stayed_test false p r h = refl

came_test : (a p r : Bool) → (not r && a) ≡ (a && (not r && (a || p)))
came_test true p true = refl
came_test true p false = refl
came_test false p true = refl
came_test false p false = refl

among_test : (m p r : Bool) → (m ≡ true → p ≡ true) → (not r && m) ≡ (m && (not r && p))
among_test true true true h = refl
among_test true true false h = refl
among_test true false r h = absurd (true≢false (sym (h refl)))
among_test false p true h = refl
among_test false p false h = refl

added_test : (a l c : Bool) → (a ≡ true → l ≡ false) → (c ≡ true → l ≡ true) → (c || a) ≡ (not (l && not c) && (a || l))
added_test true true c h k = absurd (true≢false (h refl))
added_test true false true h k = absurd (true≢false (sym (k refl)))
added_test true false false h k = refl
added_test false true true h k = refl
added_test false true false h k = refl
added_test false false true h k = absurd (true≢false (sym (k refl)))
added_test false false false h k = refl

left_test : (l c : Bool) → (c ≡ true → l ≡ true) → (c || (l && not c)) ≡ l
left_test true true k = refl
left_test true false k = refl
left_test false true k = absurd (true≢false (sym (k refl)))
left_test false false k = refl

modified_test : (m l c : Bool) → (m ≡ true → l ≡ true) → (not c && m) ≡ (m && (l && not c))
modified_test true true true h = refl
modified_test true true false h = refl
modified_test true false c h = absurd (true≢false (sym (h refl)))
modified_test false l true h = refl
modified_test false l false h = refl

place_of_some : (f : ℕ → ℕ) (p : ℕ → Bool) (place : ℕ) (keys : List ℕ) → is_among place (map f (filter p keys)) ≡ true → is_among place (map f keys) ≡ true
place_of_some f p place keys e =
    elim (cases_Bool (is_among place (map f keys))) [
      | inl there ↦ there
      | inr nowhere ↦ absurd (true≢false (sym e ∙ absent-filter f p place keys nowhere))
    ]

-- the places of rising keys that fail a test are those that are no places of the keys that pass it
split_places : (f : ℕ → ℕ) (q : ℕ → Bool) (place : ℕ) (keys : List ℕ) → IsRising (map f keys) → is_among place (map f (filter (λ key. not (q key)) keys)) ≡ (is_among place (map f keys) && not (is_among place (map f (filter q keys))))
split_places f q place [] rising = refl
split_places f q place (key ∷ keys) rising =
    elim (cases_eq (f key) place) [
      | inl here ↦
          let later : is_among place (map f keys) ≡ false = among_below place (map f keys) (subst (λ p. AllByRecursion (λ other. p < other) (map f keys)) here rising.0) in
          let passed : is_among place (map f (filter q keys)) ≡ false = none_of q later in
          let failed : is_among place (map f (filter (λ key. not (q key)) keys)) ≡ false = none_of (λ key. not (q key)) later in
          (elim (q key) as (λ b. is_among place (map f (cond (not b) (key ∷ filter (λ key. not (q key)) keys) (filter (λ key. not (q key)) keys))) ≡ (((f key == place) || is_among place (map f keys)) && not (is_among place (map f (cond b (key ∷ filter q keys) (filter q keys)))))) [
            | true ↦ failed ∙ sym (both (f key == place) (is_among place (map f keys)) (is_among place (map f (filter q keys))) (eq-eqb (f key) place here))
            | false ↦ or_left (f key == place) (is_among place (map f (filter (λ key. not (q key)) keys))) (eq-eqb (f key) place here) ∙ sym (alone (f key == place) (is_among place (map f keys)) (is_among place (map f (filter q keys))) (eq-eqb (f key) place here) passed)
          ])
      | inr elsewhere ↦
          let no : (f key == place) ≡ false = ne_eqb (f key) place elsewhere in
          (elim (q key) as (λ b. is_among place (map f (cond (not b) (key ∷ filter (λ key. not (q key)) keys) (filter (λ key. not (q key)) keys))) ≡ (((f key == place) || is_among place (map f keys)) && not (is_among place (map f (cond b (key ∷ filter q keys) (filter q keys)))))) [
            | true ↦ split_places f q place keys rising.1 ∙ sym (ap₂ (λ a b. (a || is_among place (map f keys)) && not (b || is_among place (map f (filter q keys)))) no no)
            | false ↦ ap (λ b. b || is_among place (map f (filter (λ key. not (q key)) keys))) no ∙ split_places f q place keys rising.1 ∙ sym (ap (λ a. (a || is_among place (map f keys)) && not (is_among place (map f (filter q keys)))) no)
          ])
    ]
  where
    none_of : (p : ℕ → Bool) → is_among place (map f keys) ≡ false → is_among place (map f (filter p keys)) ≡ false
    none_of p later = absent-filter f p place keys later

    both : (e l c : Bool) → e ≡ true → ((e || l) && not (e || c)) ≡ false
    both true l c h = refl
    both false l c h = absurd (true≢false (sym h))

    alone : (e l c : Bool) → e ≡ true → c ≡ false → ((e || l) && not c) ≡ true
    alone true l false h k = refl
    alone true l true h k = absurd (true≢false k)
    alone false l c h k = absurd (true≢false (sym h))

-- the places of keys that pass one of two tests
either_places : (f : ℕ → ℕ) (a b : ℕ → Bool) (place : ℕ) (keys : List ℕ) → is_among place (map f (filter (λ key. a key || b key) keys)) ≡ (is_among place (map f (filter a keys)) || is_among place (map f (filter b keys)))
either_places f a b place [] = refl
either_places f a b place (key ∷ keys) =
    elim (a key) as (λ x. is_among place (map f (cond (x || b key) (key ∷ filter (λ key. a key || b key) keys) (filter (λ key. a key || b key) keys))) ≡ (is_among place (map f (cond x (key ∷ filter a keys) (filter a keys))) || is_among place (map f (cond (b key) (key ∷ filter b keys) (filter b keys))))) [
      | true ↦
          elim (b key) as (λ y. ((f key == place) || is_among place (map f (filter (λ key. a key || b key) keys))) ≡ (((f key == place) || is_among place (map f (filter a keys))) || is_among place (map f (cond y (key ∷ filter b keys) (filter b keys))))) [
            | true ↦ ap (λ r. (f key == place) || r) (either_places f a b place keys) ∙ twice (f key == place) (is_among place (map f (filter a keys))) (is_among place (map f (filter b keys)))
            | false ↦ ap (λ r. (f key == place) || r) (either_places f a b place keys) ∙ or_assoc (f key == place) (is_among place (map f (filter a keys))) (is_among place (map f (filter b keys)))
          ]
      | false ↦
          elim (b key) as (λ y. is_among place (map f (cond y (key ∷ filter (λ key. a key || b key) keys) (filter (λ key. a key || b key) keys))) ≡ (is_among place (map f (filter a keys)) || is_among place (map f (cond y (key ∷ filter b keys) (filter b keys))))) [
            | true ↦ ap (λ r. (f key == place) || r) (either_places f a b place keys) ∙ or_swap (f key == place) (is_among place (map f (filter a keys))) (is_among place (map f (filter b keys)))
            | false ↦ either_places f a b place keys
          ]
    ]
  where
    twice : (e x y : Bool) → (e || (x || y)) ≡ ((e || x) || (e || y))
    twice true x y = refl
    twice false x y = refl

-- a modified key is that of a row that stays
pub modified_stays : (limit : ℕ) (old : List ℕ) (update : Update) → KeepsRules limit old update → (key : ℕ) → is_among key update.modified ≡ true → is_among key (landed update.shifted (without update.removed old)) ≡ true
modified_stays limit old update rules key here =
    let places = landed update.shifted (without update.removed old) in
    let known = of_among (λ key. not (is_among key (places ++ update.added)) ≡ false) key update.modified (none_pass (λ key. not (is_among key (places ++ update.added))) update.modified rules.modified) here in
    let apart = of_among (λ key. is_among key update.added ≡ false) key update.modified (none_pass (λ key. is_among key update.added) update.modified rules.apart) here in
    elim (or_cases (is_among key places) (is_among key update.added) (sym (among-append key places update.added) ∙ not-false (is_among key (places ++ update.added)) known)) [
      | inl stays ↦ stays
      | inr comes ↦ absurd (true≢false (sym comes ∙ apart))
    ]

module _ (old : List ℕ) (first next : Update) (f : update_fault (2 ^ 62) old first ≡ None) (n : update_fault (2 ^ 62) (keys_after old first) next ≡ None) where
  abbrev rules : KeepsRules (2 ^ 62) old first
  rules = rules_kept (2 ^ 62) old first f

  abbrev next_rules : KeepsRules (2 ^ 62) (keys_after old first) next
  next_rules = rules_kept (2 ^ 62) (keys_after old first) next n

  abbrev stay : List ℕ
  stay = without first.removed old

  abbrev first_place : ℕ → ℕ
  first_place key = as_key (moved first.shifted key)

  abbrev next_place : ℕ → ℕ
  next_place key = as_key (moved next.shifted key)

  abbrev places : List ℕ
  places = landed first.shifted stay

  abbrev middle : List ℕ
  middle = keys_after old first

  abbrev stay_on : List ℕ
  stay_on = without next.removed middle

  abbrev is_kept : ℕ → Bool
  is_kept key = not (is_among (first_place key) next.removed)

  abbrev pub kept_keys : List ℕ
  kept_keys = filter is_kept stay

  abbrev pair : ℕ → KeyPair
  pair = pair_through first.shifted next.shifted

  -- the pairs that both keep
  find_pair : (place : ℕ) (keys : List ℕ) → find (λ (further : KeyPair). further.old == place) (map (kept_pair next) keys) ≡ cond (is_among place keys) (Some (kept_pair next place)) None
  find_pair place [] = refl
  find_pair place (key ∷ keys) =
      (elim (key == place) as (λ b. (key == place) ≡ b → cond b (Some (kept_pair next key)) (find (λ (further : KeyPair). further.old == place) (map (kept_pair next) keys)) ≡ cond (b || is_among place keys) (Some (kept_pair next place)) None) [
        | true ↦ λ e. ap (λ k. Some (kept_pair next k)) (eqb-true key place e)
        | false ↦ λ e. find_pair place keys
      ]) refl

  -- a place of a key that stays is a key of the table between
  in_middle : (key : ℕ) → is_among key places ≡ true → is_among key middle ≡ true
  in_middle key here = among-put_keys key first.added places ∙ or_right (is_among key first.added) (is_among key places) here

  each_in_middle : AllByRecursion (λ key. is_among (first_place key) middle ≡ true) stay
  each_in_middle =
      every_unmapped (λ place. is_among place middle ≡ true) first_place stay
      (every_weaker (λ place. is_among place places ≡ true) (λ place. is_among place middle ≡ true) places in_middle (each_among places))

  stays_on : (place : ℕ) → is_among place middle ≡ true → is_among place stay_on ≡ not (is_among place next.removed)
  stays_on place here = among-filter (λ key. not (is_among key next.removed)) place middle ∙ ap (λ b. not (is_among place next.removed) && b) here ∙ and_true (not (is_among place next.removed))
    where
      and_true : (b : Bool) → (b && true) ≡ b
      and_true true = refl
      and_true false = refl

  composed_are : (keys : List ℕ) → AllByRecursion (λ key. is_among (first_place key) middle ≡ true) keys → composed (map (kept_pair first) keys) (key_pairs middle next) ≡ map pair (filter is_kept keys)
  composed_are [] h = refl
  composed_are (key ∷ keys) h =
      ap₂ (λ found rest. cons_option (option_map (λ (further : KeyPair). forward key further) found) rest)
      (find_pair (first_place key) stay_on ∙ ap (λ b. cond b (Some (kept_pair next (first_place key))) None) (stays_on (first_place key) h.0))
      (composed_are keys h.1)
      ∙ step (is_kept key)
    where
      forward : ℕ → KeyPair → KeyPair
      forward key further = record { old = key; new = further.new }

      step : (b : Bool) → cons_option (option_map (λ (further : KeyPair). forward key further) (cond b (Some (kept_pair next (first_place key))) None)) (map pair (filter is_kept keys)) ≡ map pair (cond b (key ∷ filter is_kept keys) (filter is_kept keys))
      step true = refl
      step false = refl

  pub kept_pairs : kept_by_both old first next ≡ map pair kept_keys
  kept_pairs = composed_are stay each_in_middle

  pub old_kept : old_keys (kept_by_both old first next) ≡ kept_keys
  old_kept =
      ap old_keys kept_pairs
      ∙ map_map (λ (p : KeyPair). p.old) pair kept_keys
      ∙ map_own (λ key. key) kept_keys (every (λ (key : ℕ). key ≡ key) kept_keys (λ key. refl))

  pub new_kept : new_keys (kept_by_both old first next) ≡ landed next.shifted (landed first.shifted kept_keys)
  new_kept =
      ap new_keys kept_pairs
      ∙ map_map (λ (p : KeyPair). p.new) pair kept_keys
      ∙ sym (map_map next_place first_place kept_keys)

  pub kept_lawful : IsLawful first.shifted kept_keys
  kept_lawful = lawful_some first.shifted is_kept stay rules.shifted

  -- what both remove
  pub united_removed : IsRising old → united first.removed (unapplied first.shifted stay next.removed) ≡ removed_by_both old first next
  united_removed rising =
      rising_same (united first.removed gone) (without kept_keys old)
      (united_rises first.removed gone (rising_some asked stay (rising_some (λ key. not (is_among key first.removed)) old rising)))
      (rising_some (λ key. not (is_among key kept_keys)) old rising)
      (λ key.
      among-united key first.removed gone
      ∙ ap (λ b. is_among key first.removed || b) (among-filter asked key stay ∙ ap (λ b. asked key && b) (stays key))
      ∙ removed_test (is_among key first.removed) (is_among key old) (asked key) (was_old key)
      ∙ sym (among-filter (λ key. not (is_among key kept_keys)) key old ∙ ap (λ b. not b && is_among key old) (among-filter is_kept key stay ∙ ap (λ b. is_kept key && b) (stays key))))
      ∙ ap (λ keys. without keys old) (sym old_kept)
    where
      asked : ℕ → Bool
      asked key = is_among (first_place key) next.removed

      gone : List ℕ
      gone = filter asked stay

      stays : (key : ℕ) → is_among key stay ≡ (not (is_among key first.removed) && is_among key old)
      stays key = among-filter (λ key. not (is_among key first.removed)) key old

      was_old : (key : ℕ) → is_among key first.removed ≡ true → is_among key old ≡ true
      was_old key here = not-false (is_among key old) (of_among (λ key. not (is_among key old) ≡ false) key first.removed (none_pass (λ key. not (is_among key old)) first.removed rules.removed) here)

  -- what both do not remove, they keep
  pub kept_of_old : IsRising old → without (removed_by_both old first next) old ≡ kept_keys
  kept_of_old rising =
      ap (λ keys. without (without keys old) old) old_kept
      ∙ rising_same (without (without kept_keys old) old) kept_keys
      (rising_some (λ key. not (is_among key (without kept_keys old))) old rising)
      (rising_some is_kept stay (rising_some (λ key. not (is_among key first.removed)) old rising))
      (λ key.
      among-filter (λ key. not (is_among key (without kept_keys old))) key old
      ∙ ap (λ b. not b && is_among key old) (among-filter (λ key. not (is_among key kept_keys)) key old)
      ∙ kept_test (is_among key kept_keys) (is_among key old) (was_old key))
    where
      was_old : (key : ℕ) → is_among key kept_keys ≡ true → is_among key old ≡ true
      was_old key here =
          let stays = (and_parts (is_kept key) (is_among key stay) (sym (among-filter is_kept key stay) ∙ here)).1 in
          (and_parts (not (is_among key first.removed)) (is_among key old) (sym (among-filter (λ key. not (is_among key first.removed)) key old) ∙ stays)).1

  -- the added keys of the first one that stay, and the places of its kept keys, are the keys that stay on
  module _ (added_rise : IsRising first.added) where
    abbrev is_new : ℕ → Bool
    is_new key = is_among key first.added

    pub is_apart : (key : ℕ) → is_new key ≡ true → is_among key places ≡ false
    is_apart key here = of_among (λ key. is_among key places ≡ false) key first.added (none_pass (λ key. is_among key places) first.added rules.added) here

    pub in_between : (key : ℕ) → is_among key middle ≡ (is_new key || is_among key places)
    in_between key = among-put_keys key first.added places

    middle_rises : IsRising middle
    middle_rises = keys_after-rise (2 ^ 62) old first (record { breaks_none = f; added_rise = added_rise })

    stay_on_rises : IsRising stay_on
    stay_on_rises = rising_some (λ key. not (is_among key next.removed)) middle middle_rises

    old_places : IsRising places
    old_places = places_rise first.shifted stay rules.shifted

    kept_places : landed first.shifted kept_keys ≡ without next.removed places
    kept_places = sym (filter-map (λ place. not (is_among place next.removed)) first_place stay)

    pub kept_stay : landed first.shifted kept_keys ≡ filter (λ key. not (is_new key)) stay_on
    kept_stay =
        kept_places
        ∙ rising_same (without next.removed places) (filter (λ key. not (is_new key)) stay_on)
        (rising_some (λ key. not (is_among key next.removed)) places old_places)
        (rising_some (λ key. not (is_new key)) stay_on stay_on_rises)
        (λ key.
        among-filter (λ key. not (is_among key next.removed)) key places
        ∙ stayed_test (is_new key) (is_among key places) (is_among key next.removed) (is_apart key)
        ∙ sym (among-filter (λ key. not (is_new key)) key stay_on ∙ ap (λ b. not (is_new key) && b) (among-filter (λ key. not (is_among key next.removed)) key middle ∙ ap (λ b. not (is_among key next.removed) && b) (in_between key))))

    pub new_stay : without next.removed first.added ≡ filter is_new stay_on
    new_stay =
        rising_same (without next.removed first.added) (filter is_new stay_on)
        (rising_some (λ key. not (is_among key next.removed)) first.added added_rise)
        (rising_some is_new stay_on stay_on_rises)
        (λ key.
        among-filter (λ key. not (is_among key next.removed)) key first.added
        ∙ came_test (is_new key) (is_among key places) (is_among key next.removed)
        ∙ sym (among-filter is_new key stay_on ∙ ap (λ b. is_new key && b) (among-filter (λ key. not (is_among key next.removed)) key middle ∙ ap (λ b. not (is_among key next.removed) && b) (in_between key))))

    pub new_lawful : IsLawful next.shifted (without next.removed first.added)
    new_lawful = subst (IsLawful next.shifted) (sym new_stay) (lawful_some next.shifted is_new stay_on next_rules.shifted)

    pub places_lawful : IsLawful next.shifted (landed first.shifted kept_keys)
    places_lawful = subst (IsLawful next.shifted) (sym kept_stay) (lawful_some next.shifted (λ key. not (is_new key)) stay_on next_rules.shifted)

    abbrev next_places : List ℕ
    next_places = landed next.shifted stay_on

    abbrev carried : List ℕ
    carried = landed next.shifted (without next.removed first.added)

    next_places_rise : IsRising next_places
    next_places_rise = places_rise next.shifted stay_on next_rules.shifted

    -- a place of the second one is that of a kept key or of one that the first one added
    kept_or_new : (key : ℕ) → is_among key (landed next.shifted (landed first.shifted kept_keys)) ≡ (is_among key next_places && not (is_among key carried))
    kept_or_new key =
        ap (λ keys. is_among key (landed next.shifted keys)) kept_stay
        ∙ split_places next_place is_new key stay_on next_places_rise
        ∙ ap (λ keys. is_among key next_places && not (is_among key (landed next.shifted keys))) (sym new_stay)

    is_place : (key : ℕ) → is_among key carried ≡ true → is_among key next_places ≡ true
    is_place key here = place_of_some next_place is_new key stay_on (ap (λ keys. is_among key (landed next.shifted keys)) (sym new_stay) ∙ here)

    -- what both add
    pub united_added : IsRising next.added → united carried next.added ≡ added_by_both old first next
    united_added next_added_rise =
        rising_same (united carried next.added) (without both (keys_after middle next))
        (united_rises carried next.added next_added_rise)
        (rising_some (λ key. not (is_among key both)) (keys_after middle next) (keys_after-rise (2 ^ 62) middle next (record { breaks_none = n; added_rise = next_added_rise })))
        (λ key.
        among-united key carried next.added
        ∙ added_test (is_among key next.added) (is_among key next_places) (is_among key carried) (comes key) (is_place key)
        ∙ sym (among-filter (λ key. not (is_among key both)) key (keys_after middle next) ∙ ap₂ (λ b c. not b && c) (kept_or_new key) (among-put_keys key next.added next_places)))
        ∙ ap (λ keys. without keys (keys_after middle next)) (sym new_kept)
      where
        both : List ℕ
        both = landed next.shifted (landed first.shifted kept_keys)

        comes : (key : ℕ) → is_among key next.added ≡ true → is_among key next_places ≡ false
        comes key here = of_among (λ key. is_among key next_places ≡ false) key next.added (none_pass (λ key. is_among key next_places) next.added next_rules.added) here

    -- what both leave
    pub united_after : IsRising next.added → united next.added (united carried (landed next.shifted (landed first.shifted kept_keys))) ≡ keys_after middle next
    united_after next_added_rise =
        rising_same (united next.added (united carried both)) (keys_after middle next)
        (united_rises next.added (united carried both) (united_rises carried both (places_rise next.shifted (landed first.shifted kept_keys) places_lawful)))
        (keys_after-rise (2 ^ 62) middle next (record { breaks_none = n; added_rise = next_added_rise }))
        (λ key.
        among-united key next.added (united carried both)
        ∙ ap (λ b. is_among key next.added || b) (among-united key carried both ∙ ap (λ b. is_among key carried || b) (kept_or_new key) ∙ left_test (is_among key next_places) (is_among key carried) (is_place key))
        ∙ sym (among-put_keys key next.added next_places))
      where
        both : List ℕ
        both = landed next.shifted (landed first.shifted kept_keys)

    -- what both modify
    module _ (modified_rise : IsRising first.modified) where
      abbrev kept_place : List ℕ
      kept_place = landed first.shifted kept_keys

      abbrev was_modified : ℕ → Bool
      was_modified key = is_among key first.modified

      modified_kept : without next.removed first.modified ≡ filter was_modified kept_place
      modified_kept =
          rising_same (without next.removed first.modified) (filter was_modified (without next.removed places))
          (rising_some (λ key. not (is_among key next.removed)) first.modified modified_rise)
          (rising_some was_modified (without next.removed places) (rising_some (λ key. not (is_among key next.removed)) places old_places))
          (λ key.
          among-filter (λ key. not (is_among key next.removed)) key first.modified
          ∙ among_test (was_modified key) (is_among key places) (is_among key next.removed) (modified_stays (2 ^ 62) old first rules key)
          ∙ sym (among-filter was_modified key (without next.removed places) ∙ ap (λ b. was_modified key && b) (among-filter (λ key. not (is_among key next.removed)) key places)))
          ∙ ap (filter was_modified) (sym kept_places)

      pub modified_lawful : IsLawful next.shifted (without next.removed first.modified)
      modified_lawful = subst (IsLawful next.shifted) (sym modified_kept) (lawful_some next.shifted was_modified kept_place places_lawful)

      abbrev is_changed : ℕ → Bool
      is_changed key = was_modified key || is_among (next_place key) next.modified

      modified_are : new_keys (filter (is_modified first next) (kept_by_both old first next)) ≡ map next_place (filter is_changed kept_place)
      modified_are =
          ap (λ pairs. new_keys (filter (is_modified first next) pairs)) kept_pairs
          ∙ ap new_keys (filter-map (is_modified first next) pair kept_keys)
          ∙ map_map (λ (p : KeyPair). p.new) pair (filter (λ key. is_changed (first_place key)) kept_keys)
          ∙ sym (map_map next_place first_place (filter (λ key. is_changed (first_place key)) kept_keys))
          ∙ ap (map next_place) (sym (filter-map is_changed first_place kept_keys))

      pub united_modified : IsRising next.modified → modified_after next first.modified carried ≡ modified_by_both old first next
      united_modified next_modified_rise =
          rising_same (united (landed next.shifted (without next.removed first.modified)) (without carried next.modified)) (map next_place (filter is_changed kept_place))
          (united_rises (landed next.shifted (without next.removed first.modified)) (without carried next.modified) (rising_some (λ key. not (is_among key carried)) next.modified next_modified_rise))
          (places_rise next.shifted (filter is_changed kept_place) (lawful_some next.shifted is_changed kept_place places_lawful))
          (λ key.
          among-united key (landed next.shifted (without next.removed first.modified)) (without carried next.modified)
          ∙ ap₂ (λ a b. a || b) (ap (λ keys. is_among key (landed next.shifted keys)) modified_kept) (changed key)
          ∙ sym (either_places next_place was_modified (λ key. is_among (next_place key) next.modified) key kept_place))
          ∙ sym modified_are
        where
          changed : (key : ℕ) → is_among key (without carried next.modified) ≡ is_among key (map next_place (filter (λ key. is_among (next_place key) next.modified) kept_place))
          changed key =
              among-filter (λ key. not (is_among key carried)) key next.modified
              ∙ modified_test (is_among key next.modified) (is_among key next_places) (is_among key carried) (modified_stays (2 ^ 62) middle next next_rules key)
              ∙ ap (λ b. is_among key next.modified && b) (sym (kept_or_new key))
              ∙ sym (ap (is_among key) (sym (filter-map (λ key. is_among key next.modified) next_place kept_place)) ∙ among-filter (λ key. is_among key next.modified) key (landed next.shifted kept_place))
