-- Two lists of ranges, merged.
use Rattle.std.proofs.Common.{◌≡◌, refl, ap, ap₂, sym, ◌∙◌, subst, Bool, true, false, cond, not, ◌||◌, ℕ, ◌+◌, ◌-◌, ◌^◌, ◌<◌, ◌≤◌, arith, List, [], ◌∷◌, length, take, drop, get_or, slice_get, take-append-drop, ◌⊎◌, Some, inl, inr}
use Rattle.std.{specs.List.{AllByRecursion, list_any}, proofs.lemmas.Bool.{cases_Bool, cases_lt, or_left, or_from}, proofs.lemmas.List.take_rest, proofs.lemmas.List.Folds.list_any-append, proofs.lemmas.Option.same_Some}
use Rattle.key_lists.{specs.Keys.{is_among, IsRising}, proofs.Every.{every_weaker, and_swap}, proofs.Among.{among-filter, of_among}, proofs.Rising.{rising_same, rising_some}}
use Rattle.row_set.{specs.declared.ranges.Range.Range, specs.declared.algebra.SetOperation.SetOperation, specs.declared.algebra.SetOperation.TheVariants.{Either, FirstAlone, Both}, specs.Ranges.{keys_from, keys_of, holds, AreApart}, specs.Sets.{IsKeySet, united}, specs.Choice.{takes, chosen, AreAhead}, proofs.Held.{among-in, among-keys, holds-true, holds_before, holds_after, none_before, none_after}, proofs.Apart.{apart-drop, each_above}, proofs.Counts.blank, proofs.Middles.span, proofs.United.{among-united, united_rises}}

-- the first range holds the keys up to its end, and none holds one before it
pub stretch_held : (at key : ℕ) (ranges : List Range) (range : Range) → Some range ≡ slice_get ranges 0 → range.first ≤ at → at ≤ key → key < range.last + 1 → is_among key (keys_of ranges) ≡ true
stretch_held at key [] range is begun above below = cc
stretch_held at key (first ∷ rest) range is begun above below =
    let same : range ≡ first = same_Some range first is in
    among-keys key (first ∷ rest)
    ∙ or_left (holds key first) (list_any (holds key) rest) (subst (λ (r : Range). holds key r ≡ true) same (holds-true key range (omega arith) (omega arith)))

pub stretch_free : (at key : ℕ) (ranges : List Range) (range : Range) → Some range ≡ slice_get ranges 0 → AreAhead at ranges → key < range.first → is_among key (keys_of ranges) ≡ false
stretch_free at key [] range is h below = cc
stretch_free at key (first ∷ rest) range is h below =
    let same : range ≡ first = same_Some range first is in
    let before : key < first.first = subst (λ (r : Range). key < r.first) same below in
    among-keys key (first ∷ rest)
    ∙ none_after key (first ∷ rest) (before, every_weaker (λ other. first.last + 2 ≤ other.first) (λ other. key < other.first) rest (λ other above. omega (arith, above, before, h.1.0.ascends)) (each_above (first.last + 2) rest h.1.1))

ahead : (end : ℕ) (ranges : List Range) → AreApart 0 ranges → AllByRecursion (λ range. end ≤ range.last) ranges → AreAhead end ranges
ahead end [] h le = tt
ahead end (range ∷ ranges) h le = (le.0, h)

-- the ranges from the i-th on
pub rest_ahead : (end i : ℕ) (ranges : List Range) → AreApart 0 ranges → AllByRecursion (λ range. end ≤ range.last) (drop i ranges) → AreAhead end (take (length ranges - i) (drop i ranges))
rest_ahead end i ranges h le = subst (λ those. AreAhead end those) (sym (take_rest ranges i)) (ahead end (drop i ranges) (apart-drop 0 i ranges h) le)

pub rest_same : (key end i : ℕ) (ranges : List Range) → AllByRecursion (λ range. range.last < end) (take i ranges) → end ≤ key → is_among key (keys_of (take (length ranges - i) (drop i ranges))) ≡ is_among key (keys_of ranges)
rest_same key end i ranges ended le =
    ap (λ those. is_among key (keys_of those)) (take_rest ranges i)
    ∙ among-keys key (drop i ranges)
    ∙ sym (
    among-keys key ranges
    ∙ ap (list_any (holds key)) (sym (take-append-drop i ranges))
    ∙ list_any-append (holds key) (take i ranges) (drop i ranges)
    ∙ ap (λ b. b || list_any (holds key) (drop i ranges)) (none_before key (take i ranges) (every_weaker (λ range. range.last < end) (λ range. range.last < key) (take i ranges) (λ range below. omega (arith, below, le)) ended))
    )

pub first_ended : (end : ℕ) (ranges : List Range) → (get_or ranges 0 blank).last < end → AllByRecursion (λ range. range.last < end) (take 1 ranges)
first_ended end [] lt = tt
first_ended end (range ∷ ranges) lt = (lt, tt)

-- the keys that a choice takes
pub among-chosen : (key : ℕ) (choice : SetOperation) (keys others : List ℕ) → is_among key (chosen choice keys others) ≡ takes choice (is_among key keys) (is_among key others)
among-chosen key Either keys others = among-united key keys others
among-chosen key FirstAlone keys others = among-filter (λ key. not (is_among key others)) key keys ∙ and_swap (not (is_among key others)) (is_among key keys)
among-chosen key Both keys others = among-filter (λ key. is_among key others) key keys ∙ and_swap (is_among key others) (is_among key keys)

pub chosen_rises : (choice : SetOperation) (keys others : List ℕ) → IsRising keys → IsRising others → IsRising (chosen choice keys others)
chosen_rises Either keys others h k = united_rises keys others k
chosen_rises FirstAlone keys others h k = rising_some (λ key. not (is_among key others)) keys h
chosen_rises Both keys others h k = rising_some (λ key. is_among key others) keys h

takes_none : (choice : SetOperation) → takes choice false false ≡ false
takes_none Either = refl
takes_none FirstAlone = refl
takes_none Both = refl

-- the keys below `at` are merged, and the ranges that have others are left
pub record IsMerged (choice : SetOperation) (keys others : List ℕ) (at : ℕ) (first second : List Range) (kept : List ℕ) : Type 0 where
  pub first_ahead : AreAhead at first
  pub second_ahead : AreAhead at second
  pub first_same : (key : ℕ) → at ≤ key → is_among key (keys_of first) ≡ is_among key keys
  pub second_same : (key : ℕ) → at ≤ key → is_among key (keys_of second) ≡ is_among key others
  pub rising : IsRising kept
  pub below : (key : ℕ) → key < at → is_among key kept ≡ takes choice (is_among key keys) (is_among key others)
  pub above : (key : ℕ) → at ≤ key → is_among key kept ≡ false
  pub small : at ≤ 2 ^ 62

among_from : (key first last : ℕ) → first ≤ key → key ≤ last → is_among key (keys_from first last) ≡ true
among_from key first last above below = among-in key (span first last) ∙ holds-true key (span first last) above below

among_not_from : (key first last : ℕ) → (key < first) ⊎ (last < key) → is_among key (keys_from first last) ≡ false
among_not_from key first last (inl before) = among-in key (span first last) ∙ holds_before key (span first last) before
among_not_from key first last (inr after) = among-in key (span first last) ∙ holds_after key (span first last) after

-- a step from `at` to `end`, where all keys between are taken or none is
pub merged_more : (choice : SetOperation) (keys others : List ℕ) (at end : ℕ) (first second first' second' : List Range) (kept kept' : List ℕ) (held held' : Bool) → IsMerged choice keys others at first second kept → at < end → end ≤ 2 ^ 62
    → ((key : ℕ) → at ≤ key → key < end → takes choice (is_among key (keys_of first)) (is_among key (keys_of second)) ≡ takes choice held held')
    → AreAhead end first' → ((key : ℕ) → end ≤ key → is_among key (keys_of first') ≡ is_among key (keys_of first))
    → AreAhead end second' → ((key : ℕ) → end ≤ key → is_among key (keys_of second') ≡ is_among key (keys_of second))
    → kept' ≡ cond (takes choice held held') (united (keys_from at (end - 1)) kept) kept
    → IsMerged choice keys others end first' second' kept'
merged_more choice keys others at end first second first' second' kept kept' held held' h lt small same ahead_first same_first ahead_second same_second is =
    let rises : IsRising (united (keys_from at (end - 1)) kept) = united_rises (keys_from at (end - 1)) kept h.rising in
    record {
      first_ahead = ahead_first;
      second_ahead = ahead_second;
      first_same = λ key le. same_first key le ∙ h.first_same key (omega arith);
      second_same = λ key le. same_second key le ∙ h.second_same key (omega arith);
      rising = subst IsRising (sym is) (elim (takes choice held held') as (λ b. IsRising (cond b (united (keys_from at (end - 1)) kept) kept)) [ true ↦ rises | false ↦ h.rising ]);
      below = λ key below.
          ap (is_among key) is
          ∙ elim (cases_lt key at) [
            | inl before ↦ kept_before key before (takes choice held held') ∙ h.below key before
            | inr from ↦
                kept_here key from below (takes choice held held')
                ∙ sym (same key from below)
                ∙ ap₂ (takes choice) (h.first_same key from) (h.second_same key from)
          ];
      above = λ key le. ap (is_among key) is ∙ kept_after key le (takes choice held held');
      small = small;
    }
  where
    kept_before : (key : ℕ) → key < at → (taken : Bool) → is_among key (cond taken (united (keys_from at (end - 1)) kept) kept) ≡ is_among key kept
    kept_before key before true = among-united key (keys_from at (end - 1)) kept ∙ ap (λ b. b || is_among key kept) (among_not_from key at (end - 1) (inl before))
    kept_before key before false = refl

    kept_here : (key : ℕ) → at ≤ key → key < end → (taken : Bool) → is_among key (cond taken (united (keys_from at (end - 1)) kept) kept) ≡ taken
    kept_here key from below true = among-united key (keys_from at (end - 1)) kept ∙ or_left (is_among key (keys_from at (end - 1))) (is_among key kept) (among_from key at (end - 1) from (omega arith))
    kept_here key from below false = h.above key from

    kept_after : (key : ℕ) → end ≤ key → (taken : Bool) → is_among key (cond taken (united (keys_from at (end - 1)) kept) kept) ≡ false
    kept_after key le true = among-united key (keys_from at (end - 1)) kept ∙ or_from (is_among key (keys_from at (end - 1))) (is_among key kept) (among_not_from key at (end - 1) (inr (omega arith))) (h.above key (omega arith))
    kept_after key le false = h.above key (omega arith)

none_large : (key : ℕ) (keys : List ℕ) → AllByRecursion (λ k. k < 2 ^ 62) keys → 2 ^ 62 ≤ key → is_among key keys ≡ false
none_large key keys small le = elim (cases_Bool (is_among key keys)) [ inl found ↦ absurd (omega (arith, of_among (λ k. k < 2 ^ 62) key keys small found, le)) | inr none ↦ none ]

-- all keys are merged
pub merged_all : (choice : SetOperation) (keys others : List ℕ) (at : ℕ) (first second : List Range) (kept : List ℕ) → IsKeySet keys → IsKeySet others → IsMerged choice keys others at first second kept → 2 ^ 62 ≤ at → kept ≡ chosen choice keys others
merged_all choice keys others at first second kept ks os h le =
    rising_same kept (chosen choice keys others) h.rising (chosen_rises choice keys others ks.rising os.rising)
    (λ key.
    elim (cases_lt key at) [
      | inl below ↦ h.below key below ∙ sym (among-chosen key choice keys others)
      | inr above ↦
          h.above key above
          ∙ sym (takes_none choice)
          ∙ sym (ap₂ (takes choice) (none_large key keys ks.small (omega arith)) (none_large key others os.small (omega arith)))
          ∙ sym (among-chosen key choice keys others)
    ])
