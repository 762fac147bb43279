-- Ranges before some, these, and those after them; and what stands in their place.
use Rattle.std.proofs.Common.{◌≡◌, refl, ap, sym, ◌∙◌, subst, Bool, true, false, ◌&&◌, ◌||◌, ℕ, suc, ◌+◌, ◌-◌, ◌^◌, ◌<◌, ◌≤◌, min, max, arith, List, [], ◌∷◌, ◌++◌, length, take, drop, slice_range, get_or, leb, le-leb, length-drop, get_or-drop, take-append-drop, inl, inr}
use Rattle.std.{specs.List.{AllByRecursion, list_any}, proofs.lemmas.Bool.{cases_lt, or_from, or_left, or_right, lt-leb}, proofs.lemmas.List.{take_more, drop_more, drop-drop}, proofs.lemmas.List.Folds.list_any-append}
use Rattle.key_lists.{proofs.Every.{every_both, every_weaker}, proofs.Rising.rising_same, proofs.Booleans.{or_false, and_true}, specs.Keys.is_among}
use Rattle.row_set.{specs.declared.ranges.Range.Range, specs.Ranges.{keys_from, keys_of, holds, IsRangeFrom, AreApart, Meets}, specs.Sets.united, proofs.Held.{among-in, among-keys, holds-true, holds_before, holds_after, none_before, none_after}, proofs.Apart.{apart-take, apart-drop, keys_rise, apart_raised, apart_front, apart_back, apart_seam, apart-append, each_above}, proofs.Counts.blank, proofs.Lookups.{apart_at, split_at}, proofs.United.{among-united, united_rises}}

abbrev middle : ℕ → ℕ → List Range → List Range
middle from to ranges = slice_range ranges from to

pub three_parts : (from to : ℕ) (ranges : List Range) → from ≤ to → take from ranges ++ (middle from to ranges ++ drop to ranges) ≡ ranges
three_parts from to ranges le =
    let whole : from + (to - from) ≡ to = omega arith in
    ap (λ n. take from ranges ++ (middle from to ranges ++ drop n ranges)) (sym whole)
    ∙ ap (λ back. take from ranges ++ (middle from to ranges ++ back)) (sym (drop-drop (to - from) from ranges))
    ∙ ap (λ back. take from ranges ++ back) (take-append-drop (to - from) (drop from ranges))
    ∙ take-append-drop from ranges

pub middle_first : (from to : ℕ) (ranges : List Range) → from < to → to ≤ length ranges → middle from to ranges ≡ get_or ranges from blank ∷ take (to - from - 1) (drop (from + 1) ranges)
middle_first from to ranges lt within =
    let more : to - from ≡ suc (to - from - 1) = omega arith in
    ap (λ n. take n (drop from ranges)) more ∙ ap (λ rest. take (suc (to - from - 1)) rest) (drop_more ranges from blank (omega arith))

pub middle_last : (from to : ℕ) (ranges : List Range) → from < to → to ≤ length ranges → middle from to ranges ≡ take (to - from - 1) (drop from ranges) ++ get_or ranges (to - 1) blank ∷ []
middle_last from to ranges lt within =
    let more : to - from ≡ to - from - 1 + 1 = omega arith in
    let place : from + (to - from - 1) ≡ to - 1 = omega arith in
    ap (λ n. take n (drop from ranges)) more
    ∙ take_more (drop from ranges) (to - from - 1) blank (omega (arith, length-drop from ranges))
    ∙ ap (λ range. take (to - from - 1) (drop from ranges) ++ range ∷ []) (get_or-drop from ranges (to - from - 1) blank ∙ ap (λ n. get_or ranges n blank) place)

-- which keys up to the end of the first one, and from the beginning of the last one on, ranges hold
pub held_in_first : (key low : ℕ) (first : Range) (rest : List Range) → AreApart low (first ∷ rest) → key ≤ first.last → list_any (holds key) (first ∷ rest) ≡ leb first.first key
held_in_first key low first rest h le =
    let none : list_any (holds key) rest ≡ false = none_after key rest (every_weaker (λ range. first.last + 2 ≤ range.first) (λ range. key < range.first) rest (λ range above. omega (arith, above, le)) (each_above (first.last + 2) rest h.1)) in
    ap (λ b. holds key first || b) none
    ∙ or_false (holds key first)
    ∙ ap (λ b. leb first.first key && b) (le-leb key first.last le)
    ∙ and_true (leb first.first key)

pub held_in_last : (key low : ℕ) (init : List Range) (last : Range) → AreApart low (init ++ last ∷ []) → last.first ≤ key → list_any (holds key) (init ++ last ∷ []) ≡ leb key last.last
held_in_last key low init last h le =
    let none : list_any (holds key) init ≡ false = none_before key init (every_weaker (λ range. range.last + 2 ≤ last.first) (λ range. range.last < key) init (λ range below. omega (arith, below, le)) (apart_seam low init last [] h)) in
    list_any-append (holds key) init (last ∷ [])
    ∙ ap (λ b. b || (holds key last || false)) none
    ∙ or_false (holds key last)
    ∙ ap (λ b. b && leb key last.last) (le-leb last.first key le)

abbrev pub span : ℕ → ℕ → Range
span first last = record { first = first; last = last }

-- the ranges that meet a new one, or that a range to be removed meets
pub record IsMet (low high : ℕ) (ranges : List Range) (head tail : Range) : Type 0 where
  pub apart : AreApart 0 ranges
  pub begins : AllByRecursion (λ range. head.first ≤ range.first) ranges
  pub below : (key : ℕ) → key ≤ low → list_any (holds key) ranges ≡ leb head.first key
  pub above : (key : ℕ) → high ≤ key → list_any (holds key) ranges ≡ leb key tail.last
  pub order : head.first ≤ tail.last
  pub small : tail.last < 2 ^ 62
  pub to_low : low ≤ tail.last
  pub to_high : head.first ≤ high

pub met : (low high from to : ℕ) (ranges : List Range) → from < to → AreApart 0 ranges → Meets low high ranges from to → IsMet low high (middle from to ranges) (get_or ranges from blank) (get_or ranges (to - 1) blank)
met low high from to ranges lt h is =
    let within = is.within in
    let lows = is.lows in
    let highs = is.highs in
    let head = get_or ranges from blank in
    let tail = get_or ranges (to - 1) blank in
    let rest = take (to - from - 1) (drop (from + 1) ranges) in
    let init = take (to - from - 1) (drop from ranges) in
    let apart : AreApart 0 (middle from to ranges) = apart_front 0 (middle from to ranges) (drop to ranges) (apart_back 0 (take from ranges) (middle from to ranges ++ drop to ranges) (subst (λ those. AreApart 0 those) (sym (three_parts from to ranges (omega arith))) h)) in
    let by_head : AreApart 0 (head ∷ rest) = subst (λ those. AreApart 0 those) (middle_first from to ranges lt within) apart in
    let by_tail : AreApart 0 (init ++ tail ∷ []) = subst (λ those. AreApart 0 those) (middle_last from to ranges lt within) apart in
    let tail_is : IsRangeFrom 0 tail = (apart_back 0 init (tail ∷ []) by_tail).0 in
    let head_low : low ≤ head.last = (subst (λ those. AllByRecursion (λ range. low ≤ range.last) those) (middle_first from to ranges lt within) lows).0 in
    let head_high : head.first ≤ high = (subst (λ those. AllByRecursion (λ range. range.first ≤ high) those) (middle_first from to ranges lt within) highs).0 in
    let tail_low : low ≤ tail.last = last_has (λ range. low ≤ range.last) init tail (subst (λ those. AllByRecursion (λ range. low ≤ range.last) those) (middle_last from to ranges lt within) lows) in
    let tail_high : tail.first ≤ high = last_has (λ range. range.first ≤ high) init tail (subst (λ those. AllByRecursion (λ range. range.first ≤ high) those) (middle_last from to ranges lt within) highs) in
    let firsts : AllByRecursion (λ range. head.first ≤ range.first) (head ∷ rest) = (omega arith, every_weaker (λ range. head.last + 2 ≤ range.first) (λ range. head.first ≤ range.first) rest (λ range above. omega (arith, above, by_head.0.ascends)) (each_above (head.last + 2) rest by_head.1)) in
    let tail_after : head.first ≤ tail.first = last_has (λ range. head.first ≤ range.first) init tail (subst (λ those. AllByRecursion (λ range. head.first ≤ range.first) those) (sym (middle_first from to ranges lt within) ∙ middle_last from to ranges lt within) firsts) in
    record {
      apart = apart;
      begins = subst (λ those. AllByRecursion (λ range. head.first ≤ range.first) those) (sym (middle_first from to ranges lt within)) firsts;
      below = λ key le. ap (list_any (holds key)) (middle_first from to ranges lt within) ∙ held_in_first key 0 head rest by_head (omega (arith, le, head_low));
      above = λ key le. ap (list_any (holds key)) (middle_last from to ranges lt within) ∙ held_in_last key 0 init tail by_tail (omega (arith, le, tail_high));
      order = omega (arith, tail_after, tail_is.ascends);
      small = tail_is.small;
      to_low = tail_low;
      to_high = head_high;
    }
  where
    last_has : (P : Range → Type 0) (xs : List Range) (x : Range) → AllByRecursion P (xs ++ x ∷ []) → P x
    last_has P [] x h = h.0
    last_has P (y ∷ xs) x h = last_has P xs x h.1

-- the ranges before a new one, the new one and those after it
placed : (low high : ℕ) (before after : List Range) → low ≤ high → high < 2 ^ 62 → AllByRecursion (λ range. range.last + 2 ≤ low) before → AllByRecursion (λ range. high + 2 ≤ range.first) after → AreApart 0 before → AreApart 0 after → AreApart 0 (before ++ span low high ∷ after)
placed low high before after le small ends begins h k =
    apart-append 0 low before (span low high ∷ after) (omega arith) ends h (record { above = omega arith; ascends = le; small = small }, apart_raised 0 (high + 2) after begins k)

or_moved : (a b m p : Bool) → (a || ((b || m) || p)) ≡ (b || (a || (m || p)))
or_moved true true m p = refl
or_moved true false m p = refl
or_moved false true m p = refl
or_moved false false m p = refl

-- the range that stands in the place of those that a new one meets
joined_holds : (key first last : ℕ) (ranges : List Range) (head tail : Range) → first ≤ last → IsMet (first - 1) (last + 1) ranges head tail → holds key (span (min first head.first) (max last tail.last)) ≡ (holds key (span first last) || list_any (holds key) ranges)
joined_holds key first last ranges head tail le is =
    let whole = span (min first head.first) (max last tail.last) in
    elim (cases_lt key first) [
      | inl before ↦
          let none : holds key (span first last) ≡ false = holds_before key (span first last) before in
          let at : list_any (holds key) ranges ≡ leb head.first key = is.below key (omega arith) in
          elim (cases_lt key head.first) [
            | inl out ↦ holds_before key whole (omega arith) ∙ sym (or_from (holds key (span first last)) (list_any (holds key) ranges) none (at ∙ lt-leb head.first key out))
            | inr in_it ↦ holds-true key whole (omega arith) (omega arith) ∙ sym (or_right (holds key (span first last)) (list_any (holds key) ranges) (at ∙ le-leb head.first key in_it))
          ]
      | inr from_first ↦
          elim (cases_lt last key) [
            | inl past ↦
                let none : holds key (span first last) ≡ false = holds_after key (span first last) past in
                let at : list_any (holds key) ranges ≡ leb key tail.last = is.above key (omega arith) in
                elim (cases_lt tail.last key) [
                  | inl out ↦ holds_after key whole (omega arith) ∙ sym (or_from (holds key (span first last)) (list_any (holds key) ranges) none (at ∙ lt-leb key tail.last out))
                  | inr in_it ↦ holds-true key whole (omega arith) (omega arith) ∙ sym (or_right (holds key (span first last)) (list_any (holds key) ranges) (at ∙ le-leb key tail.last in_it))
                ]
            | inr to_last ↦
                holds-true key whole (omega arith) (omega arith)
                ∙ sym (or_left (holds key (span first last)) (list_any (holds key) ranges) (holds-true key (span first last) from_first to_last))
          ]
    ]

pub any_parts : (key from to : ℕ) (ranges : List Range) → from ≤ to → list_any (holds key) ranges ≡ (list_any (holds key) (take from ranges) || (list_any (holds key) (middle from to ranges) || list_any (holds key) (drop to ranges)))
any_parts key from to ranges le =
    ap (list_any (holds key)) (sym (three_parts from to ranges le))
    ∙ list_any-append (holds key) (take from ranges) (middle from to ranges ++ drop to ranges)
    ∙ ap (λ b. list_any (holds key) (take from ranges) || b) (list_any-append (holds key) (middle from to ranges) (drop to ranges))

-- the seams before the first range that is met and after the last one
pub before_head : (from : ℕ) (ranges : List Range) → from < length ranges → AreApart 0 ranges → AllByRecursion (λ range. range.last + 2 ≤ (get_or ranges from blank).first) (take from ranges)
before_head from ranges lt h = apart_seam 0 (take from ranges) (get_or ranges from blank) (drop (from + 1) ranges) (subst (λ those. AreApart 0 those) (sym (split_at from ranges lt)) h)

pub after_tail : (to : ℕ) (ranges : List Range) → 0 < to → to ≤ length ranges → AreApart 0 ranges → AreApart ((get_or ranges (to - 1) blank).last + 2) (drop to ranges)
after_tail to ranges some within h =
    let same : to - 1 + 1 ≡ to = omega arith in
    subst (λ n. AreApart ((get_or ranges (to - 1) blank).last + 2) (drop n ranges)) same (apart_at (to - 1) ranges (omega arith) h).1

-- where ranges are apart, and their keys are those of others and of one range more
united_by : (first last from to : ℕ) (one : Range) (ranges new : List Range) → from ≤ to → AreApart 0 ranges → AreApart 0 new → new ≡ take from ranges ++ one ∷ drop to ranges → ((key : ℕ) → holds key one ≡ (holds key (span first last) || list_any (holds key) (middle from to ranges))) → keys_of new ≡ united (keys_from first last) (keys_of ranges)
united_by first last from to one ranges new le h k is same =
    rising_same (keys_of new) (united (keys_from first last) (keys_of ranges)) (keys_rise 0 new k) (united_rises (keys_from first last) (keys_of ranges) (keys_rise 0 ranges h))
    (λ key.
    among-keys key new
    ∙ ap (list_any (holds key)) is
    ∙ list_any-append (holds key) (take from ranges) (one ∷ drop to ranges)
    ∙ ap (λ b. list_any (holds key) (take from ranges) || (b || list_any (holds key) (drop to ranges))) (same key)
    ∙ or_moved (list_any (holds key) (take from ranges)) (holds key (span first last)) (list_any (holds key) (middle from to ranges)) (list_any (holds key) (drop to ranges))
    ∙ ap (λ b. holds key (span first last) || b) (sym (among-keys key ranges ∙ any_parts key from to ranges le))
    ∙ ap (λ b. b || is_among key (keys_of ranges)) (sym (among-in key (span first last)))
    ∙ sym (among-united key (keys_from first last) (keys_of ranges)))

pub joined_apart : (first last from to : ℕ) (ranges : List Range) → AreApart 0 ranges → first ≤ last → last < 2 ^ 62 → Meets (first - 1) (last + 1) ranges from to → from < to → AreApart 0 (take from ranges ++ span (min first (get_or ranges from blank).first) (max last (get_or ranges (to - 1) blank).last) ∷ drop to ranges)
joined_apart first last from to ranges h le small is lt =
    let head = get_or ranges from blank in
    let tail = get_or ranges (to - 1) blank in
    let within : to ≤ length ranges = is.within in
    let meet : IsMet (first - 1) (last + 1) (middle from to ranges) head tail = met (first - 1) (last + 1) from to ranges lt h is in
    placed (min first head.first) (max last tail.last) (take from ranges) (drop to ranges) (omega (arith, le)) (omega (arith, small, meet.small))
    (every_both (λ range. range.last < first - 1) (λ range. range.last + 2 ≤ head.first) (λ range. range.last + 2 ≤ min first head.first) (take from ranges) (λ range ends begins. omega (arith, ends, begins)) is.before (before_head from ranges (omega (arith, within)) h))
    (every_both (λ range. last + 1 < range.first) (λ range. tail.last + 2 ≤ range.first) (λ range. max last tail.last + 2 ≤ range.first) (drop to ranges) (λ range ends begins. omega (arith, ends, begins)) is.after (each_above (tail.last + 2) (drop to ranges) (after_tail to ranges (omega arith) within h)))
    (apart-take 0 from ranges h)
    (apart-drop 0 to ranges h)

pub joined_keys : (first last from to : ℕ) (ranges new : List Range) → AreApart 0 ranges → first ≤ last → last < 2 ^ 62 → Meets (first - 1) (last + 1) ranges from to → from < to → new ≡ take from ranges ++ span (min first (get_or ranges from blank).first) (max last (get_or ranges (to - 1) blank).last) ∷ drop to ranges → keys_of new ≡ united (keys_from first last) (keys_of ranges)
joined_keys first last from to ranges new h le small is lt same =
    let head = get_or ranges from blank in
    let tail = get_or ranges (to - 1) blank in
    united_by first last from to (span (min first head.first) (max last tail.last)) ranges new is.order h (subst (λ those. AreApart 0 those) (sym same) (joined_apart first last from to ranges h le small is lt)) same
    (λ key. joined_holds key first last (middle from to ranges) head tail le (met (first - 1) (last + 1) from to ranges lt h is))

pub alone_apart : (first last from to : ℕ) (ranges : List Range) → AreApart 0 ranges → first ≤ last → last < 2 ^ 62 → Meets (first - 1) (last + 1) ranges from to → AreApart 0 (take from ranges ++ span first last ∷ drop to ranges)
alone_apart first last from to ranges h le small is =
    placed first last (take from ranges) (drop to ranges) le small
    (every_weaker (λ range. range.last < first - 1) (λ range. range.last + 2 ≤ first) (take from ranges) (λ range ends. omega (arith, ends)) is.before)
    (every_weaker (λ range. last + 1 < range.first) (λ range. last + 2 ≤ range.first) (drop to ranges) (λ range begins. omega (arith, begins)) is.after)
    (apart-take 0 from ranges h)
    (apart-drop 0 to ranges h)

pub alone_keys : (first last from to : ℕ) (ranges new : List Range) → AreApart 0 ranges → first ≤ last → last < 2 ^ 62 → Meets (first - 1) (last + 1) ranges from to → to ≤ from → new ≡ take from ranges ++ span first last ∷ drop to ranges → keys_of new ≡ united (keys_from first last) (keys_of ranges)
alone_keys first last from to ranges new h le small is none same =
    let nothing : to - from ≡ 0 = omega arith in
    united_by first last from to (span first last) ranges new is.order h (subst (λ those. AreApart 0 those) (sym same) (alone_apart first last from to ranges h le small is)) same
    (λ key. sym (ap (λ n. holds key (span first last) || list_any (holds key) (take n (drop from ranges))) nothing ∙ or_false (holds key (span first last))))
