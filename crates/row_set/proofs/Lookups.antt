-- What a search finds in ranges that are apart.
use Rattle.std.proofs.Common.{◌≡◌, refl, ap, sym, ◌∙◌, subst, Bool, true, false, cond, ◌||◌, ℕ, zero, suc, ◌+◌, ◌-◌, ◌*◌, ◌<◌, ◌≤◌, max, arith, List, [], ◌∷◌, ◌++◌, length, take, drop, get_or, take_all, take-append-drop, leb, ltb, le-leb, lt-ltb, le-ltb, Some, None, Ok, Err, is_some, find, filter, slice_get, inl, inr, true≢false}
use Rattle.std.{specs.List.{AllByRecursion, list_any, range_with_len}, proofs.lemmas.Bool.{cases_lt, lt-leb, cases_eq, ne_eqb}, proofs.lemmas.List.{drop_more, get_or_default}, specs.Prelude.nat_lt, specs.List.Sorted.{IsPartitionPoint, IsNonDecreasing}}
use Rattle.key_lists.{specs.Keys.{is_among, IsRising}, proofs.Every.{every_weaker, find_none}, proofs.Parts.get-append, proofs.Ranges.each_from, proofs.Among.of_among}
use Rattle.row_set.{specs.declared.ranges.Range.Range, specs.Ranges.{keys_before, keys_in, keys_of, holds, AreApart}, specs.Runs.{AreStarts, start_of}, specs.Sets.{count_below, found, last_key}, proofs.Held.{each_key, holds-true, holds_before, holds_after, among-keys, keys_of-append}, proofs.Apart.{apart-drop, each_above, keys_above}, proofs.Counts.{blank, keys_before_rise, length-keys_all}, proofs.Places.range_at}

-- searches in two lists, one after the other
pub find-append_none : {X : Type 0} (p : X → Bool) (xs ys : List X) → AllByRecursion (λ x. p x ≡ false) xs → find p (xs ++ ys) ≡ find p ys
find-append_none p [] ys h = refl
find-append_none p (x ∷ xs) ys h = ap (λ b. cond b (Some x) (find p (xs ++ ys))) h.0 ∙ find-append_none p xs ys h.1

pub is_some-find : {X : Type 0} (p : X → Bool) (xs : List X) → is_some (find p xs) ≡ list_any p xs
is_some-find p [] = refl
is_some-find p (x ∷ xs) = elim (p x) as (λ b. is_some (cond b (Some x) (find p xs)) ≡ (b || list_any p xs)) [ true ↦ refl | false ↦ is_some-find p xs ]

pub get-range : (first count n : ℕ) (rest : List ℕ) → n < count → slice_get (range_with_len first count ++ rest) n ≡ Some (first + n)
get-range first zero n rest lt = absurd (omega arith)
get-range first (suc count) zero rest lt = let same : first ≡ first + 0 = omega arith in ap Some same
get-range first (suc count) (suc n) rest lt = let same : first + 1 + n ≡ first + suc n = omega arith in get-range (first + 1) count n rest (omega arith) ∙ ap Some same

-- the ranges round one of them
pub split_at : (i : ℕ) (ranges : List Range) → i < length ranges → take i ranges ++ (get_or ranges i blank ∷ drop (i + 1) ranges) ≡ ranges
split_at i ranges lt = ap (λ rest. take i ranges ++ rest) (sym (drop_more ranges i blank lt)) ∙ take-append-drop i ranges

pub keys_split : (i : ℕ) (ranges : List Range) → i < length ranges → keys_of (take i ranges) ++ (keys_in (get_or ranges i blank) ++ keys_of (drop (i + 1) ranges)) ≡ keys_of ranges
keys_split i ranges lt = sym (keys_of-append (take i ranges) (get_or ranges i blank ∷ drop (i + 1) ranges)) ∙ ap keys_of (split_at i ranges lt)

pub apart_at : (i : ℕ) (ranges : List Range) → i < length ranges → AreApart 0 ranges → AreApart 0 (get_or ranges i blank ∷ drop (i + 1) ranges)
apart_at i ranges lt h = subst (λ rest. AreApart 0 rest) (drop_more ranges i blank lt) (apart-drop 0 i ranges h)

pub every_at : (P : Range → Type 0) (i : ℕ) (ranges : List Range) → i < length ranges → AllByRecursion P (drop i ranges) → P (get_or ranges i blank)
every_at P i ranges lt h = (subst (λ rest. AllByRecursion P rest) (drop_more ranges i blank lt) h).0

-- no range after this one holds a key up to its end
pub later_hold_none : (key : ℕ) (range : Range) (rest : List Range) → AreApart (range.last + 2) rest → key ≤ range.last → AllByRecursion (λ other. holds key other ≡ false) rest
later_hold_none key range rest h le = every_weaker (λ other. range.last + 2 ≤ other.first) (λ other. holds key other ≡ false) rest (λ other above. holds_before key other (omega (arith, le, above))) (each_above (range.last + 2) rest h)

ended_hold_none : (key : ℕ) (ranges : List Range) → AllByRecursion (λ range. range.last < key) ranges → AllByRecursion (λ range. holds key range ≡ false) ranges
ended_hold_none key ranges h = every_weaker (λ range. range.last < key) (λ range. holds key range ≡ false) ranges (λ range above. holds_after key range above) h

-- what `find` gives where the ranges before the i-th end before the key, and the others do not
pub find_in : (key i : ℕ) (ranges : List Range) → AreApart 0 ranges → AllByRecursion (λ range. range.last < key) (take i ranges) → AllByRecursion (λ range. key ≤ range.last) (drop i ranges) → i < length ranges → (get_or ranges i blank).first ≤ key → find (holds key) ranges ≡ Some (get_or ranges i blank)
find_in key i ranges h ended others lt above =
    ap (find (holds key)) (sym (split_at i ranges lt))
    ∙ find-append_none (holds key) (take i ranges) (get_or ranges i blank ∷ drop (i + 1) ranges) (ended_hold_none key (take i ranges) ended)
    ∙ ap (λ b. cond b (Some (get_or ranges i blank)) (find (holds key) (drop (i + 1) ranges))) (holds-true key (get_or ranges i blank) above (every_at (λ range. key ≤ range.last) i ranges lt others))

pub find_between : (key i : ℕ) (ranges : List Range) → AreApart 0 ranges → AllByRecursion (λ range. range.last < key) (take i ranges) → AllByRecursion (λ range. key ≤ range.last) (drop i ranges) → i < length ranges → key < (get_or ranges i blank).first → find (holds key) ranges ≡ None
find_between key i ranges h ended others lt below =
    ap (find (holds key)) (sym (split_at i ranges lt))
    ∙ find-append_none (holds key) (take i ranges) (get_or ranges i blank ∷ drop (i + 1) ranges) (ended_hold_none key (take i ranges) ended)
    ∙ find_none (holds key) (get_or ranges i blank ∷ drop (i + 1) ranges)
    (holds_before key (get_or ranges i blank) below, later_hold_none key (get_or ranges i blank) (drop (i + 1) ranges) (apart_at i ranges lt h).1 (every_at (λ range. key ≤ range.last) i ranges lt others))

pub find_past : (key i : ℕ) (ranges : List Range) → AllByRecursion (λ range. range.last < key) (take i ranges) → length ranges ≤ i → find (holds key) ranges ≡ None
find_past key i ranges ended le =
    find_none (holds key) ranges (subst (λ those. AllByRecursion (λ range. holds key range ≡ false) those) (take_all i ranges le) (ended_hold_none key (take i ranges) ended))

-- a key is among the keys exactly where `find` finds its range
pub among_found : (key : ℕ) (ranges : List Range) → is_among key (keys_of ranges) ≡ is_some (find (holds key) ranges)
among_found key ranges = among-keys key ranges ∙ sym (is_some-find (holds key) ranges)

-- how many keys are smaller
abbrev is_below : ℕ → ℕ → Bool
is_below key other = ltb other key

pub count-append : (key : ℕ) (xs ys : List ℕ) → count_below key (xs ++ ys) ≡ count_below key xs + count_below key ys
count-append key [] ys = omega arith
count-append key (x ∷ xs) ys =
    elim (ltb x key) as (λ b. length (cond b (x ∷ filter (is_below key) (xs ++ ys)) (filter (is_below key) (xs ++ ys))) ≡ length (cond b (x ∷ filter (is_below key) xs) (filter (is_below key) xs)) + count_below key ys) [
      | true ↦ omega (arith, count-append key xs ys)
      | false ↦ count-append key xs ys
    ]

pub count_all : (key : ℕ) (xs : List ℕ) → AllByRecursion (λ x. x < key) xs → count_below key xs ≡ length xs
count_all key [] h = refl
count_all key (x ∷ xs) h = ap (λ b. length (cond b (x ∷ filter (is_below key) xs) (filter (is_below key) xs))) (lt-ltb x key h.0) ∙ ap suc (count_all key xs h.1)

pub count_none : (key : ℕ) (xs : List ℕ) → AllByRecursion (λ x. key ≤ x) xs → count_below key xs ≡ 0
count_none key [] h = refl
count_none key (x ∷ xs) h = ap (λ b. length (cond b (x ∷ filter (is_below key) xs) (filter (is_below key) xs))) (le-ltb x key h.0) ∙ count_none key xs h.1

-- of rising keys, so many are below one of them as stand before it
pub count_at : (key : ℕ) (keys : List ℕ) → IsRising keys → is_among key keys ≡ true → slice_get keys (count_below key keys) ≡ Some key
count_at key [] r h = absurd (true≢false (sym h))
count_at key (first ∷ keys) r h =
    elim (cases_eq first key) [
      | inl e ↦
          ap (slice_get (first ∷ keys)) (count_none key (first ∷ keys) (omega (arith, e), every_weaker (λ other. first < other) (λ other. key ≤ other) keys (λ other less. omega (arith, less, e)) r.0))
          ∙ ap Some e
      | inr e ↦
          let later : is_among key keys ≡ true = sym (ap (λ b. b || is_among key keys) (ne_eqb first key e)) ∙ h in
          let less : first < key = of_among (λ other. first < other) key keys r.0 later in
          let more : length (first ∷ filter (λ other. nat_lt other key) keys) ≡ suc (count_below key keys) = omega arith in
          ap (λ b. slice_get (first ∷ keys) (length (cond b (first ∷ filter (λ other. nat_lt other key) keys) (filter (λ other. nat_lt other key) keys)))) (lt-ltb first key less)
          ∙ ap (slice_get (first ∷ keys)) more
          ∙ count_at key keys r.1 later
    ]

count_range : (key first count : ℕ) → first ≤ key → key ≤ first + count → count_below key (range_with_len first count) ≡ key - first
count_range key first zero above below = omega arith
count_range key first (suc count) above below =
    elim (cases_lt first key) [
      | inl less ↦
          let rest = range_with_len (first + 1) count in
          ap (λ b. length (cond b (first ∷ filter (is_below key) rest) (filter (is_below key) rest))) (lt-ltb first key less) ∙ omega (arith, count_range key (first + 1) count (omega arith) (omega arith))
      | inr not_less ↦ count_none key (range_with_len first (suc count)) (each_from (λ x. key ≤ x) first (suc count) (λ x le lt. omega arith)) ∙ omega arith
    ]

ended_below : (key : ℕ) (ranges : List Range) → AllByRecursion (λ range. range.last < key) ranges → AllByRecursion (λ x. x < key) (keys_of ranges)
ended_below key ranges h = each_key (λ x. x < key) ranges (every_weaker (λ range. range.last < key) (λ range. (x : ℕ) → range.first ≤ x → x ≤ range.last → x < key) ranges (λ range below x le ge. omega (arith, below, ge)) h)

pub count_in : (key i : ℕ) (ranges : List Range) → AreApart 0 ranges → AllByRecursion (λ range. range.last < key) (take i ranges) → AllByRecursion (λ range. key ≤ range.last) (drop i ranges) → i < length ranges → (get_or ranges i blank).first ≤ key → count_below key (keys_of ranges) ≡ length (keys_of (take i ranges)) + (key - (get_or ranges i blank).first)
count_in key i ranges h ended others lt above =
    let range = get_or ranges i blank in
    let rest = drop (i + 1) ranges in
    let at_end : key ≤ range.last = every_at (λ range. key ≤ range.last) i ranges lt others in
    ap (count_below key) (sym (keys_split i ranges lt))
    ∙ omega (
      arith,
      count-append key (keys_of (take i ranges)) (keys_in range ++ keys_of rest),
      count-append key (keys_in range) (keys_of rest),
      count_all key (keys_of (take i ranges)) (ended_below key (take i ranges) ended),
      count_range key range.first (range.last + 1 - range.first) above (omega arith),
      count_none key (keys_of rest) (every_weaker (λ x. range.last + 2 ≤ x) (λ x. key ≤ x) (keys_of rest) (λ x le. omega (arith, le, at_end)) (keys_above (range.last + 2) rest (apart_at i ranges lt h).1)),
    )

pub count_between : (key i : ℕ) (ranges : List Range) → AreApart 0 ranges → AllByRecursion (λ range. range.last < key) (take i ranges) → i < length ranges → key < (get_or ranges i blank).first → count_below key (keys_of ranges) ≡ length (keys_of (take i ranges))
count_between key i ranges h ended lt below =
    let range = get_or ranges i blank in
    let rest = drop (i + 1) ranges in
    ap (count_below key) (sym (keys_split i ranges lt))
    ∙ omega (
      arith,
      count-append key (keys_of (take i ranges)) (keys_in range ++ keys_of rest),
      count-append key (keys_in range) (keys_of rest),
      count_all key (keys_of (take i ranges)) (ended_below key (take i ranges) ended),
      count_none key (keys_in range) (each_from (λ x. key ≤ x) range.first (range.last + 1 - range.first) (λ x le lt. omega arith)),
      count_none key (keys_of rest) (every_weaker (λ x. range.last + 2 ≤ x) (λ x. key ≤ x) (keys_of rest) (λ x le. omega (arith, le, below, (apart_at i ranges lt h).0.ascends)) (keys_above (range.last + 2) rest (apart_at i ranges lt h).1)),
    )

-- the least key that is not below
find_range : (key first count : ℕ) (rest : List ℕ) → 0 < count → key < first + count → find (leb key) (range_with_len first count ++ rest) ≡ Some (max first key)
find_range key first zero rest some below = absurd (omega arith)
find_range key first (suc count) rest some below =
    elim (cases_lt first key) [
      | inl less ↦
          let same : max (first + 1) key ≡ max first key = omega arith in
          ap (λ b. cond b (Some first) (find (leb key) (range_with_len (first + 1) count ++ rest))) (lt-leb key first less)
          ∙ find_range key (first + 1) count rest (omega arith) (omega arith)
          ∙ ap Some same
      | inr not_less ↦
          let same : first ≡ max first key = omega arith in
          ap (λ b. cond b (Some first) (find (leb key) (range_with_len (first + 1) count ++ rest))) (le-leb key first not_less) ∙ ap Some same
    ]

below_fail : (key : ℕ) (xs : List ℕ) → AllByRecursion (λ x. x < key) xs → AllByRecursion (λ x. leb key x ≡ false) xs
below_fail key xs h = every_weaker (λ x. x < key) (λ x. leb key x ≡ false) xs (λ x below. lt-leb key x below) h

pub next_in : (key i : ℕ) (ranges : List Range) → AreApart 0 ranges → AllByRecursion (λ range. range.last < key) (take i ranges) → AllByRecursion (λ range. key ≤ range.last) (drop i ranges) → i < length ranges → find (leb key) (keys_of ranges) ≡ Some (max (get_or ranges i blank).first key)
next_in key i ranges h ended others lt =
    let range = get_or ranges i blank in
    let at_end : key ≤ range.last = every_at (λ range. key ≤ range.last) i ranges lt others in
    let order : range.first ≤ range.last = (apart_at i ranges lt h).0.ascends in
    ap (find (leb key)) (sym (keys_split i ranges lt))
    ∙ find-append_none (leb key) (keys_of (take i ranges)) (keys_in range ++ keys_of (drop (i + 1) ranges)) (below_fail key (keys_of (take i ranges)) (ended_below key (take i ranges) ended))
    ∙ find_range key range.first (range.last + 1 - range.first) (keys_of (drop (i + 1) ranges)) (omega arith) (omega arith)

pub next_past : (key i : ℕ) (ranges : List Range) → AllByRecursion (λ range. range.last < key) (take i ranges) → length ranges ≤ i → find (leb key) (keys_of ranges) ≡ None
next_past key i ranges ended le =
    find_none (leb key) (keys_of ranges) (below_fail key (keys_of ranges) (ended_below key ranges (subst (λ those. AllByRecursion (λ range. range.last < key) those) (take_all i ranges le) ended)))

pub count_past : (key i : ℕ) (ranges : List Range) → AllByRecursion (λ range. range.last < key) (take i ranges) → length ranges ≤ i → count_below key (keys_of ranges) ≡ length (keys_of (take i ranges))
count_past key i ranges ended le =
    count_all key (keys_of ranges) (ended_below key ranges (subst (λ those. AllByRecursion (λ range. range.last < key) those) (take_all i ranges le) ended))
    ∙ ap (λ those. length (keys_of those)) (sym (take_all i ranges le))

-- the position of a key, or the number of smaller ones
pub found_in : (key i before : ℕ) (ranges : List Range) → AreApart 0 ranges → AllByRecursion (λ range. range.last < key) (take i ranges) → AllByRecursion (λ range. key ≤ range.last) (drop i ranges) → before ≡ length (keys_of (take i ranges)) → i < length ranges → (get_or ranges i blank).first ≤ key → found key (keys_of ranges) ≡ Ok (before + (key - (get_or ranges i blank).first))
found_in key i before ranges h ended others is lt above =
    let count : count_below key (keys_of ranges) ≡ before + (key - (get_or ranges i blank).first) = omega (arith, count_in key i ranges h ended others lt above, is) in
    ap (λ b. cond b (Ok (count_below key (keys_of ranges))) (Err (count_below key (keys_of ranges)))) (among_found key ranges ∙ ap is_some (find_in key i ranges h ended others lt above))
    ∙ ap Ok count

pub found_between : (key i before : ℕ) (ranges : List Range) → AreApart 0 ranges → AllByRecursion (λ range. range.last < key) (take i ranges) → AllByRecursion (λ range. key ≤ range.last) (drop i ranges) → before ≡ length (keys_of (take i ranges)) → i < length ranges → key < (get_or ranges i blank).first → found key (keys_of ranges) ≡ Err before
found_between key i before ranges h ended others is lt below =
    ap (λ b. cond b (Ok (count_below key (keys_of ranges))) (Err (count_below key (keys_of ranges)))) (among_found key ranges ∙ ap is_some (find_between key i ranges h ended others lt below))
    ∙ ap Err (count_between key i ranges h ended lt below ∙ sym is)

pub found_past : (key i before : ℕ) (ranges : List Range) → AllByRecursion (λ range. range.last < key) (take i ranges) → before ≡ length (keys_of (take i ranges)) → length ranges ≤ i → found key (keys_of ranges) ≡ Err before
found_past key i before ranges ended is le =
    ap (λ b. cond b (Ok (count_below key (keys_of ranges))) (Err (count_below key (keys_of ranges)))) (among_found key ranges ∙ ap is_some (find_past key i ranges ended le))
    ∙ ap Err (count_past key i ranges ended le ∙ sym is)

-- the key at a position
pub key_in : (i n : ℕ) (ranges : List Range) → i < length ranges → n < (get_or ranges i blank).last + 1 - (get_or ranges i blank).first → slice_get (keys_of ranges) (length (keys_of (take i ranges)) + n) ≡ Some ((get_or ranges i blank).first + n)
key_in i n ranges lt within =
    let range = get_or ranges i blank in
    ap (λ keys. slice_get keys (length (keys_of (take i ranges)) + n)) (sym (keys_split i ranges lt))
    ∙ get-append (keys_of (take i ranges)) (keys_in range ++ keys_of (drop (i + 1) ranges)) n
    ∙ get-range range.first (range.last + 1 - range.first) n (keys_of (drop (i + 1) ranges)) within

pub first_found : (ranges : List Range) → AreApart 0 ranges → 0 < length ranges → slice_get (keys_of ranges) 0 ≡ Some (get_or ranges 0 blank).first
first_found [] h some = absurd (omega arith)
first_found (range ∷ ranges) h some =
    let same : range.first + 0 ≡ range.first = omega arith in
    get-range range.first (range.last + 1 - range.first) 0 (keys_of ranges) (omega (arith, h.0.ascends)) ∙ ap Some same

pub last_found : (i : ℕ) (ranges : List Range) → AreApart 0 ranges → i + 1 ≡ length ranges → last_key (keys_of ranges) ≡ Some (get_or ranges i blank).last
last_found i ranges h is =
    let range = get_or ranges i blank in
    let order : range.first ≤ range.last = (range_at 0 ranges h i blank (omega arith)).ascends in
    let place : length (keys_of ranges) - 1 ≡ length (keys_of (take i ranges)) + (range.last - range.first) = omega (arith, length-keys_all i blank ranges h is, order) in
    let same : range.first + (range.last - range.first) ≡ range.last = omega (arith, order) in
    ap (slice_get (keys_of ranges)) place ∙ key_in i (range.last - range.first) ranges (omega arith) (omega (arith, order)) ∙ ap Some same

-- the key at a position, looked for from a block on
pub key_behind : (i position : ℕ) (ranges : List Range) → keys_before i ranges ≤ position → slice_get (keys_of (drop i ranges)) (position - keys_before i ranges) ≡ slice_get (keys_of ranges) position
key_behind i position ranges le =
    let place : length (keys_of (take i ranges)) + (position - keys_before i ranges) ≡ position = omega (arith, le) in
    sym (get-append (keys_of (take i ranges)) (keys_of (drop i ranges)) (position - keys_before i ranges))
    ∙ ap (λ keys. slice_get keys (length (keys_of (take i ranges)) + (position - keys_before i ranges))) (sym (keys_of-append (take i ranges) (drop i ranges)) ∙ ap keys_of (take-append-drop i ranges))
    ∙ ap (slice_get (keys_of ranges)) place

pub starts_rise : (front : ℕ) (all : List Range) (starts : List ℕ) → AreStarts front all starts → IsNonDecreasing starts
starts_rise front all starts h i j d le lt =
    let at : (k : ℕ) → k < length starts → get_or starts k d ≡ keys_before (16 * suc k - front) (drop front all) = λ k few.
    get_or_default starts k d 0 few ∙ h.counted (suc k) (omega (arith, few)) in
    omega (arith, at i (omega (arith, le, lt)), at j lt, keys_before_rise (16 * suc i - front) (16 * suc j - front) (drop front all) (omega (arith, le)))

abbrev pub IsStartCut : ℕ → List ℕ → ℕ → Type 0
IsStartCut position starts i = IsPartitionPoint (λ start. start ≤ position) (λ start. position < start) starts i

pub started_at : (position i : ℕ) (starts : List ℕ) → IsStartCut position starts i → i ≤ length starts → start_of starts i ≤ position
started_at position zero starts cut le = omega arith
started_at position (suc i) starts cut le = cut.0 i 0 (omega arith) (omega (arith, le))
