-- Two neighbouring ranges that touch, made one.
use Rattle.std.proofs.Common.{◌≡◌, ap, ap₂, sym, ◌∙◌, subst, true, ℕ, zero, suc, ◌+◌, ◌-◌, ◌<◌, ◌≤◌, arith, List, [], ◌∷◌, ◌++◌, length, take, drop, slice_range, get_or, length-take-le, take-append-drop}
use Rattle.std.{specs.List.{AllByRecursion, list_any, range_with_len}, proofs.lemmas.Bool.or_left, proofs.lemmas.List.{drop_more, drop-drop, drop-take, drop-append-le}}
use Rattle.key_lists.{specs.Keys.{is_among, IsRising}, proofs.Every.{every_weaker, every-append}, proofs.Among.of_among}
use Rattle.row_set.{specs.declared.ranges.Range.Range, specs.Ranges.{keys_in, keys_of, holds, IsRangeFrom, AreApart}, proofs.Held.{among-in, among-keys, holds-true, keys_of-append}, proofs.Apart.{apart_back, apart_front, apart_seam, apart-append}, proofs.Counts.blank, proofs.Middles.{span, middle_last}, proofs.Windows.rising_back}

-- numbers in a row, and those after them
pub range_with_len-append : (first count more : ℕ) (rest : List ℕ) → range_with_len first count ++ (range_with_len (first + count) more ++ rest) ≡ range_with_len first (count + more) ++ rest
range_with_len-append first zero more rest =
    let start : first + 0 ≡ first = omega arith in
    let size : more ≡ 0 + more = omega arith in
    ap (λ n. range_with_len n more ++ rest) start ∙ ap (λ n. range_with_len first n ++ rest) size
range_with_len-append first (suc count) more rest =
    let start : first + suc count ≡ first + 1 + count = omega arith in
    let size : suc (count + more) ≡ suc count + more = omega arith in
    ap (λ n. first ∷ (range_with_len (first + 1) count ++ (range_with_len n more ++ rest))) start
    ∙ ap (λ those. first ∷ those) (range_with_len-append (first + 1) count more rest)
    ∙ ap (λ n. range_with_len first n ++ rest) size

pub touching_keys : (left right : Range) (rest : List ℕ) → left.first ≤ left.last → right.first ≤ right.last → left.last + 1 ≡ right.first → keys_in left ++ (keys_in right ++ rest) ≡ keys_in (span left.first right.last) ++ rest
touching_keys left right rest le le' touch =
    let start : right.first ≡ left.first + (left.last + 1 - left.first) = omega arith in
    let size : left.last + 1 - left.first + (right.last + 1 - right.first) ≡ right.last + 1 - left.first = omega arith in
    ap (λ n. keys_in left ++ (range_with_len n (right.last + 1 - right.first) ++ rest)) start
    ∙ range_with_len-append left.first (left.last + 1 - left.first) (right.last + 1 - right.first) rest
    ∙ ap (λ n. range_with_len left.first n ++ rest) size

above_all : (x y : ℕ) (xs ys : List ℕ) → IsRising (xs ++ ys) → is_among x xs ≡ true → is_among y ys ≡ true → x < y
above_all x y xs ys h in_xs in_ys = of_among (λ z. z < y) x xs (each xs h) in_xs
  where
    past : (P : ℕ → Type 0) (zs : List ℕ) → AllByRecursion P (zs ++ ys) → AllByRecursion P ys
    past P [] k = k
    past P (z ∷ zs) k = past P zs k.1

    each : (zs : List ℕ) → IsRising (zs ++ ys) → AllByRecursion (λ z. z < y) zs
    each [] k = tt
    each (z ∷ zs) k = (of_among (λ other. z < other) y ys (past (λ other. z < other) zs k.0) in_ys, each zs k.1)

-- the ranges round a place
pub pair_at : (i : ℕ) (ranges : List Range) → 0 < i → i < length ranges → take (i - 1) ranges ++ (get_or ranges (i - 1) blank ∷ get_or ranges i blank ∷ drop (i + 1) ranges) ≡ ranges
pair_at i ranges some lt =
    let same : i - 1 + 1 ≡ i = omega arith in
    ap (λ rest. take (i - 1) ranges ++ (get_or ranges (i - 1) blank ∷ rest)) (sym (drop_more ranges i blank lt))
    ∙ ap (λ n. take (i - 1) ranges ++ (get_or ranges (i - 1) blank ∷ drop n ranges)) (sym same)
    ∙ ap (λ rest. take (i - 1) ranges ++ rest) (sym (drop_more ranges (i - 1) blank (omega arith)))
    ∙ take-append-drop (i - 1) ranges

-- what is known where two parts of ranges meet
pub record AreBoth (ranges : List Range) (from i : ℕ) : Type 0 where
  pub some : from < i
  pub within : i < length ranges
  pub before : AreApart 0 (slice_range ranges from i)
  pub after : AreApart 0 (drop i ranges)
  pub rising : IsRising (keys_of ranges)

pub left_is : (ranges : List Range) (from i : ℕ) → AreBoth ranges from i → IsRangeFrom 0 (get_or ranges (i - 1) blank)
left_is ranges from i h =
    let le : i ≤ length ranges = omega (arith, h.within) in
    (apart_back 0 (take (i - from - 1) (drop from ranges)) (get_or ranges (i - 1) blank ∷ []) (subst (λ those. AreApart 0 those) (middle_last from i ranges h.some le) h.before)).0

pub right_rest : (ranges : List Range) (from i : ℕ) → AreBoth ranges from i → AreApart 0 (get_or ranges i blank ∷ drop (i + 1) ranges)
right_rest ranges from i h = subst (λ those. AreApart 0 those) (drop_more ranges i blank h.within) h.after

pub in_order : (ranges : List Range) (from i : ℕ) → AreBoth ranges from i → (get_or ranges (i - 1) blank).last < (get_or ranges i blank).first
in_order ranges from i h =
    let left = get_or ranges (i - 1) blank in
    let right = get_or ranges i blank in
    let some : 0 < i = omega (arith, h.some) in
    let left_order : left.first ≤ left.last = (left_is ranges from i h).ascends in
    let right_order : right.first ≤ right.last = (right_rest ranges from i h).0.ascends in
    let rises : IsRising (keys_of (take (i - 1) ranges) ++ (keys_in left ++ keys_of (right ∷ drop (i + 1) ranges))) =
    subst IsRising (ap keys_of (sym (pair_at i ranges some h.within)) ∙ keys_of-append (take (i - 1) ranges) (left ∷ right ∷ drop (i + 1) ranges)) h.rising in
    above_all left.last right.first (keys_in left) (keys_of (right ∷ drop (i + 1) ranges)) (rising_back (keys_of (take (i - 1) ranges)) (keys_in left ++ keys_of (right ∷ drop (i + 1) ranges)) rises)
    (among-in left.last left ∙ holds-true left.last left left_order (omega arith))
    (first_among right (drop (i + 1) ranges) right_order)
  where
    first_among : (range : Range) (rest : List Range) → range.first ≤ range.last → is_among range.first (keys_of (range ∷ rest)) ≡ true
    first_among range rest le = among-keys range.first (range ∷ rest) ∙ or_left (holds range.first range) (list_any (holds range.first) rest) (holds-true range.first range (omega arith) le)

-- the ranges stay as they are, since the two do not touch
pub gap_apart : (ranges : List Range) (from i : ℕ) → AreBoth ranges from i → ((get_or ranges (i - 1) blank).last + 1 ≡ (get_or ranges i blank).first → ⊥) → AreApart 0 (drop from ranges)
gap_apart ranges from i h gap =
    let left = get_or ranges (i - 1) blank in
    let right = get_or ranges i blank in
    let init = take (i - from - 1) (drop from ranges) in
    let le : i ≤ length ranges = omega (arith, h.within) in
    let lt : left.last + 2 ≤ right.first = omega (arith, in_order ranges from i h, gap) in
    let front : AreApart 0 (init ++ left ∷ []) = subst (λ those. AreApart 0 those) (middle_last from i ranges h.some le) h.before in
    let back : AreApart 0 (right ∷ drop (i + 1) ranges) = right_rest ranges from i h in
    let whole : from + (i - from) ≡ i = omega (arith, h.some) in
    let is : (init ++ left ∷ []) ++ (right ∷ drop (i + 1) ranges) ≡ drop from ranges =
    ap₂ ◌++◌ (sym (middle_last from i ranges h.some le)) (sym (drop_more ranges i blank h.within) ∙ ap (λ n. drop n ranges) (sym whole) ∙ sym (drop-drop (i - from) from ranges))
    ∙ take-append-drop (i - from) (drop from ranges) in
    subst (λ those. AreApart 0 those) is
    (apart-append 0 right.first (init ++ left ∷ []) (right ∷ drop (i + 1) ranges) (omega arith)
    (every-append (λ range. range.last + 2 ≤ right.first) init (left ∷ []) (every_weaker (λ range. range.last + 2 ≤ left.first) (λ range. range.last + 2 ≤ right.first) init (λ range below. omega (arith, below, lt, (left_is ranges from i h).ascends)) (apart_seam 0 init left [] front)) (lt, tt))
    front
    (record { above = omega arith; ascends = back.0.ascends; small = back.0.small }, back.1))

-- the two are made one
pub touch_apart : (ranges new : List Range) (from i : ℕ) → AreBoth ranges from i → new ≡ take (i - 1) ranges ++ span (get_or ranges (i - 1) blank).first (get_or ranges i blank).last ∷ drop (i + 1) ranges → AreApart 0 (drop from new)
touch_apart ranges new from i h is =
    let left = get_or ranges (i - 1) blank in
    let right = get_or ranges i blank in
    let init = take (i - from - 1) (drop from ranges) in
    let rest = drop (i + 1) ranges in
    let le : i ≤ length ranges = omega (arith, h.within) in
    let size : length (take (i - 1) ranges) ≡ i - 1 = length-take-le (i - 1) ranges (omega (arith, h.within)) in
    let whole : i - 1 ≡ from + (i - from - 1) = omega (arith, h.some) in
    let front : AreApart 0 (init ++ left ∷ []) = subst (λ those. AreApart 0 those) (middle_last from i ranges h.some le) h.before in
    let back : AreApart 0 (right ∷ rest) = right_rest ranges from i h in
    let lt : left.last < right.first = in_order ranges from i h in
    let ends : drop from new ≡ init ++ span left.first right.last ∷ rest =
    ap (drop from) is
    ∙ drop-append-le from (take (i - 1) ranges) (span left.first right.last ∷ rest) (omega (arith, size, h.some))
    ∙ ap (λ n. drop from (take n ranges) ++ span left.first right.last ∷ rest) whole
    ∙ ap (λ those. those ++ span left.first right.last ∷ rest) (drop-take from (i - from - 1) ranges) in
    subst (λ those. AreApart 0 those) (sym ends)
    (apart-append 0 left.first init (span left.first right.last ∷ rest) (omega arith) (apart_seam 0 init left [] front) (apart_front 0 init (left ∷ []) front)
    (record { above = omega arith; ascends = omega (arith, lt, (left_is ranges from i h).ascends, back.0.ascends); small = back.0.small }, back.1))

pub touch_keys : (ranges new : List Range) (from i : ℕ) → AreBoth ranges from i → (get_or ranges (i - 1) blank).last + 1 ≡ (get_or ranges i blank).first → new ≡ take (i - 1) ranges ++ span (get_or ranges (i - 1) blank).first (get_or ranges i blank).last ∷ drop (i + 1) ranges → keys_of new ≡ keys_of ranges
touch_keys ranges new from i h touch is =
    let left = get_or ranges (i - 1) blank in
    let right = get_or ranges i blank in
    let rest = drop (i + 1) ranges in
    let some : 0 < i = omega (arith, h.some) in
    ap keys_of is
    ∙ keys_of-append (take (i - 1) ranges) (span left.first right.last ∷ rest)
    ∙ ap (λ those. keys_of (take (i - 1) ranges) ++ those) (sym (touching_keys left right (keys_of rest) (left_is ranges from i h).ascends (right_rest ranges from i h).0.ascends touch))
    ∙ sym (keys_of-append (take (i - 1) ranges) (left ∷ right ∷ rest))
    ∙ ap keys_of (pair_at i ranges some h.within)
