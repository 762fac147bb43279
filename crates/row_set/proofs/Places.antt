-- Where a search cuts a list of ranges.
use Rattle.std.proofs.Common.{◌≡◌, sym, subst, true, false, ℕ, zero, suc, ◌+◌, ◌-◌, ◌<◌, ◌≤◌, arith, List, [], ◌∷◌, length, length-drop, take, drop, get_or, leb, ltb, leb-true, leb-false, ltb-true, ltb-false}
use Rattle.std.{specs.List.AllByRecursion, specs.List.Sorted.{IsPartitionPoint, IsPartitionedBy, IsNonDecreasingBy}, proofs.lemmas.List.{drop-drop, drop_more}, proofs.lemmas.List.Sorted.{IsPartitionedBy-ltb, IsPartitionedBy-leb}}
use Rattle.key_lists.{proofs.Every.{every_weaker, all_from}, proofs.Parts.{every-take, front_part, back_part}}
use Rattle.row_set.{specs.declared.ranges.Range.Range, specs.Ranges.{IsRangeFrom, AreApart, Meets}, proofs.Apart.{apart-drop, each_above, each_range}}

pub range_at : (low : ℕ) (ranges : List Range) → AreApart low ranges → (k : ℕ) (d : Range) → k < length ranges → IsRangeFrom low (get_or ranges k d)
range_at low ranges h = all_from (IsRangeFrom low) ranges (each_range low ranges h)

lasts_rise : (low : ℕ) (ranges : List Range) → AreApart low ranges → IsNonDecreasingBy (λ range. range.last) ranges
lasts_rise low [] h i j d le lt = absurd (omega arith)
lasts_rise low (range ∷ ranges) h zero zero d le lt = omega arith
lasts_rise low (range ∷ ranges) h zero (suc j) d le lt =
    let there = range_at (range.last + 2) ranges h.1 j d (omega arith) in omega (arith, there.above, there.ascends)
lasts_rise low (range ∷ ranges) h (suc i) zero d le lt = absurd (omega arith)
lasts_rise low (range ∷ ranges) h (suc i) (suc j) d le lt = lasts_rise (range.last + 2) ranges h.1 i j d (omega arith) (omega arith)

firsts_rise : (low : ℕ) (ranges : List Range) → AreApart low ranges → IsNonDecreasingBy (λ range. range.first) ranges
firsts_rise low [] h i j d le lt = absurd (omega arith)
firsts_rise low (range ∷ ranges) h zero zero d le lt = omega arith
firsts_rise low (range ∷ ranges) h zero (suc j) d le lt =
    let there = range_at (range.last + 2) ranges h.1 j d (omega arith) in omega (arith, there.above, h.0.ascends)
firsts_rise low (range ∷ ranges) h (suc i) zero d le lt = absurd (omega arith)
firsts_rise low (range ∷ ranges) h (suc i) (suc j) d le lt = firsts_rise (range.last + 2) ranges h.1 i j d (omega arith) (omega arith)

pub lasts_parted : (key : ℕ) (ranges : List Range) → AreApart 0 ranges → IsPartitionedBy (λ range. ltb range.last key) ranges
lasts_parted key ranges h = IsPartitionedBy-ltb (λ range. range.last) ranges key (lasts_rise 0 ranges h)

pub firsts_parted : (key : ℕ) (ranges : List Range) → AreApart 0 ranges → IsPartitionedBy (λ range. leb range.first key) ranges
firsts_parted key ranges h = IsPartitionedBy-leb (λ range. range.first) ranges key (firsts_rise 0 ranges h)

-- the two parts that a test cuts a list into
pub ended_part : (key : ℕ) (ranges : List Range) (i : ℕ) → IsPartitionPoint (λ range. ltb range.last key ≡ true) (λ range. ltb range.last key ≡ false) ranges i → AllByRecursion (λ range. range.last < key) (take i ranges)
ended_part key ranges i h = every_weaker (λ range. ltb range.last key ≡ true) (λ range. range.last < key) (take i ranges) (λ range e. ltb-true range.last key e) (front_part (λ range. ltb range.last key) ranges i h)

pub not_ended_part : (key : ℕ) (ranges : List Range) (i : ℕ) → IsPartitionPoint (λ range. ltb range.last key ≡ true) (λ range. ltb range.last key ≡ false) ranges i → AllByRecursion (λ range. key ≤ range.last) (drop i ranges)
not_ended_part key ranges i h = every_weaker (λ range. ltb range.last key ≡ false) (λ range. key ≤ range.last) (drop i ranges) (λ range e. ltb-false range.last key e) (back_part (λ range. ltb range.last key) ranges i h)

pub begun_part : (key : ℕ) (ranges : List Range) (i : ℕ) → IsPartitionPoint (λ range. leb range.first key ≡ true) (λ range. leb range.first key ≡ false) ranges i → AllByRecursion (λ range. range.first ≤ key) (take i ranges)
begun_part key ranges i h = every_weaker (λ range. leb range.first key ≡ true) (λ range. range.first ≤ key) (take i ranges) (λ range e. leb-true range.first key e) (front_part (λ range. leb range.first key) ranges i h)

pub not_begun_part : (key : ℕ) (ranges : List Range) (i : ℕ) → IsPartitionPoint (λ range. leb range.first key ≡ true) (λ range. leb range.first key ≡ false) ranges i → AllByRecursion (λ range. key < range.first) (drop i ranges)
not_begun_part key ranges i h = every_weaker (λ range. leb range.first key ≡ false) (λ range. key < range.first) (drop i ranges) (λ range e. leb-false range.first key e) (back_part (λ range. leb range.first key) ranges i h)

-- those up to the from-th end before the keys, and of the rest count begin in time
pub meets : (low high from count : ℕ) (ranges : List Range) → from ≤ length ranges → count ≤ length (drop from ranges) → AllByRecursion (λ range. range.last < low) (take from ranges) → AllByRecursion (λ range. low ≤ range.last) (drop from ranges) → AllByRecursion (λ range. range.first ≤ high) (take count (drop from ranges)) → AllByRecursion (λ range. high < range.first) (drop count (drop from ranges)) → Meets low high ranges from (from + count)
meets low high from count ranges from_in count_in before lows highs after =
    let size : from + count - from ≡ count = omega arith in
    record {
      order = omega arith;
      within = omega (arith, from_in, count_in, length-drop from ranges);
      before = before;
      lows = every-take (λ range. low ≤ range.last) (from + count - from) (drop from ranges) lows;
      highs = subst (λ n. AllByRecursion (λ range. range.first ≤ high) (take n (drop from ranges))) (sym size) highs;
      after = subst (λ those. AllByRecursion (λ range. high < range.first) those) (drop-drop count from ranges) after;
    }

-- where one of the ranges begins after the key, so do those after it
pub later_begin : (key i : ℕ) (d : Range) (ranges : List Range) → AreApart 0 ranges → i < length ranges → key < (get_or ranges i d).first → AllByRecursion (λ range. key < range.first) (drop i ranges)
later_begin key i d ranges h lt below =
    let range = get_or ranges i d in
    let parts : drop i ranges ≡ range ∷ drop (i + 1) ranges = drop_more ranges i d lt in
    let apart : AreApart 0 (range ∷ drop (i + 1) ranges) = subst (λ those. AreApart 0 those) parts (apart-drop 0 i ranges h) in
    subst (λ those. AllByRecursion (λ range. key < range.first) those) (sym parts)
    (below, every_weaker (λ other. range.last + 2 ≤ other.first) (λ other. key < other.first) (drop (i + 1) ranges) (λ other above. omega (arith, above, below, apart.0.ascends)) (each_above (range.last + 2) (drop (i + 1) ranges) apart.1))

pub later_end : (key i : ℕ) (d : Range) (ranges : List Range) → AreApart 0 ranges → i < length ranges → key ≤ (get_or ranges i d).last → AllByRecursion (λ range. key ≤ range.last) (drop i ranges)
later_end key i d ranges h lt end =
    let range = get_or ranges i d in
    let parts : drop i ranges ≡ range ∷ drop (i + 1) ranges = drop_more ranges i d lt in
    let apart : AreApart 0 (range ∷ drop (i + 1) ranges) = subst (λ those. AreApart 0 those) parts (apart-drop 0 i ranges h) in
    subst (λ those. AllByRecursion (λ range. key ≤ range.last) those) (sym parts)
    (end, every_weaker (IsRangeFrom (range.last + 2)) (λ other. key ≤ other.last) (drop (i + 1) ranges) (λ other is. omega (arith, is.above, is.ascends, end)) (each_range (range.last + 2) (drop (i + 1) ranges) apart.1))

every_front : (P : Range → Type 0) (d : Range) (ranges : List Range) → ((k : ℕ) → k < length ranges → P (get_or ranges k d)) → AllByRecursion P (take (length ranges) ranges)
every_front P d [] h = tt
every_front P d (range ∷ ranges) h = (h 0 (omega arith), every_front P d ranges (λ k lt. h (suc k) (omega arith)))

-- all ranges, where the last one does
pub all_ended : (key : ℕ) (d : Range) (ranges : List Range) → AreApart 0 ranges → 0 < length ranges → (get_or ranges (length ranges - 1) d).last < key → AllByRecursion (λ range. range.last < key) (take (length ranges) ranges)
all_ended key d ranges h some lt =
    every_front (λ range. range.last < key) d ranges (λ k within. omega (arith, lasts_rise 0 ranges h k (length ranges - 1) d (omega arith) (omega arith), lt))

pub all_begun : (key : ℕ) (d : Range) (ranges : List Range) → AreApart 0 ranges → 0 < length ranges → (get_or ranges (length ranges - 1) d).first ≤ key → AllByRecursion (λ range. range.first ≤ key) (take (length ranges) ranges)
all_begun key d ranges h some lt =
    every_front (λ range. range.first ≤ key) d ranges (λ k within. omega (arith, firsts_rise 0 ranges h k (length ranges - 1) d (omega arith) (omega arith), lt))
