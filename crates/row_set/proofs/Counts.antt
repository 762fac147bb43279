-- How many keys come before a range, and how many there are.
use Rattle.std.proofs.Common.{◌≡◌, ap, ap₂, Bool, false, true≢false, ◌==◌, sym, ◌∙◌, subst, ℕ, zero, suc, ◌+◌, ◌-◌, ◌^◌, ◌<◌, ◌≤◌, arith, List, [], ◌∷◌, ◌++◌, length, take, drop, slice_range, get_or, take-take, append_assoc, length-append, length-take-le, take-append-drop, take_all}
use Rattle.std.{specs.List.AllByRecursion, proofs.Math.Seq.take-append-add, proofs.lemmas.List.take_more}
use Rattle.key_lists.{proofs.Every.all_from, proofs.Parts.{every_front, every_back, take_nil}}
use Rattle.row_set.{specs.declared.ranges.Range.Range, specs.Ranges.{keys_before, keys_in, keys_of, AreApart, AreRanges, IsRangeFrom}, proofs.Held.{keys_of-append, length-keys_in}, proofs.Apart.{each_range, length_below}}

-- one range more
pub length-keys_more : (i : ℕ) (d : Range) (ranges : List Range) → AllByRecursion (IsRangeFrom 0) ranges → i < length ranges → length (keys_of (take (i + 1) ranges)) ≡ length (keys_of (take i ranges)) + ((get_or ranges i d).last - (get_or ranges i d).first + 1)
length-keys_more i d ranges h lt =
    let there = all_from (IsRangeFrom 0) ranges h i d lt in
    ap (λ those. length (keys_of those)) (take_more ranges i d lt)
    ∙ ap length (keys_of-append (take i ranges) (get_or ranges i d ∷ []))
    ∙ omega (arith, length-append (keys_of (take i ranges)) (keys_of (get_or ranges i d ∷ [])), length-append (keys_in (get_or ranges i d)) [], length-keys_in (get_or ranges i d), there.ascends)

pub length-keys_all : (i : ℕ) (d : Range) (ranges : List Range) → AreApart 0 ranges → i + 1 ≡ length ranges → length (keys_of ranges) ≡ length (keys_of (take i ranges)) + ((get_or ranges i d).last - (get_or ranges i d).first + 1)
length-keys_all i d ranges h e = ap (λ those. length (keys_of those)) (sym (take_all (i + 1) ranges (omega arith))) ∙ length-keys_more i d ranges (each_range 0 ranges h) (omega arith)

pub few_keys : (ranges : List Range) → AreApart 0 ranges → length (keys_of ranges) ≤ 2 ^ 62 + 1
few_keys ranges h = omega (arith, length_below 0 ranges (omega arith) h)

pub some_from_test : (n : ℕ) (b : Bool) → b ≡ false → b ≡ (n == 0) → 0 < n
some_from_test zero b e f = absurd (true≢false (sym f ∙ e))
some_from_test (suc n) b e f = omega arith

abbrev pub blank : Range
blank = record { first = 0; last = 0 }

-- the keys before an index, counted in two parts
keys_before_more : (i k : ℕ) (ranges : List Range) → keys_before (i + k) ranges ≡ keys_before i ranges + length (keys_of (take k (drop i ranges)))
keys_before_more zero k ranges = let same : 0 + k ≡ k = omega arith in omega (arith, ap (λ n. keys_before n ranges) same)
keys_before_more (suc i) k [] = omega (arith, ap (λ (those : List Range). length (keys_of those)) (take_nil (suc i + k)), ap (λ (those : List Range). length (keys_of those)) (take_nil k))
keys_before_more (suc i) k (range ∷ ranges) =
    let same : suc i + k ≡ suc (i + k) = omega arith in
    omega (
      arith,
      ap (λ n. keys_before n (range ∷ ranges)) same,
      keys_before_more i k ranges,
      length-append (keys_in range) (keys_of (take (i + k) ranges)),
      length-append (keys_in range) (keys_of (take i ranges)),
    )

pub keys_before_to : (from to : ℕ) (ranges : List Range) → from ≤ to → keys_before to ranges ≡ keys_before from ranges + length (keys_of (slice_range ranges from to))
keys_before_to from to ranges le =
    let same : to ≡ from + (to - from) = omega arith in
    ap (λ n. keys_before n ranges) same ∙ keys_before_more from (to - from) ranges

pub keys_before_rise : (from to : ℕ) (ranges : List Range) → from ≤ to → keys_before from ranges ≤ keys_before to ranges
keys_before_rise from to ranges le = omega (arith, keys_before_to from to ranges le)

pub keys_before_all : (n : ℕ) (ranges : List Range) → length ranges ≤ n → keys_before n ranges ≡ length (keys_of ranges)
keys_before_all n ranges le = ap (λ those. length (keys_of those)) (take_all n ranges le)

-- ranges that can be counted, and their parts
pub apart_ranges : (ranges : List Range) → AreApart 0 ranges → AreRanges ranges
apart_ranges ranges h = record { each = each_range 0 ranges h; few = few_keys ranges h }

pub ranges_front : (xs ys : List Range) → AreRanges (xs ++ ys) → AreRanges xs
ranges_front xs ys h = record { each = every_front (IsRangeFrom 0) xs ys h.each; few = omega (arith, h.few, ap length (keys_of-append xs ys), length-append (keys_of xs) (keys_of ys)) }

pub ranges_back : (xs ys : List Range) → AreRanges (xs ++ ys) → AreRanges ys
ranges_back xs ys h = record { each = every_back (IsRangeFrom 0) xs ys h.each; few = omega (arith, h.few, ap length (keys_of-append xs ys), length-append (keys_of xs) (keys_of ys)) }

pub ranges-take : (n : ℕ) (ranges : List Range) → AreRanges ranges → AreRanges (take n ranges)
ranges-take n ranges h = ranges_front (take n ranges) (drop n ranges) (subst AreRanges (sym (take-append-drop n ranges)) h)

pub ranges-drop : (n : ℕ) (ranges : List Range) → AreRanges ranges → AreRanges (drop n ranges)
ranges-drop n ranges h = ranges_back (take n ranges) (drop n ranges) (subst AreRanges (sym (take-append-drop n ranges)) h)

pub ranges-slice : (from to : ℕ) (ranges : List Range) → AreRanges ranges → AreRanges (slice_range ranges from to)
ranges-slice from to ranges h = ranges-take (to - from) (drop from ranges) (ranges-drop from ranges h)

pub few_before : (n : ℕ) (ranges : List Range) → AreRanges ranges → keys_before n ranges ≤ 2 ^ 62 + 1
few_before n ranges h = (ranges-take n ranges h).few

pub same_shorter : {X : Type 0} (n m : ℕ) (xs ys : List X) → n ≤ m → take m xs ≡ take m ys → take n xs ≡ take n ys
same_shorter n m xs ys le same = sym (take-take n m xs le) ∙ ap (take n) same ∙ take-take n m ys le

pub keys_before_kept : (n i : ℕ) (new old : List Range) → i ≤ n → take n new ≡ take n old → keys_before i new ≡ keys_before i old
keys_before_kept n i new old le same = ap (λ those. length (keys_of those)) (same_shorter i n new old le same)

-- the keys before an index in a list that has others in the place of some ranges, at it or before it
pub keys_after : (from to i j : ℕ) (ranges others : List Range) → from ≤ to → to ≤ length ranges → to ≤ i → j + to ≡ i + from + length others → keys_before j (take from ranges ++ (others ++ drop to ranges)) + length (keys_of (slice_range ranges from to)) ≡ keys_before i ranges + length (keys_of others)
keys_after from to i j ranges others order within past place =
    let front = take from ranges in
    let rest = drop to ranges in
    let n = i - to in
    let index : j ≡ length (front ++ others) + n = omega (arith, length-append front others, length-take-le from ranges (omega (arith, order, within))) in
    let parts : take j (front ++ (others ++ rest)) ≡ (front ++ others) ++ take n rest =
    ap₂ take index (sym (append_assoc front others rest)) ∙ take-append-add (front ++ others) rest n in
    omega (
      arith,
      ap (λ those. length (keys_of those)) parts,
      ap length (keys_of-append (front ++ others) (take n rest)),
      length-append (keys_of (front ++ others)) (keys_of (take n rest)),
      ap length (keys_of-append front others),
      length-append (keys_of front) (keys_of others),
      keys_before_to from to ranges order,
      keys_before_to to i ranges past,
    )
