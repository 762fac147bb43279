-- Ranges that ascend with a gap between any two.
use Rattle.std.proofs.Common.{◌≡◌, subst, ℕ, zero, suc, ◌+◌, ◌-◌, ◌^◌, ◌<◌, ◌≤◌, arith, List, [], ◌∷◌, ◌++◌, length, take, drop, length-append}
use Rattle.std.specs.List.{AllByRecursion}
use Rattle.key_lists.{specs.Keys.IsRising, proofs.Every.every_weaker, proofs.Rising.rising-append}
use Rattle.row_set.{specs.declared.ranges.Range.Range, specs.Ranges.{keys_in, keys_of, IsRangeFrom, AreApart}, specs.declared.runs.Runs.Runs, specs.Runs.{IsStored, lying}, specs.Sets.IsKeySet, proofs.Held.{each_between, each_key, range_rises, length-keys_in}}

pub apart_weaker : (low bound : ℕ) (ranges : List Range) → low ≤ bound → AreApart bound ranges → AreApart low ranges
apart_weaker low bound [] le h = tt
apart_weaker low bound (range ∷ ranges) le h = (record { above = omega (arith, h.0.above); ascends = h.0.ascends; small = h.0.small }, h.1)

-- ranges that are apart begin at the bound where the first does
pub apart_raised : (low bound : ℕ) (ranges : List Range) → AllByRecursion (λ range. bound ≤ range.first) ranges → AreApart low ranges → AreApart bound ranges
apart_raised low bound [] above h = tt
apart_raised low bound (range ∷ ranges) above h = (record { above = above.0; ascends = h.0.ascends; small = h.0.small }, h.1)

pub each_above : (low : ℕ) (ranges : List Range) → AreApart low ranges → AllByRecursion (λ range. low ≤ range.first) ranges
each_above low [] h = tt
each_above low (range ∷ ranges) h =
    (h.0.above, every_weaker (λ other. range.last + 2 ≤ other.first) (λ other. low ≤ other.first) ranges (λ other above. omega (arith, above, h.0.above, h.0.ascends)) (each_above (range.last + 2) ranges h.1))

pub each_range : (low : ℕ) (ranges : List Range) → AreApart low ranges → AllByRecursion (IsRangeFrom low) ranges
each_range low [] h = tt
each_range low (range ∷ ranges) h =
    (h.0, every_weaker (IsRangeFrom (range.last + 2)) (IsRangeFrom low) ranges (λ other is. record { above = omega (arith, is.above, h.0.above, h.0.ascends); ascends = is.ascends; small = is.small }) (each_range (range.last + 2) ranges h.1))

pub apart-drop : (low i : ℕ) (ranges : List Range) → AreApart low ranges → AreApart low (drop i ranges)
apart-drop low zero ranges h = h
apart-drop low (suc i) [] h = tt
apart-drop low (suc i) (range ∷ ranges) h = apart_weaker low (range.last + 2) (drop i ranges) (omega (arith, h.0.above, h.0.ascends)) (apart-drop (range.last + 2) i ranges h.1)

pub apart-take : (low i : ℕ) (ranges : List Range) → AreApart low ranges → AreApart low (take i ranges)
apart-take low zero ranges h = tt
apart-take low (suc i) [] h = tt
apart-take low (suc i) (range ∷ ranges) h = (h.0, apart-take (range.last + 2) i ranges h.1)

pub apart-append : (low bound : ℕ) (xs ys : List Range) → low ≤ bound → AllByRecursion (λ range. range.last + 2 ≤ bound) xs → AreApart low xs → AreApart bound ys → AreApart low (xs ++ ys)
apart-append low bound [] ys le below h k = apart_weaker low bound ys le k
apart-append low bound (range ∷ xs) ys le below h k = (h.0, apart-append (range.last + 2) bound xs ys below.0 below.1 h.1 k)

-- the parts of ranges that are apart
pub apart_front : (low : ℕ) (xs ys : List Range) → AreApart low (xs ++ ys) → AreApart low xs
apart_front low [] ys h = tt
apart_front low (range ∷ xs) ys h = (h.0, apart_front (range.last + 2) xs ys h.1)

pub apart_back : (low : ℕ) (xs ys : List Range) → AreApart low (xs ++ ys) → AreApart low ys
apart_back low [] ys h = h
apart_back low (range ∷ xs) ys h = apart_weaker low (range.last + 2) ys (omega (arith, h.0.above, h.0.ascends)) (apart_back (range.last + 2) xs ys h.1)

pub apart_seam : (low : ℕ) (xs : List Range) (next : Range) (ys : List Range) → AreApart low (xs ++ next ∷ ys) → AllByRecursion (λ range. range.last + 2 ≤ next.first) xs
apart_seam low [] next ys h = tt
apart_seam low (range ∷ xs) next ys h = ((apart_back (range.last + 2) xs (next ∷ ys) h.1).0.above, apart_seam (range.last + 2) xs next ys h.1)

-- their keys are a set
pub keys_above : (low : ℕ) (ranges : List Range) → AreApart low ranges → AllByRecursion (λ key. low ≤ key) (keys_of ranges)
keys_above low ranges h = each_key (λ key. low ≤ key) ranges (every_weaker (λ range. low ≤ range.first) (λ range. (key : ℕ) → range.first ≤ key → key ≤ range.last → low ≤ key) ranges (λ range above key le ge. omega (arith, above, le)) (each_above low ranges h))

pub keys_small : (low : ℕ) (ranges : List Range) → AreApart low ranges → AllByRecursion (λ key. key < 2 ^ 62) (keys_of ranges)
keys_small low ranges h = each_key (λ key. key < 2 ^ 62) ranges (every_weaker (IsRangeFrom low) (λ range. (key : ℕ) → range.first ≤ key → key ≤ range.last → key < 2 ^ 62) ranges (λ range is key le ge. omega (arith, is.small, ge)) (each_range low ranges h))

pub keys_rise : (low : ℕ) (ranges : List Range) → AreApart low ranges → IsRising (keys_of ranges)
keys_rise low [] h = tt
keys_rise low (range ∷ ranges) h =
    rising-append (range.last + 1) (keys_in range) (keys_of ranges)
    (each_between (λ key. key < range.last + 1) range.first range.last (λ key above below. omega arith))
    (every_weaker (λ key. range.last + 2 ≤ key) (λ key. range.last + 1 ≤ key) (keys_of ranges) (λ key above. omega (arith, above)) (keys_above (range.last + 2) ranges h.1))
    (range_rises range.first (range.last + 1 - range.first))
    (keys_rise (range.last + 2) ranges h.1)

pub keys_are_set : (ranges : List Range) → AreApart 0 ranges → IsKeySet (keys_of ranges)
keys_are_set ranges h = record { rising = keys_rise 0 ranges h; small = keys_small 0 ranges h }

pub stored_set : (keys : List ℕ) (runs : Runs) → keys_of (lying runs) ≡ keys → IsStored runs → IsKeySet keys
stored_set keys runs is h = subst IsKeySet is (keys_are_set (lying runs) h.apart)

-- there are not more keys than there are numbers for them
pub length_below : (low : ℕ) (ranges : List Range) → low ≤ 2 ^ 62 + 1 → AreApart low ranges → low + length (keys_of ranges) ≤ 2 ^ 62 + 1
length_below low [] le h = omega (arith, le)
length_below low (range ∷ ranges) le h =
    omega (arith, length-append (keys_in range) (keys_of ranges), length-keys_in range, length_below (range.last + 2) ranges (omega (arith, h.0.small)) h.1, h.0.above, h.0.ascends)
