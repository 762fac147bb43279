-- The keys of ranges and of rows, gathered one after the other.
use Rattle.std.proofs.Common.{◌≡◌, ap, sym, ◌∙◌, ℕ, zero, suc, ◌+◌, ◌-◌, ◌<◌, ◌≤◌, ◌^◌, arith, List, [], ◌∷◌, ◌++◌, length, get_or, take, add-one}
use Rattle.std.{specs.Prelude.flat_map, specs.List.{AllByRecursion, range_with_len}, proofs.Math.Seq.take-suc, proofs.lemmas.Grind.flat_map-append, proofs.lemmas.List.append-nil}
use Rattle.key_lists.{specs.Keys.{is_among, IsRising}, proofs.Among.among-append, proofs.Every.{every, every_weaker, every-append}, proofs.Rising.{rising-append, rising_same}, proofs.Booleans.or_turned, proofs.Parts.{every-take, every_at}, proofs.Ranges.each_from}
use Rattle.row_set.{specs.Sets.united, proofs.Held.range_rises, proofs.United.{among-united, united_rises}}
use Rattle.tick_model.{specs.declared.update.KeyRange.KeyRange, specs.LawfulRuns.AreRanges, specs.Sources.keys_within}

pub range_at : (ranges : List KeyRange) (i : ℕ) (d : KeyRange) → AreRanges ranges → i < length ranges → ((get_or ranges i d).first ≤ (get_or ranges i d).last) × ((get_or ranges i d).last < 2 ^ 40)
range_at [] i d h less = absurd (omega (arith, less))
range_at (range ∷ ranges) zero d h less = (h.0, h.1)
range_at (range ∷ ranges) (suc i) d h less = range_at ranges i d h.3 (omega (arith, less))

ranges_taken : (i : ℕ) (ranges : List KeyRange) → AreRanges ranges → AreRanges (take i ranges)
ranges_taken zero ranges h = tt
ranges_taken (suc i) [] h = tt
ranges_taken (suc i) (range ∷ ranges) h = (h.0, h.1, every-take (λ (next : KeyRange). range.last < next.first) i ranges h.2, ranges_taken i ranges h.3)

keys_up_to : (range : KeyRange) → range.first ≤ range.last → AllByRecursion (λ key. key < range.last + 1) (keys_within range)
keys_up_to range order = each_from (λ key. key < range.last + 1) range.first (range.last + 1 - range.first) (λ key low high. omega (arith, order, high))

keys_above : (bound : ℕ) (ranges : List KeyRange) → AllByRecursion (λ (range : KeyRange). bound ≤ range.first) ranges → AllByRecursion (λ key. bound ≤ key) (flat_map keys_within ranges)
keys_above bound [] h = tt
keys_above bound (range ∷ ranges) h =
    every-append (λ key. bound ≤ key) (keys_within range) (flat_map keys_within ranges)
    (each_from (λ key. bound ≤ key) range.first (range.last + 1 - range.first) (λ key low high. let first = h.0 in omega (arith, first, low)))
    (keys_above bound ranges h.1)

pub ranges_rise : (ranges : List KeyRange) → AreRanges ranges → IsRising (flat_map keys_within ranges)
ranges_rise [] h = tt
ranges_rise (range ∷ ranges) h =
    rising-append (range.last + 1) (keys_within range) (flat_map keys_within ranges) (keys_up_to range h.0)
    (keys_above (range.last + 1) ranges (every_weaker (λ (next : KeyRange). range.last < next.first) (λ next. range.last + 1 ≤ next.first) ranges (λ next less. omega (arith, less)) h.2))
    (range_rises range.first (range.last + 1 - range.first)) (ranges_rise ranges h.3)

keys_before : (ranges : List KeyRange) (i : ℕ) (d : KeyRange) → AreRanges ranges → i < length ranges → AllByRecursion (λ key. key < (get_or ranges i d).first) (flat_map keys_within (take i ranges))
keys_before [] i d h less = absurd (omega (arith, less))
keys_before (range ∷ ranges) zero d h less = tt
keys_before (range ∷ ranges) (suc i) d h less =
    let above : range.last < (get_or ranges i d).first = every_at (λ (next : KeyRange). range.last < next.first) ranges i d (omega (arith, less)) h.2 in
    every-append (λ key. key < (get_or ranges i d).first) (keys_within range) (flat_map keys_within (take i ranges))
    (every_weaker (λ key. key < range.last + 1) (λ key. key < (get_or ranges i d).first) (keys_within range) (λ key low. omega (arith, low, above)) (keys_up_to range h.0))
    (keys_before ranges i d h.3 (omega (arith, less)))

-- keys that are put behind others
united_behind : (bound : ℕ) (keys others : List ℕ) → AllByRecursion (λ key. bound ≤ key) keys → IsRising keys → AllByRecursion (λ key. key < bound) others → IsRising others → united keys others ≡ others ++ keys
united_behind bound keys others above r below s =
    rising_same (united keys others) (others ++ keys) (united_rises keys others s) (rising-append bound others keys below above s r)
    (λ key. among-united key keys others ∙ or_turned (is_among key keys) (is_among key others) ∙ sym (among-append key others keys))

pub ranges_more : (ranges : List KeyRange) (i : ℕ) (d : KeyRange) → AreRanges ranges → i < length ranges → united (keys_within (get_or ranges i d)) (flat_map keys_within (take i ranges)) ≡ flat_map keys_within (take (i + 1) ranges)
ranges_more ranges i d h less =
    let range = get_or ranges i d in
    united_behind range.first (keys_within range) (flat_map keys_within (take i ranges))
    (each_from (λ key. range.first ≤ key) range.first (range.last + 1 - range.first) (λ key low high. low))
    (range_rises range.first (range.last + 1 - range.first)) (keys_before ranges i d h less) (ranges_rise (take i ranges) (ranges_taken i ranges h))
    ∙ sym (ap (flat_map keys_within) (ap (λ n. take n ranges) (add-one i) ∙ take-suc ranges i d less)
    ∙ flat_map-append keys_within (take i ranges) (range ∷ []) ∙ ap (λ keys. flat_map keys_within (take i ranges) ++ keys) (append-nil (keys_within range)))

pub keys_below : (ks : List ℕ) (i d : ℕ) → IsRising ks → i < length ks → AllByRecursion (λ other. other < get_or ks i d) (take i ks)
keys_below [] i d r less = absurd (omega (arith, less))
keys_below (key ∷ ks) zero d r less = tt
keys_below (key ∷ ks) (suc i) d r less = (every_at (λ other. key < other) ks i d (omega (arith, less)) r.0, keys_below ks i d r.1 (omega (arith, less)))

-- keys that are put where there are none
united_none : (keys : List ℕ) → IsRising keys → united keys [] ≡ keys
united_none keys r = united_behind 0 keys [] (every (λ key. 0 ≤ key) keys (λ key. omega arith)) r tt tt

pub first_keys_are : (count : ℕ) → 0 < count → united (range_with_len 0 (count - 1 + 1 - 0)) [] ≡ range_with_len 0 count
first_keys_are count some =
    let all : count - 1 + 1 - 0 ≡ count = omega (arith, some) in
    ap (λ n. united (range_with_len 0 n) []) all ∙ united_none (range_with_len 0 count) (range_rises 0 count)

pub one_key : (key : ℕ) → united (range_with_len key (key + 1 - key)) [] ≡ key ∷ []
one_key key = let one : key + 1 - key ≡ 1 = omega arith in ap (λ n. united (range_with_len key n) []) one
