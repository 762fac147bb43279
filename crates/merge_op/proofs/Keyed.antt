-- Keys that are put behind others, range by range.
use Rattle.std.proofs.Common.{◌≡◌, refl, ap, ap₂, sym, ◌∙◌, subst, ℕ, zero, suc, ◌+◌, ◌-◌, ◌<◌, ◌≤◌, ◌^◌, arith, List, ◌∷◌, ◌++◌, map, append_assoc}
use Rattle.std.{specs.List.{AllByRecursion, range_with_len}, proofs.lemmas.List.{append-nil, map-append}}
use Rattle.key_lists.{specs.Keys.IsRising, proofs.Every.{every, every_unmapped, every-map}, proofs.Rising.{rising-append, rising-plus}, proofs.Parts.{every_back, every_front}}
use Rattle.row_set.{specs.declared.ranges.Range.Range, specs.Ranges.{keys_from, keys_in, keys_of}, specs.Sets.united, proofs.Windows.rising_front}
use Rattle.shift_data.proofs.Applied.{united_past}

abbrev pub plus : ℕ → List ℕ → List ℕ
plus offset = map (λ key. key + offset)

range_plus : (offset first count : ℕ) → range_with_len (first + offset) count ≡ plus offset (range_with_len first count)
range_plus offset first zero = refl
range_plus offset first (suc count) = ap (λ rest. (first + offset) ∷ rest) (ap (λ n. range_with_len n count) (let same : first + offset + 1 ≡ first + 1 + offset = omega arith in same) ∙ range_plus offset (first + 1) count)

from_plus : (offset first last : ℕ) → keys_from (first + offset) (last + offset) ≡ plus offset (keys_from first last)
from_plus offset first last = ap (range_with_len (first + offset)) (let same : last + offset + 1 - (first + offset) ≡ last + 1 - first = omega arith in same) ∙ range_plus offset first (last + 1 - first)

-- all keys together still rise
pub whole_rises : (offset : ℕ) (all more : List ℕ) → IsRising all → AllByRecursion (λ key. key < offset) all → IsRising more → IsRising (all ++ plus offset more)
whole_rises offset all more r below s = rising-append offset all (plus offset more) below (every-map (λ key. offset ≤ key) (λ key. key + offset) more (every (λ key. offset ≤ key + offset) more (λ key. omega arith))) r (rising-plus offset more s)

pub put_next : (offset : ℕ) (whole all new : List ℕ) (range : Range) (rest : List Range) → IsRising whole → all ++ plus offset (keys_of (range ∷ rest)) ≡ whole → new ≡ united (keys_from (range.first + offset) (range.last + offset)) all → new ++ plus offset (keys_of rest) ≡ whole
put_next offset whole all new range rest r is new_is =
    ap (λ ks. ks ++ plus offset (keys_of rest)) (new_is ∙ ap (λ ks. united ks all) (from_plus offset range.first range.last) ∙ united_past (plus offset (keys_in range)) all (rising_front (all ++ plus offset (keys_in range)) (plus offset (keys_of rest)) (subst IsRising (sym parted) r)))
    ∙ parted
  where
    parted : (all ++ plus offset (keys_in range)) ++ plus offset (keys_of rest) ≡ whole
    parted = append_assoc all (plus offset (keys_in range)) (plus offset (keys_of rest)) ∙ ap (λ ks. all ++ ks) (sym (map-append (λ key. key + offset) (keys_in range) (keys_of rest))) ∙ is

-- the last key of a range is one of its keys
last_in : (P : ℕ → Type 0) (first count : ℕ) → AllByRecursion P (range_with_len first (suc count)) → P (first + count)
last_in P first zero h = subst P (let same : first ≡ first + 0 = omega arith in same) h.0
last_in P first (suc count) h = subst P (let same : first + 1 + count ≡ first + suc count = omega arith in same) (last_in P (first + 1) count h.1)

pub last_small : (P : ℕ → Type 0) (range : Range) (rest : List Range) → range.first ≤ range.last → AllByRecursion P (keys_of (range ∷ rest)) → P range.last
last_small P range rest order h =
    subst P (let same : range.first + (range.last - range.first) ≡ range.last = omega (arith, order) in same)
    (last_in P range.first (range.last - range.first)
    (subst (λ n. AllByRecursion P (range_with_len range.first n)) (let same : range.last + 1 - range.first ≡ suc (range.last - range.first) = omega (arith, order) in same) (every_front P (keys_in range) (keys_of rest) h)))

pub rest_small : (P : ℕ → Type 0) (range : Range) (rest : List Range) → AllByRecursion P (keys_of (range ∷ rest)) → AllByRecursion P (keys_of rest)
rest_small P range rest h = every_back P (keys_in range) (keys_of rest) h

-- what has been put, where some ranges are still to come
pub record IsPut (offset : ℕ) (rest : List Range) (whole all : List ℕ) : Type 0 where
  pub whole_is : all ++ plus offset (keys_of rest) ≡ whole
  pub small : AllByRecursion (λ key. key + offset < 2 ^ 62) (keys_of rest)
