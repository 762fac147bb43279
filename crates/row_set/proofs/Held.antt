-- The keys that ranges hold.
use Rattle.std.proofs.Common.{◌≡◌, refl, ap, sym, ◌∙◌, true, false, ◌||◌, ◌==◌, ℕ, zero, suc, ◌+◌, ◌-◌, ◌<◌, ◌≤◌, arith, List, [], ◌∷◌, ◌++◌, length, leb, ne_eqb, le-leb, inl, inr}
use Rattle.std.{specs.List.{AllByRecursion, list_any, range_with_len}, proofs.lemmas.Bool.{cases_lt, or_from, and_from, and_left, and_right, lt-leb}, proofs.lemmas.Grind.flat_map-append, proofs.lemmas.List.FromFn.length-range_with_len}
use Rattle.key_lists.{specs.Keys.{is_among, IsRising}, proofs.Every.every-append, proofs.Among.among-append, proofs.Ranges.{among_range, each_from}}
use Rattle.row_set.{specs.declared.ranges.Range.Range, specs.Ranges.{keys_from, keys_in, keys_of, holds}}

-- what holds of the numbers from first on
pub each_between : (P : ℕ → Type 0) (first last : ℕ) → ((key : ℕ) → first ≤ key → key ≤ last → P key) → AllByRecursion P (keys_from first last)
each_between P first last h = each_from P first (last + 1 - first) (λ key above below. h key above (omega arith))

pub range_rises : (first count : ℕ) → IsRising (range_with_len first count)
range_rises first zero = tt
range_rises first (suc count) = (each_from (λ key. first < key) (first + 1) count (λ key above below. omega arith), range_rises (first + 1) count)

-- which keys are among them
among_outside : (key first count : ℕ) → ((first ≤ key → key < first + count → ⊥)) → is_among key (range_with_len first count) ≡ false
among_outside key first zero h = refl
among_outside key first (suc count) h =
    or_from (first == key) (is_among key (range_with_len (first + 1) count))
    (ne_eqb first key (λ same. h (omega arith) (omega arith)))
    (among_outside key (first + 1) count (λ above below. h (omega arith) (omega arith)))

pub holds-true : (key : ℕ) (range : Range) → range.first ≤ key → key ≤ range.last → holds key range ≡ true
holds-true key range above below = and_from (leb range.first key) (leb key range.last) (le-leb range.first key above) (le-leb key range.last below)

pub holds_before : (key : ℕ) (range : Range) → key < range.first → holds key range ≡ false
holds_before key range below = and_left (leb range.first key) (leb key range.last) (lt-leb range.first key below)

pub holds_after : (key : ℕ) (range : Range) → range.last < key → holds key range ≡ false
holds_after key range above = and_right (leb range.first key) (leb key range.last) (lt-leb key range.last above)

pub among-in : (key : ℕ) (range : Range) → is_among key (keys_in range) ≡ holds key range
among-in key range =
    elim (cases_lt key range.first) [
      | inl before ↦ among_outside key range.first (range.last + 1 - range.first) (λ above below. omega arith) ∙ sym (holds_before key range before)
      | inr above ↦
          elim (cases_lt range.last key) [
            | inl after ↦ among_outside key range.first (range.last + 1 - range.first) (λ above below. omega arith) ∙ sym (holds_after key range after)
            | inr below ↦ among_range key range.first (range.last + 1 - range.first) above (omega arith) ∙ sym (holds-true key range above below)
          ]
    ]

pub among-keys : (key : ℕ) (ranges : List Range) → is_among key (keys_of ranges) ≡ list_any (holds key) ranges
among-keys key [] = refl
among-keys key (range ∷ ranges) =
    among-append key (keys_in range) (keys_of ranges)
    ∙ ap (λ b. b || is_among key (keys_of ranges)) (among-in key range)
    ∙ ap (λ b. holds key range || b) (among-keys key ranges)

-- what holds of all keys of ranges
pub each_key : (P : ℕ → Type 0) (ranges : List Range) → AllByRecursion (λ range. (key : ℕ) → range.first ≤ key → key ≤ range.last → P key) ranges → AllByRecursion P (keys_of ranges)
each_key P [] h = tt
each_key P (range ∷ ranges) h = every-append P (keys_in range) (keys_of ranges) (each_between P range.first range.last h.0) (each_key P ranges h.1)

-- no range holds the key
pub none_before : (key : ℕ) (ranges : List Range) → AllByRecursion (λ range. range.last < key) ranges → list_any (holds key) ranges ≡ false
none_before key [] h = refl
none_before key (range ∷ ranges) h = or_from (holds key range) (list_any (holds key) ranges) (holds_after key range h.0) (none_before key ranges h.1)

pub none_after : (key : ℕ) (ranges : List Range) → AllByRecursion (λ range. key < range.first) ranges → list_any (holds key) ranges ≡ false
none_after key [] h = refl
none_after key (range ∷ ranges) h = or_from (holds key range) (list_any (holds key) ranges) (holds_before key range h.0) (none_after key ranges h.1)

pub keys_of-append : (xs ys : List Range) → keys_of (xs ++ ys) ≡ keys_of xs ++ keys_of ys
keys_of-append = flat_map-append keys_in

pub length-keys_in : (range : Range) → length (keys_in range) ≡ range.last + 1 - range.first
length-keys_in range = length-range_with_len range.first (range.last + 1 - range.first)
