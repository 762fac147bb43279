-- The keys that are still to come: those that are left of the range at hand, and then those of the other ranges.
use Rattle.std.proofs.Common.{◌≡◌, ap, ◌∙◌, ℕ, suc, ◌+◌, ◌-◌, ◌<◌, ◌≤◌, arith, List, ◌∷◌, ◌++◌}
use Rattle.std.specs.List.{range_with_len}
use Rattle.row_set.{specs.declared.ranges.Range.Range, specs.Ranges.keys_of}

pub next_in_range : (next end : ℕ) (ranges : List Range) → next < end → range_with_len next (end - next) ++ keys_of ranges ≡ next ∷ (range_with_len (next + 1) (end - (next + 1)) ++ keys_of ranges)
next_in_range next end ranges h = let more : end - next ≡ suc (end - (next + 1)) = omega arith in ap (λ n. range_with_len next n ++ keys_of ranges) more

pub none_in_range : (next end : ℕ) (ranges : List Range) → end ≤ next → range_with_len next (end - next) ++ keys_of ranges ≡ keys_of ranges
none_in_range next end ranges h = let none : end - next ≡ 0 = omega arith in ap (λ n. range_with_len next n ++ keys_of ranges) none

pub next_range : (next end : ℕ) (range : Range) (others : List Range) → end ≤ next → range.first ≤ range.last
    → range_with_len next (end - next) ++ keys_of (range ∷ others) ≡ range.first ∷ (range_with_len (range.first + 1) (range.last + 1 - (range.first + 1)) ++ keys_of others)
next_range next end range others h ascends = none_in_range next end (range ∷ others) h ∙ next_in_range range.first (range.last + 1) others (omega arith)
