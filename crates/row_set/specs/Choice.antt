-- The keys that a choice takes of two sets.
--     takes choice in_first in_second      whether it takes a key that is in the two sets or not
--     chosen choice keys others      the keys that it takes
--     AreAhead at ranges      the ranges are apart, and none ends before at
use Rattle.std.specs.Prelude.{ℕ, ◌≤◌, Bool, ◌&&◌, ◌||◌, not, List, [], ◌∷◌}
use Rattle.key_lists.specs.Keys.{without}
use Rattle.row_set.{specs.declared.ranges.Range.Range, specs.declared.algebra.SetOperation.SetOperation, specs.declared.algebra.SetOperation.TheVariants.{Either, FirstAlone, Both}, specs.Ranges.AreApart, specs.Sets.{united, common}}

abbrev pub takes : SetOperation → Bool → Bool → Bool
takes Either in_first in_second = in_first || in_second
takes FirstAlone in_first in_second = in_first && not in_second
takes Both in_first in_second = in_first && in_second

abbrev pub chosen : SetOperation → List ℕ → List ℕ → List ℕ
chosen Either keys others = united keys others
chosen FirstAlone keys others = without others keys
chosen Both keys others = common keys others

abbrev pub AreAhead : ℕ → List Range → Type 0
AreAhead at [] = Unit {0}
AreAhead at (range ∷ ranges) = (at ≤ range.last) × AreApart 0 (range ∷ ranges)
