-- Lists of ranges with a gap in them, at which they are edited from the least key on.
--     IsGap gap ranges      the gap lies in the list
--     around gap ranges      the ranges before the gap, and then those after it
--     listed range      the range, if there is one
--     ArePassed ranges others      the ranges end, with a key to spare, before the first of the others begins
use Rattle.std.{specs.Prelude.{◌+◌, ◌≤◌, List, [], ◌∷◌, ◌++◌, length, take, drop, Option, None, Some}, specs.List.AllByRecursion}
use Rattle.row_set.{specs.declared.ranges.Range.Range, specs.declared.gaps.Gap.Gap}

pub record IsGap (gap : Gap) (ranges : List Range) : Type 0 where
  pub order : gap.start ≤ gap.end
  pub within : gap.end ≤ length ranges

abbrev pub around : Gap → List Range → List Range
around gap ranges = take gap.start ranges ++ drop gap.end ranges

abbrev pub listed : Option Range → List Range
listed None = []
listed (Some range) = range ∷ []

abbrev pub ArePassed : List Range → List Range → Type 0
ArePassed ranges [] = Unit {0}
ArePassed ranges (other ∷ others) = AllByRecursion (λ range. range.last + 2 ≤ other.first) ranges
