-- Stretches of pairs that are put together from the left.
--     joined range ranges      the range before others, as one with the first of them where both move by one delta
--     led_by last ranges      the last range, if there is one, before others
--     built whole last ranges      the ranges that move, where others are still to come
use Rattle.std.{specs.Prelude.{List, [], ◌∷◌, ◌++◌, Option, Some, None, Bool, not, filter, pos, if◌then◌else◌}, specs.Ordering.int_eq}
use Rattle.tick_model.specs.declared.update.ShiftRange.{ShiftRange}

abbrev pub joined : ShiftRange → List ShiftRange → List ShiftRange
joined range [] = range ∷ []
joined range (next ∷ others) =
    if int_eq range.delta next.delta
    then (record next { begin = range.begin }) ∷ others
    else range ∷ next ∷ others

abbrev pub led_by : Option ShiftRange → List ShiftRange → List ShiftRange
led_by None ranges = ranges
led_by (Some range) ranges = joined range ranges

abbrev pub is_moving : ShiftRange → Bool
is_moving range = not (int_eq range.delta (pos 0))

abbrev pub built : List ShiftRange → Option ShiftRange → List ShiftRange → List ShiftRange
built whole last ranges = whole ++ filter is_moving (led_by last ranges)
