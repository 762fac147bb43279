-- Running sums of cells that hold something.
--     total_of cells      their sum, and how many they are
--     sum_or_null total      the sum, or null where it is of no cells
--     plus value total, minus value total      one cell more, and one less
--     HasAny value total      any cell may be taken out
use Rattle.std.{specs.Prelude.{List, length, ℤ, pos, ◌+ℤ◌, ◌-ℤ◌, if◌then◌else◌}, specs.Ordering.int_eq}
use Rattle.agg_by.specs.declared.sums.Total.{Total}
use Rattle.row_changes.specs.Sums.{added_up}
use Rattle.tick_model.{specs.Formulas.wrap, specs.Tables.null}

abbrev pub no_total : Total
no_total = record { sum = pos 0; count = pos 0 }

abbrev pub total_of : List ℤ → Total
total_of cells = record { sum = wrap (added_up (λ value. value) cells); count = wrap (pos (length cells)) }

abbrev pub sum_or_null : Total → ℤ
sum_or_null total = if int_eq total.count (pos 0) then null else total.sum

abbrev pub plus : ℤ → Total → Total
plus value total = record { sum = wrap (total.sum +ℤ value); count = wrap (total.count +ℤ pos 1) }

abbrev pub minus : ℤ → Total → Total
minus value total = record { sum = wrap (total.sum -ℤ value); count = wrap (total.count -ℤ pos 1) }

abbrev pub HasAny : ℤ → Total → Type 0
HasAny value total = Unit {0}
