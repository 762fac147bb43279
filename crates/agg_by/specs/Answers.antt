-- What is kept for an aggregate, as it answers and as rows go and come.
--     answer running number group table      what is said of the group with a number, whose members and table these are
--     HasRow number row running      a row of the group with a number is among those that are answered
--     without_row number row running      a row of the group with a number goes
--     with_row number row running      a row comes into the group with a number
use Rattle.std.{specs.Prelude.{ℕ, ◌-◌, ◌<◌, List, [], Option, length, slice_get, ℤ, pos}, specs.Option.option_map_or}
use Rattle.agg_by.{specs.declared.running.Accumulator.Accumulator, specs.declared.running.Accumulator.TheVariants.{Count, Sum, Min, Max, First, Last}, specs.ByNumber.{IsHeld, changed_by}, specs.Sums.{HasAny, minus, no_total, plus, sum_or_null}, specs.Values.{IsAmong, greatest, least, opposite, placed, unplaced}}
use Rattle.row_groups.specs.Members.{Member, keys_of}
use Rattle.tick_model.{specs.Tables.{cell, cells_at, null}, specs.declared.table.PlainRow.PlainRow}

-- the cell of the row at a position of the group
abbrev pub cell_of : List PlainRow → ℕ → Option ℕ → ℤ
cell_of rows column key = option_map_or (λ key. cell (cells_at key rows) column) key null

abbrev pub answer : Accumulator → ℕ → List Member → List PlainRow → ℤ
answer Count number group rows = pos (length group)
answer (Sum column sums) number group rows = option_map_or sum_or_null (slice_get sums number) null
answer (Min column values) number group rows = option_map_or least (slice_get values number) null
answer (Max column values) number group rows = option_map_or greatest (slice_get values number) null
answer (First column) number group rows = cell_of rows column (slice_get (keys_of group) 0)
answer (Last column) number group rows = cell_of rows column (slice_get (keys_of group) (length group - 1))

-- the column that is read of first and last rows is the table's
abbrev pub IsWithin : ℕ → Accumulator → Type 0
IsWithin width Count = Unit {0}
IsWithin width (Sum column sums) = Unit {0}
IsWithin width (Min column values) = Unit {0}
IsWithin width (Max column values) = Unit {0}
IsWithin width (First column) = column < width
IsWithin width (Last column) = column < width

abbrev pub HasRow : ℕ → List ℤ → Accumulator → Type 0
HasRow number row Count = Unit {0}
HasRow number row (Sum column sums) = IsHeld no_total HasAny number (cell row column) sums
HasRow number row (Min column values) = IsHeld [] (λ value. IsAmong (opposite value)) number (cell row column) values
HasRow number row (Max column values) = IsHeld [] IsAmong number (cell row column) values
HasRow number row (First column) = Unit {0}
HasRow number row (Last column) = Unit {0}

abbrev pub without_row : ℕ → List ℤ → Accumulator → Accumulator
without_row number row Count = Count
without_row number row (Sum column sums) = Sum column (changed_by no_total minus number (cell row column) sums)
without_row number row (Min column values) = Min column (changed_by [] (λ value. unplaced (opposite value)) number (cell row column) values)
without_row number row (Max column values) = Max column (changed_by [] unplaced number (cell row column) values)
without_row number row (First column) = First column
without_row number row (Last column) = Last column

abbrev pub with_row : ℕ → List ℤ → Accumulator → Accumulator
with_row number row Count = Count
with_row number row (Sum column sums) = Sum column (changed_by no_total plus number (cell row column) sums)
with_row number row (Min column values) = Min column (changed_by [] (λ value. placed (opposite value)) number (cell row column) values)
with_row number row (Max column values) = Max column (changed_by [] placed number (cell row column) values)
with_row number row (First column) = First column
with_row number row (Last column) = Last column
