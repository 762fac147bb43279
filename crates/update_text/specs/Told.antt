-- The change that a ticking table tells, and its records.
--     told_change table      the last update of the table, with the new rows of what it adds and modifies
--     update_shown step shown texts table      the records of that change
--     parts_shown columns texts change      its records behind the first one
--     records_of update      how many records tell the changes of this update
--     range_record range      the record of a range of removed keys
use Rattle.std.specs.Prelude.{ℕ, ℤ, ◌+◌, ◌*◌, ◌++◌, List, codes, drop, flat_map, length, map, if◌then◌else◌}
use Rattle.key_lists.specs.Keys.{runs}
use Rattle.row_set.specs.declared.ranges.Range.{Range}
use Rattle.tick_model.{specs.declared.table.PlainRow.PlainRow, specs.declared.plan.ColumnSpec.ColumnSpec, specs.Changes.{Change, is_none, rows_under, told_keys}, specs.Tables.cells_at, specs.Texts.{change_records, columns_record, removed_record, row_record, shift_record}, specs.Updates.Update}
use Rattle.tick_table.specs.Ticking.{Ticking}
use Rattle.update_text.specs.declared.shown.Shown.{Shown}

-- the cells of the rows under these keys, one row after the other
abbrev pub cells_under : List PlainRow → List ℕ → List ℤ
cells_under rows = flat_map (λ key. cells_at key rows)

abbrev pub told_change : Ticking → Change
told_change table = record { update = table.update; cells = cells_under table.new.rows (told_keys table.update) }

-- an update with the cells of the rows that it tells
abbrev pub change_with : Update → List ℤ → Change
change_with update cells = record { update = update; cells = cells }

abbrev pub change_shown : ℕ → Shown → List (List ℕ) → Change → List (List (List ℕ))
change_shown step shown texts change = change_records step shown.name shown.columns texts change

abbrev pub update_shown : ℕ → Shown → List (List ℕ) → Ticking → List (List (List ℕ))
update_shown step shown texts table = change_shown step shown texts (told_change table)

abbrev pub range_record : Range → List (List ℕ)
range_record range = removed_record (range.first, range.last)

abbrev pub parts_shown : List ColumnSpec → List (List ℕ) → Change → List (List (List ℕ))
parts_shown columns texts change =
    let update = change.update in
    let width = length columns in
    map removed_record (runs update.removed)
    ++ map shift_record update.shifted
    ++ map (row_record (codes "a") texts columns) (rows_under width update.added change.cells)
    ++ columns_record columns update.columns
    ++ map (row_record (codes "m") texts columns) (rows_under width update.modified (drop (width * length update.added) change.cells))

-- one for the step, for each longest range of removed keys, for each shift range, for each row, and one for the columns if there are some
abbrev pub records_of : Update → ℕ
records_of update =
    1 + (length (runs update.removed) + length update.shifted) + (length update.added + length update.modified)
    + (if is_none update.columns then 0 else 1)
