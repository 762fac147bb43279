-- The entries of the rows of a table.
--     entry_of by row      a row's cells in the sort columns, and its key
--     entries_of by rows      the entries of rows, in order
use Rattle.std.specs.Prelude.{List, map, ℤ}
use Rattle.tick_model.{specs.declared.plan.SortBy.SortBy, specs.declared.table.PlainRow.PlainRow, specs.Sort.in_order, specs.Tables.cell}
use Rattle.sort_op.specs.declared.entry.Entry.{Entry}

abbrev pub sort_cells : List SortBy → List ℤ → List ℤ
sort_cells by cells = map (λ sort. cell cells sort.column) by

abbrev pub entry_of : List SortBy → PlainRow → Entry
entry_of by row = record { cells = sort_cells by row.cells; key = row.key }

abbrev pub entries_of : List SortBy → List PlainRow → List Entry
entries_of by rows = map (entry_of by) (in_order by rows)
