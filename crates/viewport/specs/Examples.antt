-- A table of one column whose largest cells come first, over two steps.
--     arrival      the step to which two rows come
--     insertion      the step to which a row comes between them, so that the last one moves
--     first_two      the first two rows
--     adding_of added shifted cells      a change that adds rows and moves others
use Rattle.std.specs.Prelude.{ℕ, List, [], ◌∷◌, ℤ, pos}
use Rattle.tick_model.{specs.declared.table.PlainRow.PlainRow, specs.declared.table.PlainTable.PlainTable, specs.declared.update.KeyPair.KeyPair, specs.declared.update.ShiftRange.ShiftRange, specs.Changes.Change, specs.Updates.Tick}
use Rattle.viewport.specs.declared.slice.Slice.{Slice}

abbrev pub row : ℕ → ℕ → PlainRow
row key number = record { key = key; cells = pos number ∷ [] }

abbrev pub of_one_column : List PlainRow → PlainTable
of_one_column rows = record { width = 1; rows = rows }

abbrev pub pair : ℕ → ℕ → KeyPair
pair old new = record { old = old; new = new }

abbrev pub two_rows : PlainTable
two_rows = of_one_column (row 0 20 ∷ row 1 5 ∷ [])

abbrev pub three_rows : PlainTable
three_rows = of_one_column (row 0 20 ∷ row 1 10 ∷ row 2 5 ∷ [])

abbrev pub arrival : Tick
arrival = record { old = of_one_column []; new = two_rows; kept = [] }

abbrev pub insertion : Tick
insertion = record { old = two_rows; new = three_rows; kept = pair 0 0 ∷ pair 1 2 ∷ [] }

abbrev pub first_two : Slice
first_two = record { first = 0; count = 2; columns = 0 ∷ [] }

abbrev pub adding_of : List ℕ → List ShiftRange → List ℤ → Change
adding_of added shifted cells = record { update = record { removed = []; added = added; modified = []; shifted = shifted; columns = [] }; cells = cells }
