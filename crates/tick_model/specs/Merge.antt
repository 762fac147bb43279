-- The rows of each input in turn, in regions of their own.
use Rattle.std.specs.Prelude.{ℕ, ◌+◌, ◌*◌, ◌/◌, List, [], ◌∷◌, ◌++◌, Option, Some, None, map, fold, sum_by, length, nat_lt, if◌then◌else◌}
use Rattle.tick_model.{specs.declared.table.NodeFault.NodeFault, specs.declared.table.NodeFault.TheVariants.TooManyRows, specs.declared.table.PlainRow.PlainRow, specs.declared.table.PlainTable.PlainTable, specs.declared.update.KeyPair.KeyPair, specs.Updates.Tick}

-- the key of the last row, or 0
abbrev pub last_key : List PlainRow → ℕ
last_key rows = fold (λ _ row. row.key) 0 rows

-- the least positive multiple of 65536 that is greater than the last key
abbrev pub region : PlainTable → ℕ
region table = 65536 * (last_key table.rows / 65536 + 1)

abbrev pub row_from : ℕ → PlainRow → PlainRow
row_from offset row = record row { key = row.key + offset }

abbrev pub merged_rows : ℕ → List PlainTable → List PlainRow
merged_rows offset [] = []
merged_rows offset (input ∷ inputs) = map (row_from offset) input.rows ++ merged_rows (offset + region input) inputs

abbrev pub width_of : List PlainTable → ℕ
width_of [] = 0
width_of (input ∷ inputs) = input.width

abbrev pub merge_table : List PlainTable → PlainTable
merge_table inputs = record { width = width_of inputs; rows = merged_rows 0 inputs }

abbrev pub merge_fault : List PlainTable → Option NodeFault
merge_fault inputs = let count = sum_by (λ input. length input.rows) inputs in if nat_lt 4194304 count then Some (TooManyRows count) else None

abbrev pub pair_from : ℕ → ℕ → KeyPair → KeyPair
pair_from old new pair = record { old = pair.old + old; new = pair.new + new }

abbrev pub merged_pairs : ℕ → ℕ → List Tick → List KeyPair
merged_pairs old new [] = []
merged_pairs old new (input ∷ inputs) = map (pair_from old new) input.kept ++ merged_pairs (old + region input.old) (new + region input.new) inputs

abbrev pub merge_pairs : List Tick → List KeyPair
merge_pairs = merged_pairs 0 0
