-- What made runs begin with: their tables and their texts.
--     opening      trades has no rows, and ref has one for each of eight symbols
--     texts      the symbols S0 to S7, and the sectors `even` and `odd`
use Rattle.std.{specs.Prelude.{ℕ, ◌+◌, ◌%◌, ◌==◌, List, [], ◌∷◌, ◌++◌, map, pos, codes, if◌then◌else◌}, specs.List.range_with_len}
use Rattle.tick_model.{specs.declared.table.PlainRow.PlainRow, specs.declared.table.PlainTable.PlainTable}

-- the ranks of the sectors stand behind those of the symbols
abbrev pub sector : ℕ → ℕ
sector symbol = if symbol % 2 == 0 then 8 else 9

abbrev pub ref_row : ℕ → PlainRow
ref_row symbol = record { key = symbol; cells = pos symbol ∷ pos (sector symbol) ∷ pos 100 ∷ [] }

abbrev pub trades_table : PlainTable
trades_table = record { width = 4; rows = [] }

abbrev pub ref_table : PlainTable
ref_table = record { width = 3; rows = map ref_row (range_with_len 0 8) }

abbrev pub opening : List PlainTable
opening = trades_table ∷ ref_table ∷ []

abbrev pub texts : List (List ℕ)
texts =
    codes "S0" ∷ codes "S1" ∷ codes "S2" ∷ codes "S3" ∷ codes "S4" ∷ codes "S5" ∷ codes "S6" ∷ codes "S7" ∷ codes "even" ∷ codes "odd" ∷ []
