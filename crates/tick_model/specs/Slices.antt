-- A range of positions of a table, and the messages that carry it from one step to another.
use Rattle.std.specs.Prelude.{ℕ, ◌+◌, zero, suc, List, map, take, drop, length}
use Rattle.tick_model.{specs.declared.feed.Run.Run, specs.declared.table.PlainRow.PlainRow, specs.declared.table.PlainTable.PlainTable, specs.Tables.{cell, keys}, specs.declared.update.KeyPair.KeyPair, specs.Shifts.composed, specs.Updates.{Tick, both_in}, specs.Evaluation.table_at, specs.Sources.{opened, same_key}, specs.States.{state, tick}}

abbrev pub chosen_cells : List ℕ → PlainRow → PlainRow
chosen_cells columns row = record row { cells = map (cell row.cells) columns }

-- the rows at the positions from the first on, with the chosen columns alone
abbrev pub slice : ℕ → ℕ → List ℕ → PlainTable → PlainTable
slice first count columns table = record { width = length columns; rows = map (chosen_cells columns) (take count (drop first table.rows)) }

-- the pairs that the steps after one keep of a node, over so many steps
abbrev pub kept_over : Run → ℕ → ℕ → ℕ → List KeyPair
kept_over run node step zero = map same_key (keys (table_at (state run step) node).rows)
kept_over run node step (suc more) = composed (kept_over run node step more) (tick run (step + suc more) node).kept

-- the tick from a slice at one step to the slice so many steps later
abbrev pub slice_tick : Run → ℕ → (PlainTable → PlainTable) → ℕ → ℕ → Tick
slice_tick run node cut step more =
    let old = cut (table_at (state run step) node) in
    let new = cut (table_at (state run (step + more)) node) in
    record { old = old; new = new; kept = both_in old new (kept_over run node step more) }

-- the tick of a first message
abbrev pub first_tick : Run → ℕ → (PlainTable → PlainTable) → ℕ → Tick
first_tick run node cut step = opened (cut (table_at (state run step) node))
