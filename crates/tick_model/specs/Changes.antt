-- An update with the new rows that it tells, as cells in a row.
--     rows_under width keys cells      the rows under these keys, whose cells stand one after the other
--     change_of tick      the change between the tables of a tick: the cells are those of the added rows and then of the modified ones
--     changed table change      the table that a change makes
use Rattle.std.specs.Prelude.{ℕ, Bool, true, false, ◌&&◌, List, [], ◌∷◌, ◌++◌, take, drop, flat_map, ℤ}
use Rattle.tick_model.{specs.declared.table.PlainRow.PlainRow, specs.declared.table.PlainTable.PlainTable, specs.Tables.cells_at, specs.Updates.{Tick, Update, between, carry}}

pub record Change : Type 0 where
  pub update : Update
  pub cells : List ℤ

-- the keys of the rows that an update tells: the added rows, then the modified ones
abbrev pub told_keys : Update → List ℕ
told_keys update = update.added ++ update.modified

abbrev pub rows_under : ℕ → List ℕ → List ℤ → List PlainRow
rows_under width [] cells = []
rows_under width (key ∷ keys) cells = (record { key = key; cells = take width cells }) ∷ rows_under width keys (drop width cells)

abbrev pub told_cells : Tick → List ℤ
told_cells tick = flat_map (λ key. cells_at key tick.new.rows) (told_keys (between tick))

abbrev pub change_of : Tick → Change
change_of tick = record { update = between tick; cells = told_cells tick }

abbrev pub changed : PlainTable → Change → PlainTable
changed table change = carry table change.update (rows_under table.width (told_keys change.update) change.cells)

-- an update that removes, moves, adds and modifies nothing
abbrev pub is_none : {X : Type 0} → List X → Bool
is_none [] = true
is_none (x ∷ xs) = false

abbrev pub is_empty : Update → Bool
is_empty update = is_none update.removed && is_none update.added && is_none update.modified && is_none update.shifted
