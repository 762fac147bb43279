-- The change from one table to another.
--     between tick      the update between the old and the new table of a tick
--     carry old update cells      the table that an update makes of an old one, where cells has the new rows
--     pairs old update      the pairs that an update keeps
use Rattle.std.{specs.Prelude.{◌≡◌, ℕ, ◌&&◌, Bool, not, List, [], ◌∷◌, ◌++◌, map, filter, nat_lt, if◌then◌else◌, IsTrue, unwrap_or}, specs.List.{list_any, AllByRecursion, range_with_len}, specs.Ordering.int_eq}
use Rattle.tick_model.{specs.declared.table.PlainRow.PlainRow, specs.declared.table.PlainTable.PlainTable, specs.declared.update.ShiftRange.ShiftRange, specs.declared.update.KeyPair.KeyPair, specs.Tables.{cell, same_cells, keys, row_at, cells_at, IsTable}, specs.Shifts.{moved, as_key, shifted}}
use Rattle.key_lists.specs.Keys.{is_among, IsRising, without}

-- an old and a new table, and the rows that stay
pub record Tick : Type 0 where
  pub old : PlainTable
  pub new : PlainTable
  pub kept : List KeyPair

abbrev pub old_keys : List KeyPair → List ℕ
old_keys = map (λ pair. pair.old)

abbrev pub new_keys : List KeyPair → List ℕ
new_keys = map (λ pair. pair.new)

pub record IsTick (tick : Tick) : Type 0 where
  pub old_table : IsTable tick.old
  pub new_table : IsTable tick.new
  pub one_width : tick.new.width ≡ tick.old.width
  pub of_old : AllByRecursion (λ key. IsTrue (is_among key (keys tick.old.rows))) (old_keys tick.kept)
  pub of_new : AllByRecursion (λ key. IsTrue (is_among key (keys tick.new.rows))) (new_keys tick.kept)
  pub rising_old : IsRising (old_keys tick.kept)
  pub rising_new : IsRising (new_keys tick.kept)

pub record Update : Type 0 where
  pub removed : List ℕ
  pub added : List ℕ
  pub modified : List ℕ
  pub shifted : List ShiftRange
  pub columns : List ℕ

-- whether the two rows of a pair differ, at all and in a column
abbrev pub differs : PlainTable → PlainTable → KeyPair → Bool
differs old new pair = not (same_cells (cells_at pair.old old.rows) (cells_at pair.new new.rows))

abbrev pub differs_in : PlainTable → PlainTable → ℕ → KeyPair → Bool
differs_in old new column pair = not (int_eq (cell (cells_at pair.old old.rows) column) (cell (cells_at pair.new new.rows) column))

-- the update between the tables of a tick
abbrev pub between : Tick → Update
between tick = record {
  removed = without (old_keys tick.kept) (keys tick.old.rows);
  added = without (new_keys tick.kept) (keys tick.new.rows);
  modified = new_keys (filter (differs tick.old tick.new) tick.kept);
  shifted = shifted tick.kept;
  columns = filter (λ column. list_any (differs_in tick.old tick.new column) tick.kept) (range_with_len 0 tick.new.width);
}

-- the row among others in order of their keys
abbrev pub insert_row : PlainRow → List PlainRow → List PlainRow
insert_row row [] = row ∷ []
insert_row row (other ∷ others) = if nat_lt row.key other.key then row ∷ other ∷ others else other ∷ insert_row row others

-- the four edits of an update: remove, shift, add, modify
abbrev pub removing : List ℕ → List PlainRow → List PlainRow
removing removed = filter (λ row. not (is_among row.key removed))

abbrev pub moved_row : List ShiftRange → PlainRow → PlainRow
moved_row shifts row = record row { key = as_key (moved shifts row.key) }

abbrev pub shifting : List ShiftRange → List PlainRow → List PlainRow
shifting shifts = map (moved_row shifts)

abbrev pub adding : List PlainRow → List PlainRow → List PlainRow
adding [] rows = rows
adding (row ∷ added) rows = insert_row row (adding added rows)

abbrev pub modifying : List PlainRow → List PlainRow → List PlainRow
modifying modified = map (λ row. unwrap_or (row_at row.key modified) row)

-- the rows whose keys are among these
abbrev pub rows_at : List ℕ → List PlainRow → List PlainRow
rows_at these = filter (λ row. is_among row.key these)

abbrev pub carry : PlainTable → Update → List PlainRow → PlainTable
carry old update cells = record old {
  rows = modifying (rows_at update.modified cells) (adding (rows_at update.added cells) (shifting update.shifted (removing update.removed old.rows)));
}

-- the pairs of the keys that an update keeps
abbrev pub kept_pair : Update → ℕ → KeyPair
kept_pair update key = record { old = key; new = as_key (moved update.shifted key) }

abbrev pub pairs : PlainTable → Update → List KeyPair
pairs old update = map (kept_pair update) (without update.removed (keys old.rows))

-- the pairs of which both rows are in the results
abbrev pub both_in : PlainTable → PlainTable → List KeyPair → List KeyPair
both_in old new = filter (λ pair. is_among pair.old (keys old.rows) && is_among pair.new (keys new.rows))

-- the new rows that an update tells
abbrev pub told : Tick → List PlainRow
told tick = let update = between tick in rows_at (update.added ++ update.modified) tick.new.rows
