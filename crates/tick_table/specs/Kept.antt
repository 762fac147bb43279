-- What a ticking table keeps.
--     cells_before rows placed update key      the cells that the row under a key had before the step
--     shown rows before placed update      the table now and before, with the update
--     IsKept rows before placed update told      the keys now and before, the cells, the last update and what it tells belong together
use Rattle.std.{specs.Prelude.{◌≡◌, ℕ, ◌*◌, ◌^◌, ◌≤◌, List, None, length, map, if◌then◌else◌, ℤ}, specs.List.AllByRecursion}
use Rattle.key_lists.specs.Keys.{is_among}
use Rattle.tick_laws.specs.Checked.{keys_after}
use Rattle.tick_model.{specs.declared.table.PlainRow.PlainRow, specs.declared.table.PlainTable.PlainTable, specs.Changes.{rows_under, told_keys}, specs.Rules.update_fault, specs.Shifts.{as_key, moved}, specs.Tables.{IsTable, cells_at}, specs.Updates.Update}
use Rattle.tick_table.{specs.Placed.{Placed, paired}, specs.Ticking.Ticking}

abbrev pub table_now : List ℕ → Placed → PlainTable
table_now rows placed = record { width = placed.width; rows = paired rows placed.rows }

-- those of a row that left, those that a modified row had, or else those of the row now
abbrev pub cells_before : List ℕ → Placed → Update → ℕ → List ℤ
cells_before rows placed update key =
    let now = as_key (moved update.shifted key) in
    if is_among key update.removed then cells_at key (paired update.removed placed.left)
    else (if is_among now update.modified then cells_at now (rows_under placed.width update.modified placed.saved)
    else cells_at now (paired rows placed.rows))

abbrev pub row_before : List ℕ → Placed → Update → ℕ → PlainRow
row_before rows placed update key = record { key = key; cells = cells_before rows placed update key }

abbrev pub table_before : List ℕ → List ℕ → Placed → Update → PlainTable
table_before rows before placed update = record { width = placed.width; rows = map (row_before rows placed update) before }

abbrev pub shown : List ℕ → List ℕ → Placed → Update → Ticking
shown rows before placed update = record { old = table_before rows before placed update; new = table_now rows placed; update = update }

pub record IsKept (rows before : List ℕ) (placed : Placed) (update : Update) (told : List ℤ) : Type 0 where
  pub some : 1 ≤ placed.width
  pub few : placed.width ≤ 32
  pub now_table : IsTable (table_now rows placed)
  pub before_table : IsTable (table_before rows before placed update)
  pub count : length placed.rows ≡ length rows
  pub left : length placed.left ≡ length update.removed
  pub saved : length placed.saved ≡ length update.modified * placed.width
  pub whole : length told ≡ length (told_keys update) * placed.width
  pub told_rows : AllByRecursion (λ row. cells_at row.key (paired rows placed.rows) ≡ row.cells) (rows_under placed.width (told_keys update) told)
  pub checked : update_fault (2 ^ 62) before update ≡ None
  pub after : rows ≡ keys_after before update
