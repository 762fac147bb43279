-- A source through the blocks of a step.
--     Stepping      the table before the step, the update so far, and rows that blocks have told, under their keys now
--     now_of step      the table as the blocks so far have left it
--     step_in version step      the table before the step, or that one
--     ticked step      the tick from the table before the step to that one
--     Stands tick step      the step is that of a tick
--     told_after told block      the told rows after a block
--     update_after old update next      the update so far and then the next one, of a table with the old keys
--     stepped step block      the step after a block
use Rattle.std.{specs.Prelude.{◌≡◌, ℕ, false, true, List, [], ◌∷◌, map, find, flat_map, if◌then◌else◌, Option, ℤ, option_map, unwrap_or}, specs.List.AllByRecursion, specs.Option.option_or}
use Rattle.key_lists.specs.Keys.{is_among, IsRising, without}
use Rattle.row_changes.specs.Parts.{Parts}
use Rattle.shift_data.specs.Moves.{canonical}
use Rattle.table_update.{specs.Coalesced.coalesced, specs.Kept.old_modified}
use Rattle.tick_laws.specs.Checked.{keys_after}
use Rattle.tick_table.{specs.declared.version.Version.Version, specs.declared.version.Version.TheVariants.{Before, Now}, specs.Placed.put_rows}
use Rattle.tick_model.{specs.declared.feed.Block.Block, specs.declared.table.PlainRow.PlainRow, specs.declared.table.PlainTable.PlainTable, specs.Changes.{is_empty, told_keys}, specs.Shifts.{as_key, moved}, specs.Sources.{keys_within, update_of}, specs.Tables.{cells_at, keys, row_at}, specs.Updates.{IsTick, Tick, Update, between, new_keys, pairs, removing, shifting}}

pub record Stepping : Type 0 where
  pub old : PlainTable
  pub update : Update
  pub told : List PlainRow

-- the key before the step of a row that stays
abbrev pub key_before : Stepping → ℕ → Option ℕ
key_before step key = find (λ old. is_among (as_key (moved step.update.shifted old)) (key ∷ [])) (without step.update.removed (keys step.old.rows))

-- the told cells, or those of before where none are told
abbrev pub cells_now : Stepping → ℕ → List ℤ
cells_now step key =
    unwrap_or (option_or (option_map (λ row. row.cells) (row_at key step.told)) (option_map (λ old. cells_at old step.old.rows) (key_before step key))) []

abbrev pub row_now : Stepping → ℕ → PlainRow
row_now step key = record { key = key; cells = cells_now step key }

abbrev pub now_of : Stepping → PlainTable
now_of step = record step.old { rows = map (row_now step) (keys_after (keys step.old.rows) step.update) }

abbrev pub step_in : Version → Stepping → PlainTable
step_in Before step = step.old
step_in Now step = now_of step

abbrev pub ticked : Stepping → Tick
ticked step = record { old = step.old; new = now_of step; kept = pairs step.old step.update }

-- the step is that of a tick: its update has the parts of the tick's, and names all rows that may differ; the rows that it
-- tells are rows of now, and among them are all that came or may differ
pub record Stands (tick : Tick) (step : Stepping) : Type 0 where
  pub is_tick : IsTick tick
  pub old : step.old ≡ tick.old
  pub removed : step.update.removed ≡ (between tick).removed
  pub added : step.update.added ≡ (between tick).added
  pub shifted : step.update.shifted ≡ (between tick).shifted
  pub modified_rise : IsRising step.update.modified
  pub modified_stay : AllByRecursion (λ key. is_among key (new_keys tick.kept) ≡ true) step.update.modified
  pub others : AllByRecursion (λ pair. is_among pair.new step.update.modified ≡ false → cells_at pair.old tick.old.rows ≡ cells_at pair.new tick.new.rows) tick.kept
  pub told_rise : IsRising (keys step.told)
  pub told_there : AllByRecursion (λ key. is_among key (keys tick.new.rows) ≡ true) (keys step.told)
  pub told_same : AllByRecursion (λ key. cells_at key step.told ≡ cells_at key tick.new.rows) (keys step.told)
  pub all_told : AllByRecursion (λ key. is_among key (keys step.told) ≡ true) (told_keys step.update)

abbrev pub IsStepping : Stepping → Type 0
IsStepping step = Stands (ticked step) step

abbrev pub told_after : List PlainRow → Block → List PlainRow
told_after told block = put_rows block.modified (put_rows block.added (shifting block.shifts (removing (flat_map keys_within block.removed) told)))

-- the first update of a step that changes a table at all, with the longest ranges of the rows that move
abbrev pub first_update : List ℕ → Update → Update
first_update old next = record next { shifted = canonical next.shifted (without next.removed old) }

abbrev pub update_after : List ℕ → Update → Update → Update
update_after old update next = if is_empty update then first_update old next else coalesced old update next

abbrev pub stepped : Stepping → Block → Stepping
stepped step block = record step {
  update = update_after (keys step.old.rows) step.update (update_of block);
  told = told_after step.told block;
}

-- the rows that the blocks have touched
abbrev pub touched_by : Stepping → Parts
touched_by step = record {
  removed = step.update.removed;
  added = step.update.added;
  shifted = step.update.shifted;
  compared_before = old_modified (keys step.old.rows) step.update;
  compared_now = step.update.modified;
}
