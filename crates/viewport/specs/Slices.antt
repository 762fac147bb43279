-- What a slice shows of a table.
--     cut slice table      the rows at its positions, with its columns alone
--     slice_in version last slice table      what the last message left, or the slice of the table now
--     narrowed columns table      all rows, with these columns alone
--     IsSlice width slice      one that may be asked of a table of this width
use Rattle.std.{specs.Prelude.{ℕ, ◌<◌, ◌≤◌, List, length, map}, specs.List.AllByRecursion}
use Rattle.key_lists.specs.Keys.{IsRising}
use Rattle.tick_model.{specs.declared.table.PlainTable.PlainTable, specs.Slices.{chosen_cells, slice}}
use Rattle.tick_table.{specs.declared.version.Version.Version, specs.declared.version.Version.TheVariants.{Before, Now}}
use Rattle.viewport.specs.declared.slice.Slice.{Slice}

abbrev pub cut : Slice → PlainTable → PlainTable
cut asked = slice asked.first asked.count asked.columns

abbrev pub slice_in : Version → PlainTable → Slice → PlainTable → PlainTable
slice_in Before last asked table = last
slice_in Now last asked table = cut asked table

abbrev pub narrowed : List ℕ → PlainTable → PlainTable
narrowed columns table = record { width = length columns; rows = map (chosen_cells columns) table.rows }

-- the columns are columns of a table of this width
abbrev pub AreColumns : ℕ → List ℕ → Type 0
AreColumns width = AllByRecursion (λ column. column < width)

pub record IsSlice (width : ℕ) (asked : Slice) : Type 0 where
  pub first : asked.first < 4194304
  pub some_rows : 1 ≤ asked.count
  pub few_rows : asked.count ≤ 4194304
  pub some_columns : 1 ≤ length asked.columns
  pub rising : IsRising asked.columns
  pub columns : AreColumns width asked.columns
