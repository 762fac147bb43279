-- Cells that are read one behind the other, in which texts have numbers.
--     AreRead columns before after all cells      a row's cells are read behind the others, or not all of its fields spell one
use Rattle.std.{specs.Prelude.{◌≡◌, ◌++◌, Bool, true, false, List, Option, Some, None, ℤ, length, flat_map}, specs.List.{AllByRecursion, zip}}
use Rattle.tick_model.specs.declared.plan.ColumnSpec.{ColumnSpec}
use Rattle.feed_reader.{specs.declared.cells.ReadCells.ReadCells, specs.declared.raw.RawCell.RawCell, specs.Cells.kinds_in, specs.Raw.{cell_texts, raw_cells, Grows, IsNumber}}

pub record Reads (columns : List ColumnSpec) (before after : ReadCells) (cells : List RawCell) (own : List ℤ) : Type 0 where
  pub behind : after.cells.items ≡ before.cells.items ++ own
  pub whole : length own ≡ length columns
  pub numbers : AllByRecursion (IsNumber (length after.texts)) (zip (kinds_in columns) own)
  pub cells_are : raw_cells after.texts (kinds_in columns) own ≡ cells
  pub grows : Grows before.texts after.texts (flat_map cell_texts cells)

abbrev pub AreRead : List ColumnSpec → ReadCells → ReadCells → Bool → Option (List RawCell) → Type 0
AreRead columns before after all None = all ≡ false
AreRead columns before after all (Some cells) = (all ≡ true) × ((own : List ℤ) × Reads columns before after cells own)
