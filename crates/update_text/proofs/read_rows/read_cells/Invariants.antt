use Rattle.std.proofs.Common.{◌≡◌, ℕ, ℤ, List, ◌∷◌, ◌++◌, true, ◌≤◌, length, take, drop}
use Rattle.std.{specs.Prelude.FitsSigned, specs.Int.w64, specs.List.AllByRecursion}
use Rattle.tick_model.{specs.LawfulRuns.AreTexts, specs.Printable.fit_columns, specs.Texts.cell_texts}
use Rattle.update_text.specs.Reading.{next_fields}
use Rattle.update_text.proofs.read_rows.read_cells.Given as goal

-- the cells so far, and those that are still to come of a row that is told
abbrev pub invariant-loop-column : goal.invariant-loop-column
invariant-loop-column l = record {
  shorter : length l.rest ≤ length l.fn.bytes;
  row : (row : List ℤ) × (l.cells.items ≡ l.fn.cells.items ++ row) × (fit_columns (length l.texts) (take l.column-index l.columns) row ≡ true) × AllByRecursion (FitsSigned w64) row;
  told :
      (row : List ℤ) (rest : List ℕ) → AreTexts l.texts → AllByRecursion (FitsSigned w64) row → fit_columns (length l.texts) l.columns row ≡ true →
      l.fn.bytes ≡ next_fields (cell_texts l.texts l.columns row) rest →
      (todo : List ℤ) × (l.cells.items ++ todo ≡ l.fn.cells.items ++ row) × (fit_columns (length l.texts) (drop l.column-index l.columns) todo ≡ true) × AllByRecursion (FitsSigned w64) todo
      × (l.rest ≡ next_fields (cell_texts l.texts (drop l.column-index l.columns) todo) rest);
}
