use Rattle.std.proofs.Common.{◌≡◌, ℕ, List, [], ◌∷◌, ◌++◌, length}
use Rattle.std.{specs.Prelude.flat_map, specs.List.AllByRecursion}
use Rattle.key_lists.specs.Keys.{IsRising}
use Rattle.tick_model.{specs.declared.table.PlainRow.PlainRow, specs.LawfulRuns.AreTexts, specs.Tables.keys, specs.Texts.row_record}
use Rattle.update_text.specs.Reading.{AreAhead, IsToldRow}
use Rattle.update_text.proofs.read_rows.read_rows.Given as goal

-- the rows so far, and those that are still to come of rows that are told
abbrev pub invariant-loop-fields : goal.invariant-loop-fields
invariant-loop-fields l = record {
  rows : (rows : List PlainRow) × (l.keys ≡ keys rows) × (l.cells.items ≡ l.fn.cells.items ++ flat_map (λ row. row.cells) rows) × AllByRecursion (IsToldRow l.columns l.texts) rows;
  told :
      (rows : List PlainRow) (rest : List ℕ) → AreTexts l.texts → IsRising (keys rows) →
      AreAhead (row_record (l.tag ∷ []) l.texts l.columns) (IsToldRow l.columns l.texts) l.tag rows rest l.fn.bytes →
      (todo : List PlainRow) × AreAhead (row_record (l.tag ∷ []) l.texts l.columns) (IsToldRow l.columns l.texts) l.tag todo rest l.rest
      × (l.keys ++ keys todo ≡ keys rows) × (l.cells.items ++ flat_map (λ row. row.cells) todo ≡ l.fn.cells.items ++ flat_map (λ row. row.cells) rows);
}

abbrev pub decreases-loop-fields : goal.decreases-loop-fields
decreases-loop-fields l = length l.rest
