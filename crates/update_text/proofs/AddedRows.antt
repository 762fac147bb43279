-- Rows under their keys.
use Rattle.std.proofs.Common.{◌≡◌, refl, ap, ◌∙◌, ℕ, List, [], ◌∷◌, length, drop}
use Rattle.std.{specs.Prelude.{ℤ, flat_map}, specs.List.AllByRecursion, proofs.lemmas.List.{take_at, drop_at}}
use Rattle.tick_model.{specs.declared.table.PlainRow.PlainRow, specs.Changes.rows_under, specs.Tables.keys}

abbrev all_cells : List PlainRow → List ℤ
all_cells = flat_map (λ row. row.cells)

-- whole rows are those under their keys with their cells in turn
pub rows_under-keys : (width : ℕ) (rows : List PlainRow) → AllByRecursion (λ row. length row.cells ≡ width) rows → rows_under width (keys rows) (all_cells rows) ≡ rows
rows_under-keys width [] h = refl
rows_under-keys width (row ∷ rows) h =
    ap (λ cells. let first : PlainRow = record { key = row.key; cells = cells } in first ∷ rows_under width (keys rows) (drop width (all_cells (row ∷ rows)))) (take_at row.cells (all_cells rows) width h.0)
    ∙ ap (λ cells. row ∷ rows_under width (keys rows) cells) (drop_at row.cells (all_cells rows) width h.0)
    ∙ ap (λ others. row ∷ others) (rows_under-keys width rows h.1)
