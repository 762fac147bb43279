-- Rows under their keys, with their cells one after the other.
use Rattle.std.proofs.Common.{◌≡◌, refl, ap, ◌∙◌, true, ℕ, ◌+◌, ◌*◌, ◌^◌, ◌<◌, arith, List, [], ◌∷◌, ◌++◌, length, length-drop, take, drop}
use Rattle.std.{specs.Prelude.{ℤ, flat_map, FitsSigned}, specs.Int.w64, specs.List.AllByRecursion, proofs.lemmas.List.{drop-drop, take-append-drop}}
use Rattle.key_lists.proofs.Parts.{every-take, every-drop}
use Rattle.tick_model.{specs.declared.plan.ColumnSpec.ColumnSpec, specs.declared.table.PlainRow.PlainRow, specs.Changes.rows_under, specs.Printable.fit_columns}
use Rattle.update_text.specs.Reading.{IsToldRow}

pub rows_under-append : (width : ℕ) (ks ls : List ℕ) (cells : List ℤ) →
    rows_under width (ks ++ ls) cells ≡ rows_under width ks cells ++ rows_under width ls (drop (width * length ks) cells)
rows_under-append width [] ls cells = let e : 0 ≡ width * 0 = omega arith in ap (λ k. rows_under width ls (drop k cells)) e
rows_under-append width (k ∷ ks) ls cells =
    let e : width + width * length ks ≡ width * length (k ∷ ks) = omega arith in
    let first : PlainRow = record { key = k; cells = take width cells } in
    ap (λ rows. first ∷ rows) (rows_under-append width ks ls (drop width cells)
    ∙ ap (λ more. rows_under width ks (drop width cells) ++ rows_under width ls more) (drop-drop (width * length ks) width cells ∙ ap (λ n. drop n cells) e))

none_long : {X : Type 0} (xs : List X) → length xs ≡ 0 → [] ≡ xs
none_long [] h = refl
none_long (x ∷ xs) h = absurd (omega arith)

-- the cells are those of the rows
pub cells_under : (width : ℕ) (ks : List ℕ) (cells : List ℤ) → length cells ≡ width * length ks → flat_map (λ row. row.cells) (rows_under width ks cells) ≡ cells
cells_under width [] cells h = none_long cells (omega arith)
cells_under width (k ∷ ks) cells h =
    ap (λ rest. take width cells ++ rest) (cells_under width ks (drop width cells) (omega (arith, length-drop width cells)))
    ∙ take-append-drop width cells

-- each row under keys is one that a record tells
pub told_under : (columns : List ColumnSpec) (texts : List (List ℕ)) (width : ℕ) (ks : List ℕ) (cells : List ℤ) →
    AllByRecursion (λ key. key < 2 ^ 62) ks → AllByRecursion (FitsSigned w64) cells →
    AllByRecursion (λ row. fit_columns (length texts) columns row.cells ≡ true) (rows_under width ks cells) → AllByRecursion (IsToldRow columns texts) (rows_under width ks cells)
told_under columns texts width [] cells below numbers fit = tt
told_under columns texts width (k ∷ ks) cells below numbers fit = (
  record { key = below.0; numbers = every-take (FitsSigned w64) width cells numbers; fit = fit.0 },
  told_under columns texts width ks (drop width cells) below.1 (every-drop (FitsSigned w64) width cells numbers) fit.1,
)
