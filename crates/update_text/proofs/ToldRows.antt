-- The rows that the words of a table tell.
use Rattle.std.proofs.Common.{◌≡◌, refl, ap, sym, ◌∙◌, subst, ℕ, suc, ◌+◌, ◌-◌, ◌*◌, ◌<◌, ◌≤◌, List, [], ◌∷◌, ◌++◌, length, take, drop, map, get_or, arith, length-append, length-drop, add-one}
use Rattle.std.{specs.Prelude.{ℤ, flat_map, FitsSigned}, specs.Int.{w64, cast_signed, cast_unsigned}, specs.List.AllByRecursion, proofs.lemmas.List.{take_at, drop_at, length-map, take_all}, proofs.Math.Facts.to_z-of_z}
use Rattle.key_lists.proofs.Every.{every_weaker, map_map, map_own}
use Rattle.tick_model.{specs.declared.table.PlainRow.PlainRow, specs.declared.table.PlainTable.PlainTable, specs.Words.row_words}
use Rattle.update_text.{specs.declared.shown.Shown.Shown, specs.Snapshots.{AreWordsOf, row_told, rows_told}}

cells_told : (cells : List ℤ) → AllByRecursion (FitsSigned w64) cells → map (cast_signed w64) (map (cast_unsigned w64) cells) ≡ cells
cells_told cells fit =
    map_map (cast_signed w64) (cast_unsigned w64) cells
    ∙ map_own (λ cell. cast_signed w64 (cast_unsigned w64 cell)) cells
    (every_weaker (FitsSigned w64) (λ cell. cast_signed w64 (cast_unsigned w64 cell) ≡ cell) cells (λ cell h. to_z-of_z h) fit)

length-row_words : (width : ℕ) (row : PlainRow) → length row.cells ≡ width → length (row_words row) ≡ width + 1
length-row_words width row h = ap suc (length-map row.cells (cast_unsigned w64) ∙ h) ∙ sym (add-one width)

pub rows_told-words : (width : ℕ) (rows : List PlainRow) → AllByRecursion (λ row. length row.cells ≡ width) rows → AllByRecursion (λ row. AllByRecursion (FitsSigned w64) row.cells) rows →
    rows_told (length rows) (width + 1) (flat_map row_words rows) ≡ rows
rows_told-words width [] whole fit = refl
rows_told-words width (row ∷ rows) whole fit =
    let others = flat_map row_words rows in
    ap (λ told. row_told told ∷ rows_told (length rows) (width + 1) (drop (width + 1) (row_words row ++ others))) (take_at (row_words row) others (width + 1) (length-row_words width row whole.0))
    ∙ ap (λ told. row_told (row_words row) ∷ rows_told (length rows) (width + 1) told) (drop_at (row_words row) others (width + 1) (length-row_words width row whole.0))
    ∙ ap (λ cells. let first : PlainRow = record { key = row.key; cells = cells } in first ∷ rows_told (length rows) (width + 1) others) (cells_told row.cells fit.0)
    ∙ ap (λ told. row ∷ told) (rows_told-words width rows whole.1 fit.1)

words_enough : (width : ℕ) (rows : List PlainRow) → AllByRecursion (λ row. length row.cells ≡ width) rows → length rows * (width + 1) ≤ length (flat_map row_words rows)
words_enough width [] whole = omega arith
words_enough width (row ∷ rows) whole = omega (arith, length-append (row_words row) (flat_map row_words rows), length-row_words width row whole.0, words_enough width rows whole.1)

-- what stands after the first word
after_first : (first : ℕ) (others told : List ℕ) → told ≡ first ∷ others → take (length told - 1) (drop 1 told) ≡ others
after_first first others told e = ap (λ some. take (length some - 1) (drop 1 some)) e ∙ take_all (length (first ∷ others) - 1) others (omega arith)

-- the words of a table tell its rows
pub told_rows : (shown : Shown) (told : List ℕ) (table : PlainTable) → AreWordsOf shown told table → rows_told (get_or told 0 0) (length shown.columns + 1) (take (length told - 1) (drop 1 told)) ≡ table.rows
told_rows shown told table are =
    let width = length shown.columns in
    ap (λ count. rows_told count (width + 1) (take (length told - 1) (drop 1 told))) (ap (λ some. get_or some 0 0) are.same)
    ∙ ap (rows_told (length table.rows) (width + 1)) (after_first _ _ told are.same)
    ∙ rows_told-words width table.rows are.whole are.numbers

pub told_enough : (shown : Shown) (told : List ℕ) (table : PlainTable) → AreWordsOf shown told table → get_or told 0 0 * (length shown.columns + 1) ≤ length (take (length told - 1) (drop 1 told))
told_enough shown told table are =
    let width = length shown.columns in
    subst (λ count. count * (width + 1) ≤ length (take (length told - 1) (drop 1 told))) (sym (ap (λ some. get_or some 0 0) are.same))
    (subst (λ words. length table.rows * (width + 1) ≤ length words) (sym (after_first _ _ told are.same)) (words_enough width table.rows are.whole))

-- the product of the rows that are left
left_step : (count done size : ℕ) → done < count → (count - done) * size ≡ size + (count - (done + 1)) * size
left_step count done size more =
    let e : count - done ≡ suc (count - (done + 1)) = omega arith in
    ap (λ n. n * size) e ∙ omega arith

pub others_fit : (count done size : ℕ) (left : List ℕ) → done < count → (count - done) * size ≤ length left → (count - (done + 1)) * size ≤ length (drop size left)
others_fit count done size left more h = omega (arith, left_step count done size more, length-drop size left)

pub rows_told-step : (count done size : ℕ) (left : List ℕ) → done < count → rows_told (count - done) size left ≡ row_told (take size left) ∷ rows_told (count - (done + 1)) size (drop size left)
rows_told-step count done size left more =
    let e : count - done ≡ suc (count - (done + 1)) = omega arith in
    ap (λ n. rows_told n size left) e
