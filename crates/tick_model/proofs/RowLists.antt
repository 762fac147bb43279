-- Rows under their keys, with their cells one after the other.
use Rattle.std.proofs.Common.{◌≡◌, refl, ap, ap₂, sym, ◌∙◌, ℕ, zero, suc, ◌+◌, ◌*◌, ◌<◌, ◌≤◌, arith, List, [], ◌∷◌, ◌++◌, length, length-append, length-drop, take, drop}
use Rattle.std.{specs.Prelude.{ℤ, flat_map, slice_get, Some}, specs.List.AllByRecursion, proofs.lemmas.List.{drop-drop, take-append-drop, take-append-le, drop-append-le, nil_from_length, length-take-le, take_all}, proofs.lemmas.Nat.mul-le, proofs.lemmas.Option.same_Some}
use Rattle.tick_model.{specs.declared.table.PlainRow.PlainRow, specs.Changes.rows_under, specs.Tables.keys}

pub keys-rows_under : (width : ℕ) (ks : List ℕ) (cells : List ℤ) → keys (rows_under width ks cells) ≡ ks
keys-rows_under width [] cells = refl
keys-rows_under width (key ∷ ks) cells = ap (λ rest. key ∷ rest) (keys-rows_under width ks (drop width cells))

pub length-rows_under : (width : ℕ) (ks : List ℕ) (cells : List ℤ) → length (rows_under width ks cells) ≡ length ks
length-rows_under width [] cells = refl
length-rows_under width (key ∷ ks) cells = ap (λ n. suc n) (length-rows_under width ks (drop width cells))

-- the first of some rows has as many cells as a row has, and the others have theirs behind them
rest_whole : (width : ℕ) (key : ℕ) (ks : List ℕ) (cells : List ℤ) → length cells ≡ width * length (key ∷ ks) → length (drop width cells) ≡ width * length ks
rest_whole width key ks cells whole = omega (arith, whole, length-drop width cells)

-- the cells are those of the rows
pub cells_under : (width : ℕ) (ks : List ℕ) (cells : List ℤ) → length cells ≡ width * length ks → flat_map (λ row. row.cells) (rows_under width ks cells) ≡ cells
cells_under width [] cells whole = sym (nil_from_length cells (omega (arith, whole)))
cells_under width (key ∷ ks) cells whole =
    ap (λ rest. take width cells ++ rest) (cells_under width ks (drop width cells) (rest_whole width key ks cells whole)) ∙ take-append-drop width cells

-- each row has so many cells
pub widths_under : (width : ℕ) (ks : List ℕ) (cells : List ℤ) → length cells ≡ width * length ks → AllByRecursion (λ row. length row.cells ≡ width) (rows_under width ks cells)
widths_under width [] cells whole = tt
widths_under width (key ∷ ks) cells whole = (length-take-le width cells (omega (arith, whole)), widths_under width ks (drop width cells) (rest_whole width key ks cells whole))

-- one more row behind others
pub row_behind : (width : ℕ) (ks : List ℕ) (cells own : List ℤ) (key : ℕ) → length cells ≡ width * length ks → length own ≡ width
    → rows_under width (ks ++ key ∷ []) (cells ++ own) ≡ rows_under width ks cells ++ (record { key = key; cells = own }) ∷ []
row_behind width [] cells own key whole wide =
    let none : cells ≡ [] = nil_from_length cells (omega (arith, whole)) in
    let all : take width (cells ++ own) ≡ own = ap (λ before. take width (before ++ own)) none ∙ take_all width own (omega (arith, wide)) in
    ap (λ cells. (record { key = key; cells = cells }) ∷ []) all
row_behind width (first ∷ ks) cells own key whole wide =
    let fits : width ≤ length cells = omega (arith, whole) in
    ap₂ (λ before rest. (record { key = first; cells = before }) ∷ rows_under width (ks ++ key ∷ []) rest) (take-append-le width cells own fits) (drop-append-le width cells own fits)
    ∙ ap (λ rows. (record { key = first; cells = take width cells }) ∷ rows) (row_behind width ks (drop width cells) own key (rest_whole width first ks cells whole) wide)

-- where each row has so many cells, a row has so many
pub same_width : (width n : ℕ) (ks : List ℕ) (cells : List ℤ) (rows : List PlainRow) → length cells ≡ width * length ks → rows_under width ks cells ≡ rows → AllByRecursion (λ row. length row.cells ≡ n) rows
    → (length cells ≡ n * length ks) × (rows_under n ks cells ≡ rows)
same_width width n [] cells rows whole is each = (omega (arith, whole), is)
same_width width n (key ∷ ks) cells rows whole is each =
    let own = rw (sym is) at each in
    let same : n ≡ width = sym own.0 ∙ length-take-le width cells (omega (arith, whole)) in
    (whole ∙ ap (λ w. w * length (key ∷ ks)) (sym same), ap (λ w. rows_under w (key ∷ ks) cells) same ∙ is)

-- with one more row behind them the rows are whole
pub whole_behind : (width : ℕ) (ks : List ℕ) (cells own : List ℤ) (key : ℕ) → length cells ≡ width * length ks → length own ≡ width → length (cells ++ own) ≡ width * length (ks ++ key ∷ [])
whole_behind width ks cells own key whole wide = omega (arith, whole, wide, length-append cells own, ap (λ n. width * n) (length-append ks (key ∷ [])))

-- the cells of the row at a place
pub row_under : (width : ℕ) (ks : List ℕ) (cells : List ℤ) (place : ℕ) (row : PlainRow) → slice_get (rows_under width ks cells) place ≡ Some row → take width (drop (place * width) cells) ≡ row.cells
row_under width [] cells place row at = cc
row_under width (key ∷ ks) cells zero row at =
    let none : 0 * width ≡ 0 = omega arith in
    ap (λ n. take width (drop n cells)) none ∙ ap (λ row. row.cells) (same_Some _ _ at)
row_under width (key ∷ ks) cells (suc place) row at =
    let behind : suc place * width ≡ width + place * width = omega arith in
    ap (λ n. take width (drop n cells)) behind ∙ ap (take width) (sym (drop-drop (place * width) width cells)) ∙ row_under width ks (drop width cells) place row at

-- the cells of a row end where all cells end, or before
pub row_fits : (width : ℕ) (ks : List ℕ) (cells : List ℤ) (rows : List PlainRow) (place : ℕ) → length cells ≡ width * length ks → rows_under width ks cells ≡ rows → place < length rows → place * width + width ≤ length cells
row_fits width ks cells rows place whole is less =
    let within : suc place ≤ length ks = omega (arith, less, ap length is, length-rows_under width ks cells) in
    omega (arith, whole, mul-le (suc place) width (length ks) width within (omega arith))
