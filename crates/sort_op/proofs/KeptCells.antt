-- The sort cells of rows, by the handles of the rows.
use Rattle.std.proofs.Common.{◌≡◌, ◌≢◌, refl, ap, ap₂, sym, ◌∙◌, false, Bool, ℕ, zero, suc, ◌+◌, ◌<◌, arith, List, [], ◌∷◌, ◌++◌, length, drop, get_or, set, add-one, ℤ}
use Rattle.std.{specs.Global.Vec, specs.Ordering.ordering_then, specs.declared.cmp.Ordering.Ordering}
use Rattle.tick_model.{specs.declared.plan.SortBy.SortBy, specs.Sort.column_cmp, specs.Tables.{cell, null, same_cells}}
use Rattle.sort_op.{specs.Cells.cells_cmp, specs.Ranks.{cell_in, cells_from, lists_of}, specs.Sorted.sort_cells, proofs.CellOrders.head_first}

abbrev pub blank : SortBy
blank = record { column = 0; descending = false }

-- a null behind the cells of a column, and a column without cells behind the others
pub null_behind : (xs : List ℤ) (at : ℕ) → cell (xs ++ null ∷ []) at ≡ cell xs at
null_behind [] zero = refl
null_behind [] (suc at) = refl
null_behind (x ∷ xs) zero = refl
null_behind (x ∷ xs) (suc at) = null_behind xs at

cell-nil : (at : ℕ) → cell [] at ≡ null
cell-nil zero = refl
cell-nil (suc at) = refl

pub column_behind : (columns : List (Vec ℤ)) (column : Vec ℤ) (at handle : ℕ) → column.items ≡ [] → cell_in (lists_of (columns ++ column ∷ [])) at handle ≡ cell_in (lists_of columns) at handle
column_behind [] column zero handle none = ap (λ cells. cell cells handle) none ∙ cell-nil handle
column_behind [] column (suc at) handle none = refl
column_behind (first ∷ columns) column zero handle none = refl
column_behind (first ∷ columns) column (suc at) handle none = column_behind columns column at handle none

-- a cell that is put
pub cell_set : (xs : List ℤ) (at : ℕ) (x : ℤ) → at < length xs → cell (set xs at x) at ≡ x
cell_set [] at x within = absurd (omega (arith, within))
cell_set (y ∷ xs) zero x within = refl
cell_set (y ∷ xs) (suc at) x within = cell_set xs at x (omega (arith, within))

pub cell_others : (xs : List ℤ) (at other : ℕ) (x : ℤ) → other ≢ at → cell (set xs at x) other ≡ cell xs other
cell_others [] zero other x ne = refl
cell_others [] (suc at) other x ne = refl
cell_others (y ∷ xs) zero zero x ne = absurd (ne refl)
cell_others (y ∷ xs) zero (suc other) x ne = refl
cell_others (y ∷ xs) (suc at) zero x ne = refl
cell_others (y ∷ xs) (suc at) (suc other) x ne = cell_others xs at other x (λ e. ne (ap suc e))

pub column_set : (columns : List (Vec ℤ)) (place handle : ℕ) (column : Vec ℤ) → place < length columns → cell_in (lists_of (set columns place column)) place handle ≡ cell column.items handle
column_set [] place handle column within = absurd (omega (arith, within))
column_set (first ∷ columns) zero handle column within = refl
column_set (first ∷ columns) (suc place) handle column within = column_set columns place handle column (omega (arith, within))

pub column_others : (columns : List (Vec ℤ)) (place at handle : ℕ) (column : Vec ℤ) → at ≢ place → cell_in (lists_of (set columns place column)) at handle ≡ cell_in (lists_of columns) at handle
column_others [] zero at handle column ne = refl
column_others [] (suc place) at handle column ne = refl
column_others (first ∷ columns) zero zero handle column ne = absurd (ne refl)
column_others (first ∷ columns) zero (suc at) handle column ne = refl
column_others (first ∷ columns) (suc place) zero handle column ne = refl
column_others (first ∷ columns) (suc place) (suc at) handle column ne = column_others columns place at handle column (λ e. ne (ap suc e))

-- the column at a place is the one that is read there
pub column_at : (columns : List (Vec ℤ)) (place handle : ℕ) (d : Vec ℤ) → place < length columns → cell_in (lists_of columns) place handle ≡ cell (get_or columns place d).items handle
column_at [] place handle d within = absurd (omega (arith, within))
column_at (first ∷ columns) zero handle d within = refl
column_at (first ∷ columns) (suc place) handle d within = column_at columns place handle d (omega (arith, within))

pub length-kept : (n : ℕ) (by : List SortBy) (cells : List (List ℤ)) (handle : ℕ) → length (cells_from n by cells handle) ≡ length by
length-kept n [] cells handle = refl
length-kept n (sort ∷ by) cells handle = ap suc (length-kept (suc n) by cells handle)

-- what is kept of a row is what its cells are
pub cells_same : (n : ℕ) (by : List SortBy) (cells others : List (List ℤ)) (handle : ℕ) → ((at : ℕ) → cell_in cells at handle ≡ cell_in others at handle) → cells_from n by cells handle ≡ cells_from n by others handle
cells_same n [] cells others handle h = refl
cells_same n (sort ∷ by) cells others handle h = ap₂ (λ (x : ℤ) (xs : List ℤ). x ∷ xs) (h n) (cells_same (suc n) by cells others handle h)

pub cells_are : (n : ℕ) (by : List SortBy) (cells : List (List ℤ)) (handle : ℕ) (row : List ℤ) → ((i : ℕ) → i < length by → cell_in cells (n + i) handle ≡ cell row (get_or by i blank).column) → cells_from n by cells handle ≡ sort_cells by row
cells_are n [] cells handle row h = refl
cells_are n (sort ∷ by) cells handle row h =
    ap₂ (λ (x : ℤ) (xs : List ℤ). x ∷ xs) (ap (λ k. cell_in cells k handle) (let same : n ≡ n + 0 = omega arith in same) ∙ h 0 (omega arith))
    (cells_are (suc n) by cells handle row (λ i within. ap (λ k. cell_in cells k handle) (let same : suc n + i ≡ n + suc i = omega arith in same) ∙ h (suc i) (omega (arith, within))))

-- the columns from a place on
abbrev pub same_from : ℕ → List SortBy → List (List ℤ) → ℕ → List ℤ → Bool
same_from i by cells handle row = same_cells (cells_from i (drop i by) cells handle) (sort_cells (drop i by) row)

abbrev pub cmp_from : ℕ → List SortBy → List (List ℤ) → ℕ → ℕ → Ordering
cmp_from i by cells handle other = cells_cmp (drop i by) (cells_from i (drop i by) cells handle) (cells_from i (drop i by) cells other)

pub cmp_more : (i : ℕ) (by : List SortBy) (cells : List (List ℤ)) (handle other : ℕ) (r : Ordering) → i < length by → r ≡ column_cmp (get_or by i blank) (cell_in cells i handle) (cell_in cells i other) → ordering_then r (cmp_from (i + 1) by cells handle other) ≡ cmp_from i by cells handle other
cmp_more i by cells handle other r within is =
    ap (λ o. ordering_then o (cmp_from (i + 1) by cells handle other)) is
    ∙ ap (λ n. ordering_then (column_cmp (get_or by i blank) (cell_in cells i handle) (cell_in cells i other)) (cmp_from n by cells handle other)) (add-one i)
    ∙ sym (ap (λ rest. cells_cmp rest (cells_from i rest cells handle) (cells_from i rest cells other)) (head_first by i blank within))
