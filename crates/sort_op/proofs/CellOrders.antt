-- Sort cells compared column by column.
use Rattle.std.proofs.Common.{◌≡◌, refl, ap, ap₂, sym, ◌∙◌, ℕ, zero, suc, ◌+◌, ◌<◌, arith, List, [], ◌∷◌, length, drop, get_or, add-one, ℤ, true, false, not, ◌==◌, true≢false}
use Rattle.std.{specs.Ordering.{ordering_then, ordering_index}, specs.declared.cmp.Ordering.Ordering, specs.declared.cmp.Ordering.TheVariants.{Less, Equal, Greater}}
use Rattle.tick_model.{specs.declared.plan.SortBy.SortBy, specs.Tables.cell, specs.Sort.column_cmp}
use Rattle.sort_op.specs.Cells.{cells_cmp}

cell-drop : (i : ℕ) (xs : List ℤ) → cell (drop i xs) 0 ≡ cell xs i
cell-drop zero xs = refl
cell-drop (suc i) [] = refl
cell-drop (suc i) (x ∷ xs) = cell-drop i xs

drop-next : (i : ℕ) (xs : List ℤ) → drop 1 (drop i xs) ≡ drop (suc i) xs
drop-next zero xs = refl
drop-next (suc i) [] = refl
drop-next (suc i) (x ∷ xs) = drop-next i xs

pub head_first : (by : List SortBy) (i : ℕ) (d : SortBy) → i < length by → drop i by ≡ get_or by i d ∷ drop (suc i) by
head_first [] i d lt = absurd (omega arith)
head_first (first ∷ by) zero d lt = refl
head_first (first ∷ by) (suc i) d lt = head_first by i d (omega arith)

abbrev pub cells_from : ℕ → List SortBy → List ℤ → List ℤ → Ordering
cells_from i by xs ys = cells_cmp (drop i by) (drop i xs) (drop i ys)

-- from a column on
pub cells_more : (i : ℕ) (by : List SortBy) (xs ys : List ℤ) (d : SortBy) → i < length by → cells_from i by xs ys ≡ ordering_then (column_cmp (get_or by i d) (cell xs i) (cell ys i)) (cells_from (i + 1) by xs ys)
cells_more i by xs ys d lt =
    ap (λ rest. cells_cmp rest (drop i xs) (drop i ys)) (head_first by i d lt)
    ∙ ap₂ ordering_then (ap₂ (column_cmp (get_or by i d)) (cell-drop i xs) (cell-drop i ys))
    (ap₂ (cells_cmp (drop (suc i) by)) (drop-next i xs) (drop-next i ys) ∙ ap (λ n. cells_from n by xs ys) (sym (add-one i)))

-- the first that is not equal decides
pub decided : (r s : Ordering) → not (ordering_index r == 1) ≡ true → ordering_then r s ≡ r
decided Less s h = refl
decided Equal s h = absurd (true≢false (sym h))
decided Greater s h = refl

pub passed : (r s : Ordering) → not (ordering_index r == 1) ≡ false → ordering_then r s ≡ s
passed Less s h = absurd (true≢false h)
passed Equal s h = refl
passed Greater s h = absurd (true≢false h)

pub column_more : (i : ℕ) (by : List SortBy) (xs ys : List ℤ) (d : SortBy) (r : Ordering) → i < length by → r ≡ column_cmp (get_or by i d) (cell xs i) (cell ys i) → ordering_then r (cells_from (i + 1) by xs ys) ≡ cells_from i by xs ys
column_more i by xs ys d r lt is = ap (λ o. ordering_then o (cells_from (i + 1) by xs ys)) is ∙ sym (cells_more i by xs ys d lt)
