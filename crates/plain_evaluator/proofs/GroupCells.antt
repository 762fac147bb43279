-- What aggregates say of a column, cell by cell.
use Rattle.std.proofs.Common.{◌≡◌, refl, ap, ◌∙◌, ℕ, ◌-◌, arith, true, false, cond, not, List, [], ◌∷◌, length, ℤ, Some, None, unwrap_or}
use Rattle.std.{specs.Prelude.{fold, slice_get}, specs.Option.option_map_or}
use Rattle.tick_model.{specs.declared.table.PlainRow.PlainRow, specs.Tables.{null, is_null, cell}, specs.Agg.{present, over, column_of}, specs.Extremes.with_present}

-- from a value on
over_from : (f : ℤ → ℤ → ℤ) (xs : List ℤ) (a : ℤ) → fold (with_present f) (Some a) xs ≡ Some (fold f a (present xs))
over_from f [] a = refl
over_from f (x ∷ xs) a =
    elim (is_null x) as (λ b. fold (with_present f) (cond b (Some a) (Some (f a x))) xs ≡ Some (fold f a (cond (not b) (x ∷ present xs) (present xs)))) [
      | true ↦ over_from f xs a
      | false ↦ over_from f xs (f a x)
    ]

-- from nothing on
pub over_present : (f : ℤ → ℤ → ℤ) (xs : List ℤ) → unwrap_or (fold (with_present f) None xs) null ≡ over f (present xs)
over_present f [] = refl
over_present f (x ∷ xs) =
    elim (is_null x) as (λ b. unwrap_or (fold (with_present f) (cond b None (Some x)) xs) null ≡ over f (cond (not b) (x ∷ present xs) (present xs))) [
      | true ↦ over_present f xs
      | false ↦ ap (λ o. unwrap_or o null) (over_from f xs x)
    ]

-- the first and the last cell are those of the first and the last row
pub first_cell : (rows : List PlainRow) (column : ℕ) → option_map_or (λ (row : PlainRow). cell row.cells column) (slice_get rows 0) null ≡ over (λ first _. first) (column_of rows column)
first_cell [] column = refl
first_cell (row ∷ rows) column = stays (column_of rows column) (cell row.cells column)
  where
    stays : (xs : List ℤ) (x : ℤ) → x ≡ fold (λ first _. first) x xs
    stays [] x = refl
    stays (y ∷ ys) x = stays ys x

pub last_cell : (rows : List PlainRow) (column : ℕ) → option_map_or (λ (row : PlainRow). cell row.cells column) (slice_get rows (length rows - 1)) null ≡ over (λ _ last. last) (column_of rows column)
last_cell [] column = refl
last_cell (row ∷ rows) column =
    let last : length (row ∷ rows) - 1 ≡ length rows = omega arith in
    ap (λ n. option_map_or (λ (row : PlainRow). cell row.cells column) (slice_get (row ∷ rows) n) null) last ∙ ends rows row column
  where
    ends : (rows : List PlainRow) (row : PlainRow) (column : ℕ)
        → option_map_or (λ (row : PlainRow). cell row.cells column) (slice_get (row ∷ rows) (length rows)) null ≡ fold (λ _ last. last) (cell row.cells column) (column_of rows column)
    ends [] row column = refl
    ends (next ∷ rows) row column = ends rows next column
