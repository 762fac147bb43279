-- A filter and a view make what their operators of a plan make, wherever their formulas lie.
use Rattle.std.proofs.Common.{◌≡◌, refl, ap, ap₂, sym, ℕ, suc, ◌+◌, List, [], ◌∷◌, ◌++◌, map, length, ℤ}
use Rattle.std.specs.List.{AllByRecursion}
use Rattle.key_lists.proofs.Every.{every, filter_same, map_same}
use Rattle.tick_model.{specs.declared.plan.Expr.Expr, specs.declared.plan.Op.TheVariants.{Keep, View}, specs.declared.plan.Pred.Pred, specs.declared.table.PlainRow.PlainRow, specs.declared.table.PlainTable.PlainTable, specs.Formulas.{IsWithin, truth, value}, specs.Updates.{Tick, both_in}, specs.View.{view_row, view_table}, specs.Where.where_table}
use Rattle.table_operator.specs.Made.{IsMadeOf}
use Rattle.row_ops.{specs.Copies.{AreCopies, IsTestCopy}, specs.Filter.RowTest, specs.Made.{filter_made, view_made}, specs.Viewer.Viewer}

-- a copy of a test lets the same rows pass
same_where : (copy test : Pred) (table : PlainTable) → IsTestCopy copy test → where_table test table ≡ where_table copy table
same_where copy test table h =
    ap (λ (rows : List PlainRow). let passing : PlainTable = record { width = table.width; rows = rows } in passing)
    (filter_same (λ (row : PlainRow). truth test row.cells) (λ (row : PlainRow). truth copy row.cells) table.rows (every (λ (row : PlainRow). truth test row.cells ≡ truth copy row.cells) table.rows (λ row. sym (h.same row.cells))))

pub filter_is : (input : ℕ) (test : Pred) (filter : RowTest) → IsTestCopy filter.test test → IsMadeOf (Keep input test) (filter_made filter)
filter_is input test filter h = record {
  tick = λ tick.
      ap₂ (λ (old new : PlainTable). let made : Tick = record { old = old; new = new; kept = both_in old new (tick input).kept } in made)
      (same_where filter.test test (tick input).old h) (same_where filter.test test (tick input).new h);
  fault = λ table. refl;
  width = refl;
  keys = λ tables keys. keys;
}

-- copies of formulas have the same values
pub length_copies : (copies exprs : List Expr) → AreCopies copies exprs → length copies ≡ length exprs
length_copies [] [] h = refl
length_copies [] (expr ∷ exprs) h = absurd h
length_copies (copy ∷ copies) [] h = absurd h
length_copies (copy ∷ copies) (expr ∷ exprs) h = ap suc (length_copies copies exprs h.1)

same_values : (copies exprs : List Expr) (cells : List ℤ) → AreCopies copies exprs → map (λ expr. value expr cells) exprs ≡ map (λ expr. value expr cells) copies
same_values [] [] cells h = refl
same_values [] (expr ∷ exprs) cells h = absurd h
same_values (copy ∷ copies) [] cells h = absurd h
same_values (copy ∷ copies) (expr ∷ exprs) cells h = ap₂ (λ x xs. x ∷ xs) (sym (h.0.same cells)) (same_values copies exprs cells h.1)

same_row : (copies exprs : List Expr) (row : PlainRow) → AreCopies copies exprs → view_row exprs row ≡ view_row copies row
same_row copies exprs row h = ap (λ (values : List ℤ). let viewed : PlainRow = record { key = row.key; cells = row.cells ++ values } in viewed) (same_values copies exprs row.cells h)

same_view : (copies exprs : List Expr) (table : PlainTable) → AreCopies copies exprs → view_table exprs table ≡ view_table copies table
same_view copies exprs table h =
    ap₂ (λ (count : ℕ) (rows : List PlainRow). let viewed : PlainTable = record { width = table.width + count; rows = rows } in viewed)
    (sym (length_copies copies exprs h))
    (map_same (view_row exprs) (view_row copies) table.rows (every (λ row. view_row exprs row ≡ view_row copies row) table.rows (λ row. same_row copies exprs row h)))

-- copies are within the rows that the formulas are within
pub copies_within : (width : ℕ) (copies exprs : List Expr) → AreCopies copies exprs → AllByRecursion (IsWithin width) exprs → AllByRecursion (IsWithin width) copies
copies_within width [] [] h w = tt
copies_within width [] (expr ∷ exprs) h w = absurd h
copies_within width (copy ∷ copies) [] h w = absurd h
copies_within width (copy ∷ copies) (expr ∷ exprs) h w = (h.0.within width w.0, copies_within width copies exprs h.1 w.1)

pub view_is : (input : ℕ) (exprs : List Expr) (view : Viewer) → AreCopies view.exprs exprs → IsMadeOf (View input exprs) (view_made view)
view_is input exprs view h = record {
  tick = λ tick.
      ap₂ (λ (old new : PlainTable). let made : Tick = record { old = old; new = new; kept = (tick input).kept } in made)
      (same_view view.exprs exprs (tick input).old h) (same_view view.exprs exprs (tick input).new h);
  fault = λ table. refl;
  width = ap (λ count. view.width + count) (sym (length_copies view.exprs exprs h));
  keys = λ tables keys. keys;
}
