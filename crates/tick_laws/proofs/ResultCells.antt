-- The cells of each operator's rows are numbers of 64 bits, where those of its inputs are.
use Rattle.std.proofs.Common.{ℕ, ◌≤◌, ◌^◌, arith, Bool, true, false, cond, ◌||◌, List, [], ◌∷◌, map, length, filter, Option, Some, None, ℤ, pos, neg_ℤ, ◌+ℤ◌, ◌-ℤ◌, ◌*ℤ◌, lit<}
use Rattle.std.{specs.Prelude.{FitsSigned, IfSome, fold}, specs.Int.w64, specs.List.AllByRecursion, proofs.lemmas.Int.SFits-int_wrap}
use Rattle.tick_model.{specs.declared.plan.Agg.Agg, specs.declared.plan.Agg.TheVariants.{Count, Sum, Min, Max, First, Last}, specs.declared.plan.Expr.{Expr, Cell, Number, Null, Literal, Rank, Neg', Add', Sub', Mul'}, specs.declared.plan.Op.Op, specs.declared.plan.Op.TheVariants.{View, Join, Agg as AggOp, Merge, Sort, AsOf}, specs.declared.table.PlainRow.PlainRow, specs.declared.table.PlainTable.PlainTable, specs.Tables.{null, is_null, cell, IsTable, HasCells}, specs.Formulas.{wrap, lifted, lifted2, value}, specs.Join.taken, specs.Agg.{key_cells, aggregate, column_of, present, sum_of}, specs.Operators.{inputs_of, result}, specs.Numbers.{HasNumbers, HasOpNumbers}}
use Rattle.key_lists.proofs.Every.{every, every_weaker, every-map, every-append}
use Rattle.tick_laws.{proofs.Picked.{cell_every, picked_every}, proofs.ResultTables.{MakesRows, result_has}}

abbrev Fits : ℤ → Type 0
Fits = FitsSigned w64

null_fits : Fits null
null_fits = record { sfits = lit< tt }

wrap_fits : (x : ℤ) → Fits (wrap x)
wrap_fits x = SFits-int_wrap w64 x

lifted_fits : (f : ℤ → ℤ) (x : ℤ) → Fits (lifted f x)
lifted_fits f x = elim (is_null x) as (λ b. Fits (cond b null (wrap (f x)))) [ true ↦ null_fits | false ↦ wrap_fits (f x) ]

lifted2_fits : (f : ℤ → ℤ → ℤ) (x y : ℤ) → Fits (lifted2 f x y)
lifted2_fits f x y = elim (is_null x || is_null y) as (λ b. Fits (cond b null (wrap (f x y)))) [ true ↦ null_fits | false ↦ wrap_fits (f x y) ]

value_fits : (expr : Expr) (cells : List ℤ) → AllByRecursion Fits cells → HasNumbers expr → Fits (value expr cells)
value_fits (Cell column) cells h n = cell_every Fits null_fits cells h column
value_fits (Number number) cells h n = n
value_fits Null cells h n = null_fits
value_fits (Literal text) cells h n = null_fits
value_fits (Rank rank) cells h n = n
value_fits (Neg' p a) cells h n = lifted_fits neg_ℤ (value a cells)
value_fits (Add' p a q b) cells h n = lifted2_fits ◌+ℤ◌ (value a cells) (value b cells)
value_fits (Sub' p a q b) cells h n = lifted2_fits ◌-ℤ◌ (value a cells) (value b cells)
value_fits (Mul' p a q b) cells h n = lifted2_fits ◌*ℤ◌ (value a cells) (value b cells)

abbrev RowFits : PlainRow → Type 0
RowFits row = AllByRecursion Fits row.cells

cells_fit : (cells : List ℤ) → AllByRecursion Fits cells → (columns : List ℕ) → AllByRecursion Fits (map (cell cells) columns)
cells_fit cells h columns = every-map Fits (cell cells) columns (every (λ column. Fits (cell cells column)) columns (cell_every Fits null_fits cells h))

taken_fits : (take : List ℕ) (o : Option PlainRow) → IfSome o RowFits → AllByRecursion Fits (taken take o)
taken_fits take None h = every-map Fits (λ _. null) take (every (λ _. Fits null) take (λ _. null_fits))
taken_fits take (Some right) h = cells_fit right.cells h take

sum_fits : (xs : List ℤ) → Fits (sum_of xs)
sum_fits [] = null_fits
sum_fits (x ∷ xs) = wrap_fits (fold ◌+ℤ◌ (pos 0) (x ∷ xs))

picked_fits : (rows : List PlainRow) → AllByRecursion RowFits rows → (column : ℕ)
    → Fits (aggregate rows (Min column)) × Fits (aggregate rows (Max column)) × Fits (aggregate rows (First column)) × Fits (aggregate rows (Last column))
picked_fits rows h column = picked_every Fits null_fits rows column (every_weaker RowFits (λ row. Fits (cell row.cells column)) rows (λ row r. cell_every Fits null_fits row.cells r column) h)

aggregate_fits : (rows : List PlainRow) → AllByRecursion RowFits rows → length rows ≤ 2 ^ 62 → (agg : Agg) → Fits (aggregate rows agg)
aggregate_fits rows h count Count = record { sfits = omega (arith, count) }
aggregate_fits rows h count (Sum column) = sum_fits (present (column_of rows column))
aggregate_fits rows h count (Min column) = (picked_fits rows h column).0
aggregate_fits rows h count (Max column) = (picked_fits rows h column).1
aggregate_fits rows h count (First column) = (picked_fits rows h column).2
aggregate_fits rows h count (Last column) = (picked_fits rows h column).3

pub length-filter_most : {X : Type 0} (p : X → Bool) (xs : List X) → length (filter p xs) ≤ length xs
length-filter_most p [] = omega arith
length-filter_most p (x ∷ xs) = elim (p x) as (λ b. length (cond b (x ∷ filter p xs) (filter p xs)) ≤ length (x ∷ xs)) [ true ↦ let rest = length-filter_most p xs in omega (arith, rest) | false ↦ let rest = length-filter_most p xs in omega (arith, rest) ]

made_fit : (op : Op) → HasOpNumbers op → MakesRows op (λ _. RowFits) RowFits
made_fit (View input exprs) n = λ row r.
    every-append Fits row.cells (map (λ expr. value expr row.cells) exprs) r (every-map Fits (λ expr. value expr row.cells) exprs (every_weaker HasNumbers (λ expr. Fits (value expr row.cells)) exprs (λ expr e. value_fits expr row.cells r e) n))
made_fit (Join left right on take choice) n = λ row found r f. every-append Fits row.cells (taken take found) r (taken_fits take found f)
made_fit (AsOf left right on at take) n = λ row found r f. every-append Fits row.cells (taken take found) r (taken_fits take found f)
made_fit (AggOp input by aggs) n = λ row group r g count.
    every-append Fits (key_cells by row.cells) (map (aggregate group) aggs) (cells_fit row.cells r by) (every-map Fits (aggregate group) aggs (every (λ agg. Fits (aggregate group agg)) aggs (aggregate_fits group g count)))
made_fit (Merge inputs) n = every (λ i. (row : PlainRow) → RowFits row → (key : ℕ) → RowFits row) inputs (λ i row r key. r)
made_fit (Sort input by) n = λ row r key. r
made_fit op n = every (λ i. (row : PlainRow) → RowFits row → RowFits row) (inputs_of op) (λ i row r. r)

pub result_cells : (op : Op) (table : ℕ → PlainTable) → AllByRecursion (λ input. IsTable (table input)) (inputs_of op) → AllByRecursion (λ input. HasCells (table input)) (inputs_of op) → HasOpNumbers op → HasCells (result op table)
result_cells op table t h n = result_has op (λ _. RowFits) RowFits table (made_fit op n) t h
