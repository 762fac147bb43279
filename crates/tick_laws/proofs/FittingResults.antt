-- The rows of each node of a lawful plan fit its columns, where those of its inputs fit theirs.
use Rattle.std.proofs.Common.{◌≡◌, refl, ap, sym, ◌∙◌, ℕ, zero, suc, true, true≢false, ◌&&◌, List, [], ◌∷◌, ◌++◌, map, length, Option, Some, None, ℤ}
use Rattle.std.{specs.Prelude.{IfSome, nat_le, FitsSigned}, specs.Int.w64, specs.List.{AllByRecursion, list_all}, proofs.lemmas.Bool.{and_parts, and_from, or_right}, proofs.lemmas.Option.same_Some}
use Rattle.tick_model.{specs.declared.plan.Agg.Agg, specs.declared.plan.Agg.TheVariants.{Count, Sum, Min, Max, First, Last}, specs.declared.plan.ColumnSpec.ColumnSpec, specs.declared.plan.Expr.{Expr, Cell, Number, Null, Literal, Rank, Neg', Add', Sub', Mul'}, specs.declared.plan.Kind.Kind, specs.declared.plan.Kind.TheVariants.{Long, Text}, specs.declared.plan.Op.Op, specs.declared.plan.Op.TheVariants.{Source, Keep, View, Join, Agg as AggOp, Merge, Sort, Head, Tail, AsOf}, specs.declared.table.PlainRow.PlainRow, specs.declared.table.PlainTable.PlainTable, specs.Tables.{null, is_null, cell, IsTable}, specs.Formulas.value, specs.Join.taken, specs.Agg.{key_cells, aggregate}, specs.Operators.{inputs_of, result, columns_fit}, specs.LawfulRuns.{has_ranks, has_op_ranks}, specs.Names.same_name, specs.Columns.{same_kind, long_alone, both_long, kind_of, is_bound, kinds_of, has_kind, same_columns, have_kinds, keep_names, follow, kind_at, agg_kind, some_of, is_test_bound, test_fits}, specs.Printable.{names_text, fits_kind, fit_columns}, specs.Numbers.HasOpNumbers}
use Rattle.key_lists.proofs.Every.{every, every_weaker, every_both}
use Rattle.tick_laws.{specs.Fitting.{FitsColumns, HasColumns}, proofs.EvalNodes.all_pass, proofs.Picked.picked_every, proofs.ResultCells.result_cells, proofs.ResultTables.{MakesRows, result_has}}

-- kinds that are the same
same_kind_is : (a b : Kind) → same_kind a b ≡ true → a ≡ b
same_kind_is Long Long h = refl
same_kind_is Long Text h = absurd (true≢false (sym h))
same_kind_is Text Long h = absurd (true≢false (sym h))
same_kind_is Text Text h = refl

has_kind_is : (kind : Kind) (o : Option Kind) → has_kind kind o ≡ true → o ≡ Some kind
has_kind_is kind None h = absurd (true≢false (sym h))
has_kind_is kind (Some other) h = ap Some (sym (same_kind_is kind other h))

-- arithmetic is of numbers
long_is_not : (o : Option Kind) → long_alone o ≡ Some Text → ⊥
long_is_not None h = absurd (cc)
long_is_not (Some Long) h = absurd (cc)
long_is_not (Some Text) h = absurd (cc)

both_is_not : (a b : Option Kind) → both_long a b ≡ Some Text → ⊥
both_is_not None b h = absurd (cc)
both_is_not (Some Long) b h = long_is_not b h
both_is_not (Some Text) b h = absurd (cc)

module _ (texts : ℕ) where
  abbrev Fits : List ColumnSpec → List ℤ → Type 0
  Fits columns cells = fit_columns texts columns cells ≡ true

  -- a cell of a kind, where there is one
  abbrev OfKind : Option Kind → ℤ → Type 0
  OfKind o c = (kind : Kind) → o ≡ Some kind → fits_kind texts kind c ≡ true

  -- only texts ask for anything
  of_kind : (o : Option Kind) (c : ℤ) → (o ≡ Some Text → fits_kind texts Text c ≡ true) → OfKind o c
  of_kind o c f Long e = refl
  of_kind o c f Text e = f e

  abbrev FitKinds : List (Option Kind) → List ℤ → Type 0
  FitKinds [] [] = Unit {0}
  FitKinds [] (c ∷ cells) = ⊥
  FitKinds (k ∷ kinds) [] = ⊥
  FitKinds (k ∷ kinds) (c ∷ cells) = OfKind k c × FitKinds kinds cells

  kinds-append : (kinds more : List (Option Kind)) (cells others : List ℤ) → FitKinds kinds cells → FitKinds more others → FitKinds (kinds ++ more) (cells ++ others)
  kinds-append [] more [] others h k = k
  kinds-append [] more (c ∷ cells) others h k = absurd h
  kinds-append (k ∷ kinds) more [] others h g = absurd h
  kinds-append (k ∷ kinds) more (c ∷ cells) others h g = (h.0, kinds-append kinds more cells others h.1 g)

  kinds_mapped : {X : Type 0} (f : X → Option Kind) (g : X → ℤ) (xs : List X) → AllByRecursion (λ x. OfKind (f x) (g x)) xs → FitKinds (map f xs) (map g xs)
  kinds_mapped f g [] h = tt
  kinds_mapped f g (x ∷ xs) h = (h.0, kinds_mapped f g xs h.1)

  -- columns of these kinds
  have_fit : (columns : List ColumnSpec) (kinds : List (Option Kind)) (cells : List ℤ) → have_kinds columns kinds ≡ true → FitKinds kinds cells → Fits columns cells
  have_fit [] [] [] h k = refl
  have_fit [] [] (c ∷ cells) h k = absurd k
  have_fit [] (o ∷ kinds) cells h k = absurd (true≢false (sym h))
  have_fit (column ∷ columns) [] cells h k = absurd (true≢false (sym h))
  have_fit (column ∷ columns) (o ∷ kinds) [] h k = absurd k
  have_fit (column ∷ columns) (o ∷ kinds) (c ∷ cells) h k =
      let parts = and_parts (has_kind column.kind o) (have_kinds columns kinds) h in
      and_from (fits_kind texts column.kind c) (fit_columns texts columns cells) (k.0 column.kind (has_kind_is column.kind o parts.0)) (have_fit columns kinds cells parts.1 k.1)

  -- the same columns, and columns that go on
  same_fit : (columns others : List ColumnSpec) (cells : List ℤ) → same_columns columns others ≡ true → Fits others cells → Fits columns cells
  same_fit [] [] cells h k = k
  same_fit [] (other ∷ others) cells h k = absurd (true≢false (sym h))
  same_fit (column ∷ columns) [] cells h k = absurd (true≢false (sym h))
  same_fit (column ∷ columns) (other ∷ others) [] h k = absurd (true≢false (sym k))
  same_fit (column ∷ columns) (other ∷ others) (c ∷ cells) h k =
      let parts = and_parts (same_name column.name other.name && same_kind column.kind other.kind) (same_columns columns others) h in
      let kind = same_kind_is column.kind other.kind (and_parts (same_name column.name other.name) (same_kind column.kind other.kind) parts.0).1 in
      let fits = and_parts (fits_kind texts other.kind c) (fit_columns texts others cells) k in
      and_from (fits_kind texts column.kind c) (fit_columns texts columns cells) (ap (λ k. fits_kind texts k c) kind ∙ fits.0) (same_fit columns others cells parts.1 fits.1)

  follow_fit : (columns others : List ColumnSpec) (kinds : List (Option Kind)) (cells more : List ℤ) → follow columns others kinds ≡ true → Fits others cells → FitKinds kinds more → Fits columns (cells ++ more)
  follow_fit columns [] kinds [] more h f k = have_fit columns kinds more h k
  follow_fit columns [] kinds (c ∷ cells) more h f k = absurd (true≢false (sym f))
  follow_fit [] (other ∷ others) kinds cells more h f k = absurd (true≢false (sym h))
  follow_fit (column ∷ columns) (other ∷ others) kinds [] more h f k = absurd (true≢false (sym f))
  follow_fit (column ∷ columns) (other ∷ others) kinds (c ∷ cells) more h f k =
      let parts = and_parts (same_name column.name other.name && same_kind column.kind other.kind) (follow columns others kinds) h in
      let kind = same_kind_is column.kind other.kind (and_parts (same_name column.name other.name) (same_kind column.kind other.kind) parts.0).1 in
      let fits = and_parts (fits_kind texts other.kind c) (fit_columns texts others cells) f in
      and_from (fits_kind texts column.kind c) (fit_columns texts columns (cells ++ more)) (ap (λ k. fits_kind texts k c) kind ∙ fits.0) (follow_fit columns others kinds cells more parts.1 fits.1 k)

  -- the cell of a column is of its kind
  cell_kind : (columns : List ColumnSpec) (cells : List ℤ) → Fits columns cells → (column : ℕ) → OfKind (kind_at columns column) (cell cells column)
  cell_kind [] cells h column kind e = absurd (cc)
  cell_kind (column ∷ columns) [] h place kind e = absurd (true≢false (sym h))
  cell_kind (column ∷ columns) (c ∷ cells) h zero kind e = ap (λ k. fits_kind texts k c) (sym (same_Some column.kind kind e)) ∙ (and_parts (fits_kind texts column.kind c) (fit_columns texts columns cells) h).0
  cell_kind (column ∷ columns) (c ∷ cells) h (suc place) kind e = cell_kind columns cells (and_parts (fits_kind texts column.kind c) (fit_columns texts columns cells) h).1 place kind e

  -- a formula's value is of its kind
  value_kind : (expr : Expr) (columns : List ColumnSpec) (cells : List ℤ) → Fits columns cells → has_ranks texts expr ≡ true → is_bound expr ≡ true → OfKind (kind_of expr (kinds_of columns)) (value expr cells)
  value_kind (Cell column) columns cells h r b = cell_kind columns cells h column
  value_kind (Number n) columns cells h r b = of_kind (Some Long) n (λ e. absurd (cc))
  value_kind Null columns cells h r b = of_kind (Some Long) null (λ e. absurd (cc))
  value_kind (Literal text) columns cells h r b = absurd (true≢false (sym b))
  value_kind (Rank rank) columns cells h r b = of_kind (Some Text) rank (λ e. or_right (is_null rank) (names_text texts rank) r)
  value_kind (Neg' p a) columns cells h r b = of_kind (long_alone (kind_of a (kinds_of columns))) (value (Neg' p a) cells) (λ e. absurd (long_is_not (kind_of a (kinds_of columns)) e))
  value_kind (Add' p a q b) columns cells h r s = of_kind (both_long (kind_of a (kinds_of columns)) (kind_of b (kinds_of columns))) (value (Add' p a q b) cells) (λ e. absurd (both_is_not (kind_of a (kinds_of columns)) (kind_of b (kinds_of columns)) e))
  value_kind (Sub' p a q b) columns cells h r s = of_kind (both_long (kind_of a (kinds_of columns)) (kind_of b (kinds_of columns))) (value (Sub' p a q b) cells) (λ e. absurd (both_is_not (kind_of a (kinds_of columns)) (kind_of b (kinds_of columns)) e))
  value_kind (Mul' p a q b) columns cells h r s = of_kind (both_long (kind_of a (kinds_of columns)) (kind_of b (kinds_of columns))) (value (Mul' p a q b) cells) (λ e. absurd (both_is_not (kind_of a (kinds_of columns)) (kind_of b (kinds_of columns)) e))

  -- the taken cells are of their kinds
  taken_kinds : (columns : List ColumnSpec) (take : List ℕ) (o : Option PlainRow) → IfSome o (λ (row : PlainRow). Fits columns row.cells) → FitKinds (map (kind_at columns) take) (taken take o)
  taken_kinds columns take None h = kinds_mapped (kind_at columns) (λ _. null) take (every (λ column. OfKind (kind_at columns column) null) take (λ column. of_kind (kind_at columns column) null (λ e. refl)))
  taken_kinds columns take (Some right) h = kinds_mapped (kind_at columns) (cell right.cells) take (every (λ column. OfKind (kind_at columns column) (cell right.cells column)) take (cell_kind columns right.cells h))

  -- an aggregate is of its kind
  aggregate_kind : (columns : List ColumnSpec) (rows : List PlainRow) → AllByRecursion (λ (row : PlainRow). Fits columns row.cells) rows → (agg : Agg) → OfKind (agg_kind columns agg) (aggregate rows agg)
  aggregate_kind columns rows h agg = of_kind (agg_kind columns agg) (aggregate rows agg) (text agg)
    where
      picked : (column : ℕ) → kind_at columns column ≡ Some Text → AllByRecursion (λ (row : PlainRow). fits_kind texts Text (cell row.cells column) ≡ true) rows
      picked column e = every_weaker (λ (row : PlainRow). Fits columns row.cells) (λ (row : PlainRow). fits_kind texts Text (cell row.cells column) ≡ true) rows (λ row f. cell_kind columns row.cells f column Text e) h

      text : (agg : Agg) → agg_kind columns agg ≡ Some Text → fits_kind texts Text (aggregate rows agg) ≡ true
      text Count e = absurd (cc)
      text (Sum column) e = absurd (long_is_not (kind_at columns column) e)
      text (Min column) e = (picked_every (λ c. fits_kind texts Text c ≡ true) refl rows column (picked column e)).0
      text (Max column) e = (picked_every (λ c. fits_kind texts Text c ≡ true) refl rows column (picked column e)).1
      text (First column) e = (picked_every (λ c. fits_kind texts Text c ≡ true) refl rows column (picked column e)).2
      text (Last column) e = (picked_every (λ c. fits_kind texts Text c ≡ true) refl rows column (picked column e)).3

  module _ (input : ℕ → List ColumnSpec) (columns : List ColumnSpec) (table : ℕ → PlainTable) where
    abbrev Row : ℕ → PlainRow → Type 0
    Row i row = Fits (input i) row.cells

    -- what an operator makes of rows that fit its inputs' columns fits its own
    made_kinds : (op : Op) → columns_fit op input columns ≡ true → has_op_ranks texts op ≡ true → MakesRows op Row (λ row. Fits columns row.cells)
    made_kinds Source f r = tt
    made_kinds (Keep from test) f r =
        let same = and_parts (same_columns columns (input from)) (test_fits test (kinds_of (input from))) (and_parts (same_columns columns (input from) && test_fits test (kinds_of (input from))) (is_test_bound test) f).0 in
        (λ row. same_fit columns (input from) row.cells same.0, tt)
    made_kinds (View from exprs) f r = λ row fits.
        let kinds = map (λ expr. kind_of expr (kinds_of (input from))) exprs in
        let follows = and_parts (some_of exprs && list_all is_bound exprs) (follow columns (input from) kinds) f in
        let bound = all_pass is_bound exprs (and_parts (some_of exprs) (list_all is_bound exprs) follows.0).1 in
        follow_fit columns (input from) kinds row.cells (map (λ expr. value expr row.cells) exprs) follows.1 fits
        (kinds_mapped (λ expr. kind_of expr (kinds_of (input from))) (λ expr. value expr row.cells) exprs
        (every_both (λ expr. has_ranks texts expr ≡ true) (λ expr. is_bound expr ≡ true) (λ expr. OfKind (kind_of expr (kinds_of (input from))) (value expr row.cells)) exprs (λ expr a b. value_kind expr (input from) row.cells fits a b)
        (all_pass (has_ranks texts) exprs r) bound))
    made_kinds (Join left right on take choice) f r = λ row found fits found_fits.
        follow_fit columns (input left) (map (kind_at (input right)) take) row.cells (taken take found) (and_parts _ (follow columns (input left) (map (kind_at (input right)) take)) f).1 fits (taken_kinds (input right) take found found_fits)
    made_kinds (AsOf left right on at take) f r = λ row found fits found_fits.
        follow_fit columns (input left) (map (kind_at (input right)) take) row.cells (taken take found) (and_parts _ (follow columns (input left) (map (kind_at (input right)) take)) f).1 fits (taken_kinds (input right) take found found_fits)
    made_kinds (AggOp from by aggs) f r = λ row group fits group_fits count.
        let kinds = map (kind_at (input from)) by ++ map (agg_kind (input from)) aggs in
        let have = and_parts (some_of aggs) (have_kinds columns kinds) (and_parts (some_of aggs && have_kinds columns kinds) (keep_names columns (input from) by) f).0 in
        have_fit columns kinds (key_cells by row.cells ++ map (aggregate group) aggs) have.1
        (kinds-append (map (kind_at (input from)) by) (map (agg_kind (input from)) aggs) (key_cells by row.cells) (map (aggregate group) aggs)
        (kinds_mapped (kind_at (input from)) (cell row.cells) by (every (λ column. OfKind (kind_at (input from) column) (cell row.cells column)) by (cell_kind (input from) row.cells fits)))
        (kinds_mapped (agg_kind (input from)) (aggregate group) aggs (every (λ agg. OfKind (agg_kind (input from) agg) (aggregate group agg)) aggs (aggregate_kind (input from) group group_fits))))
    made_kinds (Merge inputs) f r =
        every_weaker (λ i. same_columns columns (input i) ≡ true) (λ i. (row : PlainRow) → Row i row → (key : ℕ) → Fits columns row.cells) inputs (λ i same row fits key. same_fit columns (input i) row.cells same fits)
        (all_pass (λ i. same_columns columns (input i)) inputs (and_parts (nat_le 2 (length inputs) && nat_le (length inputs) 16) (list_all (λ i. same_columns columns (input i)) inputs) f).1)
    made_kinds (Sort from by) f r = λ row fits key. same_fit columns (input from) row.cells (and_parts (some_of by) (same_columns columns (input from)) (and_parts (some_of by && same_columns columns (input from)) _ f).0).1 fits
    made_kinds (Head from count) f r = (λ row. same_fit columns (input from) row.cells (and_parts (same_columns columns (input from)) (nat_le count 4194304) f).0, tt)
    made_kinds (Tail from count) f r = (λ row. same_fit columns (input from) row.cells (and_parts (same_columns columns (input from)) (nat_le count 4194304) f).0, tt)

    abbrev Fitting : ℕ → PlainRow → Type 0
    Fitting i row = FitsColumns (input i) texts row.cells

    pub result_fits : (op : Op) → columns_fit op input columns ≡ true → has_op_ranks texts op ≡ true → HasOpNumbers op
        → AllByRecursion (λ i. IsTable (table i)) (inputs_of op) → AllByRecursion (λ i. HasColumns (input i) texts (table i)) (inputs_of op) → HasColumns columns texts (result op table)
    result_fits op f r n t h =
        every_both (λ (row : PlainRow). Fits columns row.cells) (λ (row : PlainRow). AllByRecursion (FitsSigned w64) row.cells) (λ (row : PlainRow). FitsColumns columns texts row.cells) (result op table).rows
        (λ row kinds numbers. record { kinds = kinds; numbers = numbers })
        (result_has op Row (λ row. Fits columns row.cells) table (made_kinds op f r) t (each Row (λ i row fits. fits.kinds)))
        (result_cells op table t (each (λ i row. AllByRecursion (FitsSigned w64) row.cells) (λ i row fits. fits.numbers)) n)
      where
        each : (P : ℕ → PlainRow → Type 0) → ((i : ℕ) (row : PlainRow) → Fitting i row → P i row) → AllByRecursion (λ i. AllByRecursion (P i) (table i).rows) (inputs_of op)
        each P f = every_weaker (λ i. AllByRecursion (Fitting i) (table i).rows) (λ i. AllByRecursion (P i) (table i).rows) (inputs_of op) (λ i. every_weaker (Fitting i) (P i) (table i).rows (f i)) h
