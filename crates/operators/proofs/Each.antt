-- What holds of each operator: it can be made where its columns fit, makes a table without rows of such ones, and may go to another thread.
use denote.Param.Send.{IsSend, sendable}
use Rattle.std.proofs.Common.{◌≡◌, refl, sym, ◌∙◌, subst, true, false, true≢false, ◌&&◌, ℕ, ◌+◌, ◌<◌, ◌≤◌, arith, List, [], ◌∷◌, ◌++◌, length, map, length-append, ap, ap₂, zero, suc, ◌-◌, take, drop}
use Rattle.std.{specs.Prelude.{nat_le, is_some, slice_index}, specs.List.{AllByRecursion, list_all}, proofs.lemmas.Bool.{and_parts, leb-true}, proofs.lemmas.List.length-map}
use Rattle.key_lists.proofs.Every.{every_weaker, every-map, every_unmapped}
use Rattle.tick_model.{specs.declared.plan.Agg.Agg, specs.declared.plan.Agg.TheVariants.{Count, Sum, Min, Max, First, Last}, specs.declared.plan.ColumnSpec.ColumnSpec, specs.declared.plan.Expr.Cell, specs.declared.plan.Kind.TheVariants.Long, specs.declared.plan.Op.Op, specs.declared.plan.Op.TheVariants.{Source, Keep, View, Join, Agg as AggOp, Merge, Sort, Head, Tail, AsOf}, specs.Operators.{inputs_of, result, columns_fit, result_width}, specs.Formulas.{IsTestWithin, IsWithin}, specs.Columns.{agg_kind, follow, has_kind, have_kinds, keep_names, is_bound, is_test_bound, kind_at, kind_of, kinds_of, same_columns, same_kind_at, some_of, test_fits}, proofs.Results.IsOperator, proofs.Widths.{all_within, follow_some, follow_width, have_some, kinds_width, same_width, test_within, within, long_some}, specs.declared.table.PlainRow.PlainRow, specs.declared.table.PlainTable.PlainTable, specs.Agg.agg_table, specs.AsOf.asof_table, specs.HeadTail.{head_table, tail_table}, specs.Join.join_table, specs.Merge.{merge_table, width_of}, specs.Sort.sort_table, specs.View.view_table, specs.Where.where_table}
use Rattle.agg_by.specs.Aggregator.{IsColumn}
use Rattle.operators.specs.Operating.{CanBeMade}
use Rattle.tick_laws.proofs.EvalNodes.{all_pass}
use Rattle.tick_table.specs.Ticking.{no_rows}
use Rattle.merge_op.proofs.Planned.{none_merged}
use Rattle.boxcar.proofs.Sent.{tag_send}
use Rattle.std.proofs.Crossing as crossing
use Rattle.std.proofs.MapsCrossing as maps
use Rattle.tick_model.proofs.plan.Comparison.TheSendSync as comparison
use Rattle.tick_model.proofs.plan.Expr.TheLaws.TheKnot as expr
use Rattle.tick_model.proofs.plan.Pred.TheLaws.TheKnot as pred
use Rattle.row_set.proofs.rows.RowSet.TheSendSync as row_set
use Rattle.agg_by.proofs.aggregation.Aggregation.TheSendSync as aggregation
use Rattle.head_tail.proofs.end_rows.EndRows.TheSendSync as end_rows
use Rattle.lookup_join.proofs.as_of_op.AsOfOp.TheSendSync as as_of_op
use Rattle.lookup_join.proofs.join_op.JoinOp.TheSendSync as join_op
use Rattle.merge_op.proofs.merging.Merge.TheSendSync as merge
use Rattle.sort_op.proofs.operator.SortOp.TheSendSync as sort_op
use Rattle.operators.specs.contracts.operator.Operator as operator

kinds_count : (columns : List ColumnSpec) → length (kinds_of columns) ≡ length columns
kinds_count columns = length-map columns (λ (column : ColumnSpec). column.kind)

-- a column that has a kind is one of the columns
column_there : (columns : List ColumnSpec) (column : ℕ) → is_some (kind_at columns column) ≡ true → column < length columns
column_there columns column s = subst (λ n. column < n) (kinds_count columns) (within (Cell column) (kinds_of columns) s refl)

columns_there : (columns : List ColumnSpec) (taken : List ℕ) → AllByRecursion (λ k. is_some k ≡ true) (map (kind_at columns) taken) → AllByRecursion (λ column. column < length columns) taken
columns_there columns taken h =
    every_weaker (λ column. is_some (kind_at columns column) ≡ true) (λ column. column < length columns) taken (column_there columns) (every_unmapped (λ k. is_some k ≡ true) (kind_at columns) taken h)

aggregate_there : (columns : List ColumnSpec) (agg : Agg) → is_some (agg_kind columns agg) ≡ true → IsColumn (length columns) agg
aggregate_there columns Count s = tt
aggregate_there columns (Sum column) s = column_there columns column (long_some (kind_at columns column) s)
aggregate_there columns (Min column) s = column_there columns column s
aggregate_there columns (Max column) s = column_there columns column s
aggregate_there columns (First column) s = column_there columns column s
aggregate_there columns (Last column) s = column_there columns column s

both_parts : {X : Type 0} (P : X → Type 0) (xs ys : List X) → AllByRecursion P (xs ++ ys) → AllByRecursion P xs × AllByRecursion P ys
both_parts P [] ys h = (tt, h)
both_parts P (x ∷ xs) ys h = let rest = both_parts P xs ys h.1 in ((h.0, rest.0), rest.1)

some_there : {X : Type 0} (xs : List X) → some_of xs ≡ true → 1 ≤ length xs
some_there [] h = absurd (true≢false (sym h))
some_there (x ∷ xs) h = omega arith

pub record IsPlanned (op : Op) (inputs : List ℕ) (columns : List ColumnSpec) : Type 0 where
  pub made : CanBeMade op inputs
  pub width : result_width op inputs ≡ length columns

module _ (input : ℕ → List ColumnSpec) (columns : List ColumnSpec) (narrow : length columns ≤ 32) where
  abbrev width : ℕ → ℕ
  width node = length (input node)

  -- the cells that are taken of a right input's rows
  taken_there : (op : Op) (left right : ℕ) (taken : List ℕ) → follow columns (input left) (map (kind_at (input right)) taken) ≡ true
      → (width left + length taken ≤ 32) × AllByRecursion (λ column. column < width right) taken × (width left + length taken ≡ length columns)
  taken_there op left right taken follows =
      let kinds = map (kind_at (input right)) taken in
      let count : length kinds ≡ length taken = length-map taken (kind_at (input right)) in
      let wide : length columns ≡ length (input left) + length kinds = follow_width columns (input left) kinds follows in
      (omega (arith, count, wide, narrow), columns_there (input right) taken (follow_some columns (input left) kinds follows), omega (arith, count, wide))

  pub planned : (op : Op) → IsOperator op → columns_fit op input columns ≡ true → IsPlanned op (map width (inputs_of op)) columns
  planned Source o fit = absurd (true≢false o)
  planned (Keep from test) o fit =
      let parts = and_parts (same_columns columns (input from) && test_fits test (kinds_of (input from))) (is_test_bound test) fit in
      let fits = and_parts (same_columns columns (input from)) (test_fits test (kinds_of (input from))) parts.0 in
      record {
        made = subst (λ n. IsTestWithin n test) (kinds_count (input from)) (test_within test (kinds_of (input from)) fits.1 parts.1);
        width = sym (same_width columns (input from) fits.0);
      }
  planned (View from exprs) o fit =
      let kinds = map (λ expr. kind_of expr (kinds_of (input from))) exprs in
      let parts = and_parts (some_of exprs && list_all is_bound exprs) (follow columns (input from) kinds) fit in
      let bounds = (and_parts (some_of exprs) (list_all is_bound exprs) parts.0).1 in
      let count : length kinds ≡ length exprs = length-map exprs (λ expr. kind_of expr (kinds_of (input from))) in
      let wide : length columns ≡ length (input from) + length kinds = follow_width columns (input from) kinds parts.1 in
      record {
        made = (omega (arith, count, wide, narrow), subst (λ n. AllByRecursion (IsWithin n) exprs) (kinds_count (input from)) (all_within exprs (kinds_of (input from)) (follow_some columns (input from) kinds parts.1) bounds));
        width = omega (arith, count, wide);
      }
  planned (Join left right on taken choice) o fit =
      let follows = (and_parts (some_of on && some_of taken && list_all (same_kind_at (input left) (input right)) on) (follow columns (input left) (map (kind_at (input right)) taken)) fit).1 in
      let there = taken_there (Join left right on taken choice) left right taken follows in
      record { made = (there.0, there.1); width = there.2 }
  planned (AggOp from by aggs) o fit =
      let keys = map (kind_at (input from)) by in
      let values = map (agg_kind (input from)) aggs in
      let parts = and_parts (some_of aggs) (have_kinds columns (keys ++ values)) (and_parts (some_of aggs && have_kinds columns (keys ++ values)) (keep_names columns (input from) by) fit).0 in
      let wide : length columns ≡ length (keys ++ values) = kinds_width columns (keys ++ values) parts.1 in
      let of_keys : length keys ≡ length by = length-map by (kind_at (input from)) in
      let of_values : length values ≡ length aggs = length-map aggs (agg_kind (input from)) in
      let both : length (keys ++ values) ≡ length keys + length values = length-append keys values in
      let some = some_there aggs parts.0 in
      let there = both_parts (λ k. is_some k ≡ true) keys values (have_some columns (keys ++ values) parts.1) in
      record {
        made = record {
          some = omega (arith, some);
          few = omega (arith, wide, of_keys, of_values, both, narrow);
          by_within = columns_there (input from) by there.0;
          aggs_within = every_weaker (λ agg. is_some (agg_kind (input from) agg) ≡ true) (IsColumn (width from)) aggs (aggregate_there (input from)) (every_unmapped (λ k. is_some k ≡ true) (agg_kind (input from)) aggs there.1);
        };
        width = omega (arith, wide, of_keys, of_values, both);
      }
  planned (Merge []) o fit = absurd (true≢false (sym (and_parts (nat_le 2 0 && nat_le 0 16) true fit).0))
  planned (Merge (from ∷ inputs)) o fit =
      let alike = list_all (λ from. same_columns columns (input from)) (from ∷ inputs) in
      let parts = and_parts (nat_le 2 (length (from ∷ inputs)) && nat_le (length (from ∷ inputs)) 16) alike fit in
      let many = and_parts (nat_le 2 (length (from ∷ inputs))) (nat_le (length (from ∷ inputs)) 16) parts.0 in
      let same : AllByRecursion (λ from. width from ≡ length columns) (from ∷ inputs) =
      every_weaker (λ from. same_columns columns (input from) ≡ true) (λ from. width from ≡ length columns) (from ∷ inputs) (λ from e. sym (same_width columns (input from) e)) (all_pass (λ from. same_columns columns (input from)) (from ∷ inputs) parts.1)
      in
      let first : width from ≡ length columns = same.0 in
      record {
        made = (
          leb-true 2 (length (from ∷ inputs)) many.0,
          leb-true (length (from ∷ inputs)) 16 many.1,
          omega (arith, first, narrow),
          every-map (λ n. n ≡ width from) width (from ∷ inputs) (every_weaker (λ from. width from ≡ length columns) (λ other. width other ≡ width from) (from ∷ inputs) (λ other e. e ∙ sym first) same),
        );
        width = first;
      }
  planned (Sort from by) o fit =
      let fits = and_parts (some_of by && same_columns columns (input from)) (list_all (λ sort. is_some (kind_at (input from) sort.column)) by) fit in
      record { made = tt; width = sym (same_width columns (input from) (and_parts (some_of by) (same_columns columns (input from)) fits.0).1) }
  planned (Head from rows) o fit = record { made = tt; width = sym (same_width columns (input from) (and_parts (same_columns columns (input from)) (nat_le rows 4194304) fit).0) }
  planned (Tail from rows) o fit = record { made = tt; width = sym (same_width columns (input from) (and_parts (same_columns columns (input from)) (nat_le rows 4194304) fit).0) }
  planned (AsOf left right on at taken) o fit =
      let before = some_of taken && list_all (same_kind_at (input left) (input right)) on && has_kind Long (kind_at (input left) at.left) && has_kind Long (kind_at (input right) at.right) in
      let follows = (and_parts before (follow columns (input left) (map (kind_at (input right)) taken)) fit).1 in
      let there = taken_there (AsOf left right on at taken) left right taken follows in
      record { made = (there.0, there.1); width = there.2 }

-- the first of tables without rows
first_empty : (table : PlainTable) (rest : List PlainTable) (widths : List ℕ) → table ∷ rest ≡ map no_rows widths → table ≡ no_rows (slice_index widths 0)
first_empty table rest [] e = absurd (omega (arith, ap length e))
first_empty table rest (width ∷ widths) e = ap (go table) e
  where
    go : PlainTable → List PlainTable → PlainTable
    go d [] = d
    go d (t ∷ ts) = t

taken : (n : ℕ) → take n (let none : List PlainRow = [] in none) ≡ []
taken zero = refl
taken (suc n) = refl

dropped : (n : ℕ) → drop n (let none : List PlainRow = [] in none) ≡ []
dropped zero = refl
dropped (suc n) = refl

-- as many rows as they are, in this width
abbrev with_rows : ℕ → List PlainRow → PlainTable
with_rows width rows = record { width = width; rows = rows }

merged_width : (widths : List ℕ) → width_of (map no_rows widths) ≡ slice_index widths 0
merged_width [] = refl
merged_width (width ∷ widths) = refl

pub empty_result : (op : Op) (table : ℕ → PlainTable) (widths : List ℕ) → map table (inputs_of op) ≡ map no_rows widths → result op table ≡ no_rows (result_width op widths)
empty_result Source table widths e = refl
empty_result (Keep input test) table widths e = ap (where_table test) (first_empty (table input) [] widths e)
empty_result (View input exprs) table widths e = ap (view_table exprs) (first_empty (table input) [] widths e)
empty_result (Join left right on taken choice) table widths e = ap (λ (t : PlainTable). join_table on taken choice t (table right)) (first_empty (table left) (table right ∷ []) widths e)
empty_result (AggOp input by aggs) table widths e = ap (agg_table by aggs) (first_empty (table input) [] widths e)
empty_result (Merge inputs) table widths e = ap merge_table e ∙ ap₂ with_rows (merged_width widths) (none_merged 0 widths)
empty_result (Sort input by) table widths e = ap (sort_table by) (first_empty (table input) [] widths e)
empty_result (Head input rows) table widths e = ap (head_table rows) (first_empty (table input) [] widths e) ∙ ap (with_rows (slice_index widths 0)) (taken rows)
empty_result (Tail input rows) table widths e = ap (tail_table rows) (first_empty (table input) [] widths e) ∙ ap (with_rows (slice_index widths 0)) (dropped (0 - rows))
empty_result (AsOf left right on at taken) table widths e = ap (λ (t : PlainTable). asof_table on at taken t (table right)) (first_empty (table left) (table right ∷ []) widths e)

pub operator_send : IsSend operator.the_row
operator_send = search (
  aggregation.the_send,
  as_of_op.the_send,
  end_rows.the_send,
  merge.the_send,
  join_op.the_send,
  row_set.the_send,
  sort_op.the_send,
  tag_send,
  comparison.the_field_send,
  maps.crosses,
  crossing.crosses,
  expr.crosses,
  pred.crosses,
  sendable,
) depth 60 fits 20000
