-- What a node's table keeps to, where the tables of its inputs do.
use Rattle.std.proofs.Common.{true≢false, ◌≡◌, refl, ap, ap₂, sym, ◌∙◌, subst, Bool, true, false, cond, ◌&&◌, ℕ, suc, ◌+◌, ◌-◌, ◌*◌, ◌^◌, ◌<◌, ◌≤◌, arith, List, [], ◌∷◌, ◌++◌, length, map, take, filter, sum, Option, Some, None, length-append, length-drop, length-take}
use Rattle.std.{specs.Prelude.{nat_lt, nat_le, is_some}, specs.List.{AllByRecursion, sum_by, list_all}, proofs.lemmas.Bool.{and_parts, leb-true, ltb-false}, proofs.lemmas.List.length-map, proofs.lemmas.List.Sums.{length-filter, count_by-le-length, sum_by-cons}}
use Rattle.key_lists.{proofs.Every.{every_weaker, every-map, every-filter, every-append, all_from, map_same}, proofs.Parts.{every-take, every-drop}}
use Rattle.tick_model.{specs.declared.plan.Agg.Agg, specs.declared.plan.ColumnSpec.ColumnSpec, specs.declared.plan.Expr.Expr, specs.declared.plan.Kind.TheVariants.Long, specs.declared.plan.Op.Op, specs.declared.plan.Op.TheVariants.{Source, Keep, View, Join, Agg as AggOp, Merge, Sort, Head, Tail, AsOf}, specs.declared.plan.Pred.Pred, specs.declared.plan.SortBy.SortBy, specs.declared.table.NodeFault.TheVariants.TooManyRows, specs.declared.table.PlainRow.PlainRow, specs.declared.table.PlainTable.PlainTable, specs.Formulas.{truth, value}, specs.Where.where_table, specs.View.{view_row, view_table}, specs.Join.{taken, joined, chosen, matches}, specs.AsOf.{latest, not_later}, specs.Tables.{cell, null}, specs.Agg.{key_cells, group_of, aggregate, agg_row, is_first, agg_table}, specs.Merge.{last_key, region, row_from, merged_rows, merge_table, merge_fault}, specs.Sort.{in_order, sort_table}, specs.HeadTail.{head_table, tail_table}, specs.Columns.{kinds_of, kind_of, kind_at, agg_kind, test_fits, is_bound, is_test_bound, same_columns, have_kinds, keep_names, follow, some_of, same_kind_at, has_kind}, specs.Operators.{columns_fit, bound_of, inputs_of, is_source_op, result, fault_of}, specs.Ready.HaveRoom, proofs.TableRows.{every-ordered, length-ordered, length-numbered, numbered_whole, numbered_below, last_below, region_within}, proofs.Widths.{same_width, kinds_width, follow_width}}

-- the table has the node's width and at most 4,194,304 rows, whole ones, and keys below the node's bound, which is a multiple of 65,536
pub record IsResult (width bound : ℕ) (table : PlainTable) : Type 0 where
  pub width_is : table.width ≡ width
  pub few : length table.rows ≤ 4194304
  pub whole : AllByRecursion (λ row. length row.cells ≡ width) table.rows
  pub below : AllByRecursion (λ row. row.key < bound) table.rows
  pub regions : (m : ℕ) × (bound ≡ 65536 * suc m)

resized : {width wanted bound : ℕ} {table : PlainTable} → width ≡ wanted → IsResult width bound table → IsResult wanted bound table
resized {bound = bound} {table = table} e h = subst (λ width. IsResult width bound table) e h

-- fewer rows are few
filter_few : (p : PlainRow → Bool) (rows : List PlainRow) → length rows ≤ 4194304 → length (filter p rows) ≤ 4194304
filter_few p rows h = omega (arith, length-filter p rows, count_by-le-length p rows)

map_few : (f : PlainRow → PlainRow) (rows : List PlainRow) → length rows ≤ 4194304 → length (map f rows) ≤ 4194304
map_few f rows h = omega (arith, length-map rows f)

kept_result : (test : Pred) (input : PlainTable) (width bound : ℕ) → IsResult width bound input → IsResult width bound (where_table test input)
kept_result test input width bound h = record {
  width_is = h.width_is;
  few = filter_few (λ row. truth test row.cells) input.rows h.few;
  whole = every-filter (λ row. length row.cells ≡ width) (λ row. truth test row.cells) input.rows h.whole;
  below = every-filter (λ row. row.key < bound) (λ row. truth test row.cells) input.rows h.below;
  regions = h.regions;
}

viewed_result : (exprs : List Expr) (input : PlainTable) (width bound : ℕ) → IsResult width bound input → IsResult (width + length exprs) bound (view_table exprs input)
viewed_result exprs input width bound h = record {
  width_is = ap (λ n. n + length exprs) h.width_is;
  few = map_few (view_row exprs) input.rows h.few;
  whole = every-map (λ row. length row.cells ≡ width + length exprs) (view_row exprs) input.rows
      (every_weaker (λ row. length row.cells ≡ width) (λ row. length (view_row exprs row).cells ≡ width + length exprs) input.rows
      (λ row e. length-append row.cells (map (λ expr. value expr row.cells) exprs) ∙ ap₂ ◌+◌ e (length-map exprs (λ expr. value expr row.cells))) h.whole);
  below = every-map (λ row. row.key < bound) (view_row exprs) input.rows h.below;
  regions = h.regions;
}

pub taken_width : (take : List ℕ) (right : Option PlainRow) → length (taken take right) ≡ length take
taken_width take None = length-map take (λ _. null)
taken_width take (Some row) = length-map take (cell row.cells)

joined_result : (take : List ℕ) (right_of : PlainRow → Option PlainRow) (left : PlainTable) (width bound : ℕ) → IsResult width bound left
    → IsResult (width + length take) bound (record { width = left.width + length take; rows = map (joined take right_of) left.rows })
joined_result take right_of left width bound h = record {
  width_is = ap (λ n. n + length take) h.width_is;
  few = map_few (joined take right_of) left.rows h.few;
  whole = every-map (λ row. length row.cells ≡ width + length take) (joined take right_of) left.rows
      (every_weaker (λ row. length row.cells ≡ width) (λ row. length (joined take right_of row).cells ≡ width + length take) left.rows
      (λ row e. length-append row.cells (taken take (right_of row)) ∙ ap₂ ◌+◌ e (taken_width take (right_of row))) h.whole);
  below = every-map (λ row. row.key < bound) (joined take right_of) left.rows h.below;
  regions = h.regions;
}

grouped_result : (by : List ℕ) (aggs : List Agg) (input : PlainTable) (width bound : ℕ) → IsResult width bound input → IsResult (length by + length aggs) bound (agg_table by aggs input)
grouped_result by aggs input width bound h =
    let firsts = filter (is_first by input.rows) input.rows in
    record {
      width_is = refl;
      few = map_few (agg_row by aggs input.rows) firsts (filter_few (is_first by input.rows) input.rows h.few);
      whole = every-map (λ row. length row.cells ≡ length by + length aggs) (agg_row by aggs input.rows) firsts
          (every_weaker (λ row. row.key < bound) (λ row. length (agg_row by aggs input.rows row).cells ≡ length by + length aggs) firsts
          (λ row e. length-append (key_cells by row.cells) (map (aggregate (group_of by input.rows row)) aggs) ∙ ap₂ ◌+◌ (length-map by (cell row.cells)) (length-map aggs (aggregate (group_of by input.rows row))))
          (every-filter (λ row. row.key < bound) (is_first by input.rows) input.rows h.below));
      below = every-map (λ row. row.key < bound) (agg_row by aggs input.rows) firsts (every-filter (λ row. row.key < bound) (is_first by input.rows) input.rows h.below);
      regions = h.regions;
    }

sorted_result : (by : List SortBy) (input : PlainTable) (width bound : ℕ) → IsResult width bound input → IsResult width 4194304 (sort_table by input)
sorted_result by input width bound h =
    let rows = in_order by input.rows in
    let count : length rows ≡ length input.rows = length-ordered _ input.rows in
    record {
      width_is = h.width_is;
      few = omega (arith, length-numbered 0 rows, count, h.few);
      whole = numbered_whole width 0 rows (every-ordered (λ row. length row.cells ≡ width) _ input.rows h.whole);
      below = numbered_below 4194304 0 rows (omega (arith, count, h.few));
      regions = (63, refl);
    }

head_result : (count : ℕ) (input : PlainTable) (width bound : ℕ) → IsResult width bound input → IsResult width bound (head_table count input)
head_result count input width bound h = record {
  width_is = h.width_is;
  few = omega (arith, length-take count input.rows, h.few);
  whole = every-take (λ row. length row.cells ≡ width) count input.rows h.whole;
  below = every-take (λ row. row.key < bound) count input.rows h.below;
  regions = h.regions;
}

tail_result : (count : ℕ) (input : PlainTable) (width bound : ℕ) → IsResult width bound input → IsResult width bound (tail_table count input)
tail_result count input width bound h =
    let n = length input.rows - count in
    record {
      width_is = h.width_is;
      few = omega (arith, length-drop n input.rows, h.few);
      whole = every-drop (λ row. length row.cells ≡ width) n input.rows h.whole;
      below = every-drop (λ row. row.key < bound) n input.rows h.below;
      regions = h.regions;
    }

-- several inputs, each with its bound
abbrev pub AreResults : (ℕ → ℕ) → (ℕ → ℕ) → (ℕ → PlainTable) → List ℕ → Type 0
AreResults width bound table = AllByRecursion (λ input. IsResult (width input) (bound input) (table input))

region_below : (width bound : ℕ) (table : PlainTable) → IsResult width bound table → region table ≤ bound
region_below width bound table h =
    let m = h.regions.0 in
    let e : bound ≡ 65536 * suc m = h.regions.1 in
    let within : region table ≤ 65536 * suc m = region_within m table (subst (λ n. AllByRecursion (λ (row : PlainRow). row.key < n) table.rows) e h.below) in
    omega (arith, within, e)

last_key_below : (width bound : ℕ) (table : PlainTable) → IsResult width bound table → last_key table.rows < bound
last_key_below width bound table h =
    let e : bound ≡ 65536 * suc h.regions.0 = h.regions.1 in
    last_below bound 0 table.rows (omega (arith, e)) h.below

-- the keys of merged inputs have room
pub merged_room : (limit : ℕ) (width bound : ℕ → ℕ) (table : ℕ → PlainTable) (inputs : List ℕ) (offset : ℕ) → limit ≤ 2 ^ 62 → AreResults width bound table inputs → offset + sum (map bound inputs) ≤ limit
    → HaveRoom offset (map table inputs)
merged_room limit width bound table [] offset small h room = tt
merged_room limit width bound table (input ∷ inputs) offset small h room =
    let total : sum (map bound (input ∷ inputs)) ≡ bound input + sum (map bound inputs) = sum_by-cons (λ n. n) (bound input) (map bound inputs) in
    let within : region (table input) ≤ bound input = region_below (width input) (bound input) (table input) h.0 in
    let last : last_key (table input).rows < bound input = last_key_below (width input) (bound input) (table input) h.0 in
    let fits : offset + bound input ≤ 2 ^ 62 = omega (arith, total, room, small) in (
      record {
        keys = all_from (λ row. row.key + offset < 2 ^ 62) (table input).rows (every_weaker (λ row. row.key < bound input) (λ row. row.key + offset < 2 ^ 62) (table input).rows (λ row k. omega (arith, k, fits)) h.0.below);
        last = omega (arith, last, fits);
        next = omega (arith, within, fits);
      },
      merged_room limit width bound table inputs (offset + region (table input)) small h.1 (omega (arith, total, room, within)),
    )

-- merged keys are below the sum of the bounds
merged_below : (limit : ℕ) (width bound : ℕ → ℕ) (table : ℕ → PlainTable) (inputs : List ℕ) (offset : ℕ) → AreResults width bound table inputs → offset + sum (map bound inputs) ≤ limit
    → AllByRecursion (λ row. row.key < limit) (merged_rows offset (map table inputs))
merged_below limit width bound table [] offset h room = tt
merged_below limit width bound table (input ∷ inputs) offset h room =
    let total : sum (map bound (input ∷ inputs)) ≡ bound input + sum (map bound inputs) = sum_by-cons (λ n. n) (bound input) (map bound inputs) in
    let within : region (table input) ≤ bound input = region_below (width input) (bound input) (table input) h.0 in
    let fits : offset + bound input ≤ limit = omega (arith, total, room) in
    every-append (λ row. row.key < limit) (map (row_from offset) (table input).rows) (merged_rows (offset + region (table input)) (map table inputs))
    (every-map (λ row. row.key < limit) (row_from offset) (table input).rows (every_weaker (λ row. row.key < bound input) (λ row. row.key + offset < limit) (table input).rows (λ row k. omega (arith, k, fits)) h.0.below))
    (merged_below limit width bound table inputs (offset + region (table input)) h.1 (omega (arith, total, room, within)))

merged_whole : (wanted : ℕ) (width bound : ℕ → ℕ) (table : ℕ → PlainTable) (inputs : List ℕ) (offset : ℕ) → AreResults width bound table inputs → AllByRecursion (λ input. width input ≡ wanted) inputs
    → AllByRecursion (λ row. length row.cells ≡ wanted) (merged_rows offset (map table inputs))
merged_whole wanted width bound table [] offset h w = tt
merged_whole wanted width bound table (input ∷ inputs) offset h w =
    every-append (λ row. length row.cells ≡ wanted) (map (row_from offset) (table input).rows) (merged_rows (offset + region (table input)) (map table inputs))
    (every-map (λ row. length row.cells ≡ wanted) (row_from offset) (table input).rows (every_weaker (λ row. length row.cells ≡ width input) (λ row. length row.cells ≡ wanted) (table input).rows (λ row e. e ∙ w.0) h.0.whole))
    (merged_whole wanted width bound table inputs (offset + region (table input)) h.1 w.1)

merged_count : (offset : ℕ) (inputs : List PlainTable) → length (merged_rows offset inputs) ≡ sum_by (λ input. length input.rows) inputs
merged_count offset [] = refl
merged_count offset (input ∷ inputs) =
    let total : sum_by (λ (input : PlainTable). length input.rows) (input ∷ inputs) ≡ length input.rows + sum_by (λ (input : PlainTable). length input.rows) inputs = sum_by-cons (λ (input : PlainTable). length input.rows) input inputs in
    length-append (map (row_from offset) input.rows) (merged_rows (offset + region input) inputs)
    ∙ ap₂ ◌+◌ (length-map input.rows (row_from offset)) (merged_count (offset + region input) inputs) ∙ sym total

few_without_fault : (inputs : List PlainTable) → merge_fault inputs ≡ None → sum_by (λ input. length input.rows) inputs ≤ 4194304
few_without_fault inputs h =
    let count = sum_by (λ (input : PlainTable). length input.rows) inputs in
    (elim (nat_lt 4194304 count) as (λ b. nat_lt 4194304 count ≡ b → cond b (Some (TooManyRows count)) None ≡ None → count ≤ 4194304) [
      | true ↦ λ e s. absurd (cc)
      | false ↦ λ e s. ltb-false 4194304 count e
    ]) refl h

-- the sum of multiples is one
sum_regions : (width bound : ℕ → ℕ) (table : ℕ → PlainTable) (inputs : List ℕ) → AreResults width bound table inputs → (k : ℕ) × (sum (map bound inputs) ≡ 65536 * k)
sum_regions width bound table [] h = (0, refl)
sum_regions width bound table (input ∷ inputs) h =
    let total : sum (map bound (input ∷ inputs)) ≡ bound input + sum (map bound inputs) = sum_by-cons (λ n. n) (bound input) (map bound inputs) in
    let rest = sum_regions width bound table inputs h.1 in
    let own : bound input ≡ 65536 * suc h.0.regions.0 = h.0.regions.1 in
    let others : sum (map bound inputs) ≡ 65536 * rest.0 = rest.1 in
    (suc h.0.regions.0 + rest.0, omega (arith, total, own, others))

merged_result : (wanted : ℕ) (width bound : ℕ → ℕ) (table : ℕ → PlainTable) (inputs : List ℕ) → 0 < length inputs → AreResults width bound table inputs → AllByRecursion (λ input. width input ≡ wanted) inputs
    → merge_fault (map table inputs) ≡ None → IsResult wanted (sum (map bound inputs)) (merge_table (map table inputs))
merged_result wanted width bound table [] some h w none = absurd (omega arith)
merged_result wanted width bound table (input ∷ inputs) some h w none =
    let all = input ∷ inputs in
    let total : sum (map bound (input ∷ inputs)) ≡ bound input + sum (map bound inputs) = sum_by-cons (λ n. n) (bound input) (map bound inputs) in
    let rest = sum_regions width bound table inputs h.1 in
    let own : bound input ≡ 65536 * suc h.0.regions.0 = h.0.regions.1 in
    let others : sum (map bound inputs) ≡ 65536 * rest.0 = rest.1 in
    record {
      width_is = h.0.width_is ∙ w.0;
      few = omega (arith, merged_count 0 (map table all), few_without_fault (map table all) none);
      whole = merged_whole wanted width bound table all 0 h w;
      below = merged_below (sum (map bound all)) width bound table all 0 h (omega arith);
      regions = (h.0.regions.0 + rest.0, omega (arith, total, own, others));
    }

-- an operator that is no source
abbrev pub IsOperator : Op → Type 0
IsOperator op = is_source_op op ≡ false

merged_widths : (columns : ℕ → List ColumnSpec) (cols : List ColumnSpec) (inputs : List ℕ) → list_all (λ from. same_columns cols (columns from)) inputs ≡ true → AllByRecursion (λ input. length (columns input) ≡ length cols) inputs
merged_widths columns cols [] h = tt
merged_widths columns cols (input ∷ inputs) h =
    let parts = and_parts (same_columns cols (columns input)) (list_all (λ from. same_columns cols (columns from)) inputs) h in
    (sym (same_width cols (columns input) parts.0), merged_widths columns cols inputs parts.1)

-- an operator's table, where its columns fit
pub result_is : (op : Op) (columns : ℕ → List ColumnSpec) (bound : ℕ → ℕ) (table : ℕ → PlainTable) (cols : List ColumnSpec) → IsOperator op → columns_fit op columns cols ≡ true
    → AreResults (λ input. length (columns input)) bound table (inputs_of op) → fault_of op table ≡ None → IsResult (length cols) (bound_of op bound) (result op table)
result_is Source columns bound table cols o fit h none = absurd (true≢false o)
result_is (Keep from test) columns bound table cols o fit h none =
    let same = (and_parts (same_columns cols (columns from)) (test_fits test (kinds_of (columns from))) (and_parts (same_columns cols (columns from) && test_fits test (kinds_of (columns from))) (is_test_bound test) fit).0).0 in
    resized (sym (same_width cols (columns from) same)) (kept_result test (table from) (length (columns from)) (bound from) h.0)
result_is (View from exprs) columns bound table cols o fit h none =
    let kinds = map (λ expr. kind_of expr (kinds_of (columns from))) exprs in
    let follows = (and_parts (some_of exprs && list_all is_bound exprs) (follow cols (columns from) kinds) fit).1 in
    let width : length (columns from) + length exprs ≡ length cols = ap (λ n. length (columns from) + n) (sym (length-map exprs (λ expr. kind_of expr (kinds_of (columns from))))) ∙ sym (follow_width cols (columns from) kinds follows) in
    resized width (viewed_result exprs (table from) (length (columns from)) (bound from) h.0)
result_is (Join left right on take choice) columns bound table cols o fit h none =
    let kinds = map (kind_at (columns right)) take in
    let follows = (and_parts (some_of on && some_of take && list_all (same_kind_at (columns left) (columns right)) on) (follow cols (columns left) kinds) fit).1 in
    let width : length (columns left) + length take ≡ length cols = ap (λ n. length (columns left) + n) (sym (length-map take (kind_at (columns right)))) ∙ sym (follow_width cols (columns left) kinds follows) in
    resized width (joined_result take (λ row. chosen choice (matches on (table right).rows row)) (table left) (length (columns left)) (bound left) h.0)
result_is (AggOp from by aggs) columns bound table cols o fit h none =
    let keys = map (kind_at (columns from)) by in
    let values = map (agg_kind (columns from)) aggs in
    let kinds = (and_parts (some_of aggs) (have_kinds cols (keys ++ values)) (and_parts (some_of aggs && have_kinds cols (keys ++ values)) (keep_names cols (columns from) by) fit).0).1 in
    let width : length by + length aggs ≡ length cols = ap₂ ◌+◌ (sym (length-map by (kind_at (columns from)))) (sym (length-map aggs (agg_kind (columns from)))) ∙ sym (length-append keys values) ∙ sym (kinds_width cols (keys ++ values) kinds) in
    resized width (grouped_result by aggs (table from) (length (columns from)) (bound from) h.0)
result_is (Merge inputs) columns bound table cols o fit h none =
    let parts = and_parts (nat_le 2 (length inputs) && nat_le (length inputs) 16) (list_all (λ from. same_columns cols (columns from)) inputs) fit in
    let many = leb-true 2 (length inputs) (and_parts (nat_le 2 (length inputs)) (nat_le (length inputs) 16) parts.0).0 in
    merged_result (length cols) (λ input. length (columns input)) bound table inputs (omega (arith, many)) h (merged_widths columns cols inputs parts.1) none
result_is (Sort from by) columns bound table cols o fit h none =
    let same = (and_parts (some_of by) (same_columns cols (columns from)) (and_parts (some_of by && same_columns cols (columns from)) (list_all (λ (sort : SortBy). is_some (kind_at (columns from) sort.column)) by) fit).0).1 in
    resized (sym (same_width cols (columns from) same)) (sorted_result by (table from) (length (columns from)) (bound from) h.0)
result_is (Head from rows) columns bound table cols o fit h none =
    let same = (and_parts (same_columns cols (columns from)) (nat_le rows 4194304) fit).0 in
    resized (sym (same_width cols (columns from) same)) (head_result rows (table from) (length (columns from)) (bound from) h.0)
result_is (Tail from rows) columns bound table cols o fit h none =
    let same = (and_parts (same_columns cols (columns from)) (nat_le rows 4194304) fit).0 in
    resized (sym (same_width cols (columns from) same)) (tail_result rows (table from) (length (columns from)) (bound from) h.0)
result_is (AsOf left right on at take) columns bound table cols o fit h none =
    let kinds = map (kind_at (columns right)) take in
    let before = some_of take && list_all (same_kind_at (columns left) (columns right)) on && has_kind Long (kind_at (columns left) at.left) && has_kind Long (kind_at (columns right) at.right) in
    let follows = (and_parts before (follow cols (columns left) kinds) fit).1 in
    let width : length (columns left) + length take ≡ length cols = ap (λ n. length (columns left) + n) (sym (length-map take (kind_at (columns right)))) ∙ sym (follow_width cols (columns left) kinds follows) in
    resized width (joined_result take (λ row. latest at.right (not_later on at (table right).rows row)) (table left) (length (columns left)) (bound left) h.0)

-- an operator's bound is that of its inputs' bounds alone
pub bound_same : (op : Op) (f g : ℕ → ℕ) → AllByRecursion (λ input. f input ≡ g input) (inputs_of op) → bound_of op f ≡ bound_of op g
bound_same Source f g h = refl
bound_same (Merge inputs) f g h = ap sum (map_same f g inputs h)
bound_same (Sort from by) f g h = refl
bound_same op f g h = h.0

-- whether columns fit is seen from those of the inputs alone
merged_same : (f g : ℕ → List ColumnSpec) (columns : List ColumnSpec) (inputs : List ℕ) → AllByRecursion (λ i. f i ≡ g i) inputs → list_all (λ from. same_columns columns (f from)) inputs ≡ list_all (λ from. same_columns columns (g from)) inputs
merged_same f g columns [] same = refl
merged_same f g columns (input ∷ inputs) same =
    ap (λ table. same_columns columns table && list_all (λ from. same_columns columns (f from)) inputs) same.0 ∙ ap (λ rest. same_columns columns (g input) && rest) (merged_same f g columns inputs same.1)

pub columns_fit_same : (op : Op) (f g : ℕ → List ColumnSpec) (columns : List ColumnSpec) → AllByRecursion (λ i. f i ≡ g i) (inputs_of op) → columns_fit op f columns ≡ columns_fit op g columns
columns_fit_same Source f g columns same = refl
columns_fit_same (Join left right on taken choice) f g columns same =
    ap (λ table. some_of on && some_of taken && list_all (same_kind_at table (f right)) on && follow columns table (map (kind_at (f right)) taken)) same.0
    ∙ ap (λ table. some_of on && some_of taken && list_all (same_kind_at (g left) table) on && follow columns (g left) (map (kind_at table) taken)) same.1.0
columns_fit_same (Merge inputs) f g columns same = ap (λ rest. nat_le 2 (length inputs) && nat_le (length inputs) 16 && rest) (merged_same f g columns inputs same)
columns_fit_same (AsOf left right on at taken) f g columns same =
    ap (λ table. some_of taken && list_all (same_kind_at table (f right)) on && has_kind Long (kind_at table at.left) && has_kind Long (kind_at (f right) at.right) && follow columns table (map (kind_at (f right)) taken)) same.0
    ∙ ap (λ table. some_of taken && list_all (same_kind_at (g left) table) on && has_kind Long (kind_at (g left) at.left) && has_kind Long (kind_at table at.right) && follow columns (g left) (map (kind_at table) taken)) same.1.0
columns_fit_same op f g columns same = ap (λ table. columns_fit op (λ _. table) columns) same.0

-- an operator has from 1 to 16 inputs
pub record HasInputs (op : Op) : Type 0 where
  pub many : 1 ≤ length (inputs_of op)
  pub few : length (inputs_of op) ≤ 16

pub has_inputs : (op : Op) (input : ℕ → List ColumnSpec) (columns : List ColumnSpec) → columns_fit op input columns ≡ true → IsOperator op → HasInputs op
has_inputs Source input columns fit is = absurd (true≢false is)
has_inputs (Merge []) input columns fit is = absurd (true≢false (sym (and_parts (nat_le 2 0 && nat_le 0 16) true fit).0))
has_inputs (Merge (from ∷ others)) input columns fit is =
    let alike = list_all (λ from. same_columns columns (input from)) (from ∷ others) in
    let parts = and_parts (nat_le 2 (length (from ∷ others)) && nat_le (length (from ∷ others)) 16) alike fit in
    let count = and_parts (nat_le 2 (length (from ∷ others))) (nat_le (length (from ∷ others)) 16) parts.0 in
    record { many = omega arith; few = leb-true (length (from ∷ others)) 16 count.1 }
has_inputs op input columns fit is = record { many = omega arith; few = omega arith }

-- a source is one, and reads no node
source_is : (op : Op) → is_source_op op ≡ true → op ≡ Source
source_is Source is = refl
source_is op is = absurd (true≢false (sym is))

pub source_inputs : (op : Op) → is_source_op op ≡ true → inputs_of op ≡ []
source_inputs op is = ap inputs_of (source_is op is)

pub source_bound : (op : Op) (bound : ℕ → ℕ) → is_source_op op ≡ true → bound_of op bound ≡ 2 ^ 40
source_bound op bound is = ap (λ op. bound_of op bound) (source_is op is)
