-- A lawful operator may be applied to its inputs' tables, and what comes of it is its outcome.
use Rattle.std.proofs.Common.{true≢false, if◌then◌else◌, ◌≡◌, refl, ap, ap₂, sym, ◌∙◌, subst, Bool, true, false, ◌&&◌, ℕ, ◌+◌, ◌^◌, ◌<◌, ◌≤◌, arith, List, [], ◌∷◌, ◌++◌, length, map, sum, length-append, Option}
use Rattle.std.{specs.Prelude.nat_le, specs.List.{All, AllByRecursion, list_all}, proofs.lemmas.Bool.{and_parts, leb-true}, proofs.lemmas.List.{length-map, get_or-map}, proofs.lemmas.List.Elements.recursion_from_All}
use Rattle.key_lists.proofs.Every.{every_weaker, all_from, map_same}
use Rattle.tick_model.{specs.declared.plan.ColumnSpec.ColumnSpec, specs.declared.plan.Kind.Kind, specs.declared.plan.Op.Op, specs.declared.plan.Op.TheVariants.{Source, Keep, View, Join, Agg as AggOp, Merge, AsOf}, specs.declared.table.PlainTable.PlainTable, specs.Formulas.{IsWithin, IsTestWithin}, specs.Join.{join_table, join_fault}, specs.AsOf.asof_table, specs.Merge.{merge_table, merge_fault}, specs.Columns.{kinds_of, kind_of, kind_at, agg_kind, test_fits, is_bound, is_test_bound, same_columns, have_kinds, keep_names, follow, some_of}, specs.Operators.{columns_fit, bound_of, inputs_of, result, fault_of, IsReady, IsNodeReady}, specs.Evaluation.{Outcome, Table, NoInput, has_table, outcome_at, table_at, table_of, or_fault, applied, outcome_of}, specs.Tables.no_table, specs.Ready.{table_in, IsWhole}, proofs.Widths.{kinds_width, follow_width, follow_some, test_within, all_within}, proofs.Results.{IsResult, AreResults, IsOperator, merged_room}}

whole_of : (width bound : ℕ) (table : PlainTable) → IsResult width bound table → IsWhole table
whole_of width bound table h =
    all_from (λ row. length row.cells ≡ table.width) table.rows (every_weaker (λ row. length row.cells ≡ width) (λ row. length row.cells ≡ table.width) table.rows (λ row e. e ∙ sym h.width_is) h.whole)

kinds_count : (columns : List ColumnSpec) → length (kinds_of columns) ≡ length columns
kinds_count columns = length-map columns (λ (column : ColumnSpec). column.kind)

-- an input's columns and others after them are few where the node's columns are
more_narrow : {X : Type 0} (cols own : List ColumnSpec) (kind : X → Option Kind) (xs : List X) (width : ℕ) → follow cols own (map kind xs) ≡ true → length cols ≤ 32 → width ≡ length own → width + length xs < 2 ^ 32
more_narrow cols own kind xs width follows narrow own_width =
    let count : length (map kind xs) ≡ length xs = length-map xs kind in
    let all : length cols ≡ length own + length (map kind xs) = follow_width cols own (map kind xs) follows in
    omega (arith, count, all, own_width, narrow)

pub ready_is : (op : Op) (columns : ℕ → List ColumnSpec) (bound : ℕ → ℕ) (tables : List PlainTable) (cols : List ColumnSpec) → IsOperator op → columns_fit op columns cols ≡ true → length cols ≤ 32
    → AllByRecursion (λ input. input < length tables) (inputs_of op) → AreResults (λ input. length (columns input)) bound (table_in tables) (inputs_of op) → bound_of op bound < 2 ^ 62 → IsReady op tables
ready_is Source columns bound tables cols o fit narrow known h room = absurd (true≢false o)
ready_is (Keep from test) columns bound tables cols o fit narrow known h room =
    let parts = and_parts (same_columns cols (columns from) && test_fits test (kinds_of (columns from))) (is_test_bound test) fit in
    let fits = (and_parts (same_columns cols (columns from)) (test_fits test (kinds_of (columns from))) parts.0).1 in (
      known.0,
      whole_of (length (columns from)) (bound from) (table_in tables from) h.0,
      subst (λ width. IsTestWithin width test) (kinds_count (columns from) ∙ sym h.0.width_is) (test_within test (kinds_of (columns from)) fits parts.1),
    )
ready_is (View from exprs) columns bound tables cols o fit narrow known h room =
    let kinds = map (λ expr. kind_of expr (kinds_of (columns from))) exprs in
    let parts = and_parts (some_of exprs && list_all is_bound exprs) (follow cols (columns from) kinds) fit in
    let bounds = (and_parts (some_of exprs) (list_all is_bound exprs) parts.0).1 in
    let own : (table_in tables from).width ≡ length (columns from) = h.0.width_is in (
      known.0,
      whole_of (length (columns from)) (bound from) (table_in tables from) h.0,
      subst (λ width. All (IsWithin width) exprs) (kinds_count (columns from) ∙ sym own) (all_from (IsWithin (length (kinds_of (columns from)))) exprs (all_within exprs (kinds_of (columns from)) (follow_some cols (columns from) kinds parts.1) bounds)),
      more_narrow cols (columns from) (λ expr. kind_of expr (kinds_of (columns from))) exprs (table_in tables from).width parts.1 narrow own,
    )
ready_is (Join left right on take choice) columns bound tables cols o fit narrow known h room =
    let follows = (and_parts _ (follow cols (columns left) (map (kind_at (columns right)) take)) fit).1 in
    (known.0, known.1.0, more_narrow cols (columns left) (kind_at (columns right)) take (table_in tables left).width follows narrow h.0.width_is)
ready_is (AsOf left right on at take) columns bound tables cols o fit narrow known h room =
    let follows = (and_parts _ (follow cols (columns left) (map (kind_at (columns right)) take)) fit).1 in
    (known.0, known.1.0, more_narrow cols (columns left) (kind_at (columns right)) take (table_in tables left).width follows narrow h.0.width_is)
ready_is (AggOp from by aggs) columns bound tables cols o fit narrow known h room =
    let keys = map (kind_at (columns from)) by in
    let values = map (agg_kind (columns from)) aggs in
    let kinds = (and_parts (some_of aggs) (have_kinds cols (keys ++ values)) (and_parts (some_of aggs && have_kinds cols (keys ++ values)) (keep_names cols (columns from) by) fit).0).1 in
    let width : length cols ≡ length (keys ++ values) = kinds_width cols (keys ++ values) kinds in
    let of_keys : length keys ≡ length by = length-map by (kind_at (columns from)) in
    let of_values : length values ≡ length aggs = length-map aggs (agg_kind (columns from)) in
    let both : length (keys ++ values) ≡ length keys + length values = length-append keys values in
    (known.0, omega (arith, width, of_keys, of_values, both, narrow))
ready_is (Merge inputs) columns bound tables cols o fit narrow known h room =
    let parts = and_parts (nat_le 2 (length inputs) && nat_le (length inputs) 16) (list_all (λ from. same_columns cols (columns from)) inputs) fit in
    let many = and_parts (nat_le 2 (length inputs)) (nat_le (length inputs) 16) parts.0 in
    let width : ℕ → ℕ = λ input. length (columns input) in
    let at_least : 2 ≤ length inputs = leb-true 2 (length inputs) many.0 in
    let small : sum (map bound inputs) ≤ 2 ^ 62 = omega arith in
    record {
      some = omega (arith, at_least);
      narrow = leb-true (length inputs) 16 many.1;
      known = all_from (λ input. input < length tables) inputs known;
      few = all_from (λ input. length (table_in tables input).rows ≤ 4194304) inputs
          (every_weaker (λ input. IsResult (width input) (bound input) (table_in tables input)) (λ input. length (table_in tables input).rows ≤ 4194304) inputs (λ input r. r.few) h);
      room = merged_room (sum (map bound inputs)) width bound (table_in tables) inputs 0 small h (omega arith);
    }
ready_is op columns bound tables cols o fit narrow known h room = known.0

-- the inputs of an operator that may be applied are there
known_of : (op : Op) (tables : List PlainTable) → IsReady op tables → AllByRecursion (λ input. input < length tables) (inputs_of op)
known_of Source tables r = tt
known_of (Join left right on take choice) tables r = (r.0, (r.1, tt))
known_of (AsOf left right on at take) tables r = (r.0, (r.1, tt))
known_of (Merge inputs) tables r = recursion_from_All (λ input. input < length tables) inputs r.known
known_of (Keep from test) tables r = (r.0, tt)
known_of (View from exprs) tables r = (r.0, tt)
known_of (AggOp from by aggs) tables r = (r.0, tt)
known_of op tables r = (r, tt)

-- the outcome of a node that has its table
outcome_in : (tables : List PlainTable) (node : ℕ) → node < length tables → outcome_at (map Table tables) node ≡ Table (table_in tables node)
outcome_in tables node h = get_or-map Table tables node no_table NoInput h

all_have : (tables : List PlainTable) (inputs : List ℕ) → AllByRecursion (λ input. input < length tables) inputs → list_all (λ input. has_table (outcome_at (map Table tables) input)) inputs ≡ true
all_have tables [] h = refl
all_have tables (input ∷ inputs) h =
    ap (λ o. has_table o && list_all (λ input. has_table (outcome_at (map Table tables) input)) inputs) (outcome_in tables input h.0) ∙ all_have tables inputs h.1

-- an operator sees its inputs' tables alone
same_inputs : (op : Op) (f g : ℕ → PlainTable) → AllByRecursion (λ input. f input ≡ g input) (inputs_of op) → or_fault (fault_of op f) (result op f) ≡ or_fault (fault_of op g) (result op g)
same_inputs Source f g h = refl
same_inputs (Join left right on take choice) f g h = ap₂ (λ a b. or_fault (join_fault on choice a b) (join_table on take choice a b)) h.0 h.1.0
same_inputs (Merge inputs) f g h = ap (λ ts. or_fault (merge_fault ts) (merge_table ts)) (map_same f g inputs h)
same_inputs (AsOf left right on at take) f g h = ap₂ (λ a b. Table (asof_table on at take a b)) h.0 h.1.0
same_inputs op f g h = ap (λ t. or_fault (fault_of op (λ _. t)) (result op (λ _. t))) h.0

applied_is : (op : Op) (tables : List PlainTable) → AllByRecursion (λ input. input < length tables) (inputs_of op) → applied op (map Table tables) ≡ or_fault (fault_of op (table_in tables)) (result op (table_in tables))
applied_is op tables known =
    let done = map Table tables in
    let step : Bool → Outcome = λ b. elim b [ true ↦ or_fault (fault_of op (table_at done)) (result op (table_at done)) | false ↦ NoInput ] in
    ap step (all_have tables (inputs_of op) known)
    ∙ same_inputs op (table_at done) (table_in tables) (every_weaker (λ input. input < length tables) (λ input. table_at done input ≡ table_in tables input) (inputs_of op) (λ input h. ap table_of (outcome_in tables input h)) known)

outcome_applied : (op : Op) (own : PlainTable) (done : List Outcome) → IsOperator op → applied op done ≡ outcome_of op own done
outcome_applied op own done o = ap (λ b. if b then Table own else applied op done) (sym o)

operator_of : (op : Op) (tables : List PlainTable) → IsReady op tables → IsOperator op
operator_of Source tables r = absurd r
operator_of op tables r = refl

pub ready_outcome : (op : Op) (own : PlainTable) (tables : List PlainTable) → IsReady op tables → or_fault (fault_of op (table_in tables)) (result op (table_in tables)) ≡ outcome_of op own (map Table tables)
ready_outcome op own tables r = sym (applied_is op tables (known_of op tables r)) ∙ outcome_applied op own (map Table tables) (operator_of op tables r)

pub operator_outcome : (op : Op) (own : PlainTable) (tables : List PlainTable) → IsOperator op → AllByRecursion (λ input. input < length tables) (inputs_of op) → outcome_of op own (map Table tables) ≡ or_fault (fault_of op (table_in tables)) (result op (table_in tables))
operator_outcome op own tables o known = sym (outcome_applied op own (map Table tables) o) ∙ applied_is op tables known

-- a node that is no source is ready where its operator is
pub operator_ready : (op : Op) (sources : List PlainTable) (place : ℕ) (tables : List PlainTable) → (op ≡ Source → ⊥) → IsNodeReady op sources place tables → IsReady op tables
operator_ready Source sources place tables n r = absurd (n refl)
operator_ready op sources place tables n r = r
