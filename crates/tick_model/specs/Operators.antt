-- What each operator is: all that is said of an operator by which it is.
--     is_source_op op      it has its table from outside
--     inputs_of op      the nodes that it reads
--     result op table, fault_of op table      its table from those of the nodes, or why it has none although its inputs have theirs
--     kept_by op tick old new      the pairs of keys of the rows that it keeps, from the ticks of the nodes and its own table before and after
--     columns_fit op input columns      these are its columns, over those of the nodes
--     result_width op widths      how many columns its table has, from those of its inputs in order
--     bound_of op bound      a number greater than each of its keys, from those of the nodes
--     IsReady op tables      it may be applied to the tables of the nodes before it: its inputs are there, its formulas are within their rows, and their keys have room
use Rattle.std.{specs.Prelude.{ℕ, ◌+◌, ◌^◌, ◌<◌, ◌&&◌, Bool, true, false, List, [], ◌∷◌, ◌++◌, map, length, Option, None, nat_le, slice_index, sum, is_some}, specs.List.{All, list_all}}
use Rattle.tick_model.{specs.declared.plan.ColumnSpec.ColumnSpec, specs.declared.plan.Kind.TheVariants.Long, specs.declared.plan.Op.Op, specs.declared.plan.Op.TheVariants.{Source, Keep, View, Join, Agg, Merge, Sort, Head, Tail, AsOf}, specs.declared.table.NodeFault.NodeFault, specs.declared.table.PlainTable.PlainTable, specs.declared.update.KeyPair.KeyPair, specs.Agg.{agg_pairs, agg_table}, specs.AsOf.asof_table, specs.Columns.{agg_kind, follow, has_kind, have_kinds, is_bound, is_test_bound, keep_names, kind_at, kind_of, kinds_of, same_columns, same_kind_at, some_of, test_fits}, specs.Formulas.{IsTestWithin, IsWithin}, specs.HeadTail.{head_table, tail_table}, specs.Join.{join_fault, join_table}, specs.Merge.{merge_fault, merge_pairs, merge_table}, specs.Ready.{AreMergeable, IsWhole, table_in}, specs.Sort.{sort_pairs, sort_table}, specs.Tables.no_table, specs.Updates.{Tick, both_in}, specs.View.view_table, specs.Where.where_table}

abbrev pub is_source_op : Op → Bool
is_source_op op = elim op [ Source ↦ true | _ ↦ false ]

abbrev pub inputs_of : Op → List ℕ
inputs_of Source = []
inputs_of (Keep input test) = input ∷ []
inputs_of (View input exprs) = input ∷ []
inputs_of (Join left right on take choice) = left ∷ right ∷ []
inputs_of (Agg input by aggs) = input ∷ []
inputs_of (Merge inputs) = inputs
inputs_of (Sort input by) = input ∷ []
inputs_of (Head input rows) = input ∷ []
inputs_of (Tail input rows) = input ∷ []
inputs_of (AsOf left right on at take) = left ∷ right ∷ []

-- an operator's table, from the tables of its inputs
abbrev pub result : Op → (ℕ → PlainTable) → PlainTable
result Source table = no_table
result (Keep input test) table = where_table test (table input)
result (View input exprs) table = view_table exprs (table input)
result (Join left right on take choice) table = join_table on take choice (table left) (table right)
result (Agg input by aggs) table = agg_table by aggs (table input)
result (Merge inputs) table = merge_table (map table inputs)
result (Sort input by) table = sort_table by (table input)
result (Head input rows) table = head_table rows (table input)
result (Tail input rows) table = tail_table rows (table input)
result (AsOf left right on at take) table = asof_table on at take (table left) (table right)

-- why an operator has no table although its inputs have theirs
abbrev pub fault_of : Op → (ℕ → PlainTable) → Option NodeFault
fault_of Source table = None
fault_of (Keep input test) table = None
fault_of (View input exprs) table = None
fault_of (Join left right on take choice) table = join_fault on choice (table left) (table right)
fault_of (Agg input by aggs) table = None
fault_of (Merge inputs) table = merge_fault (map table inputs)
fault_of (Sort input by) table = None
fault_of (Head input rows) table = None
fault_of (Tail input rows) table = None
fault_of (AsOf left right on at take) table = None

-- the pairs that an operator keeps, from the ticks of its inputs and its old and new table
abbrev pub kept_by : Op → (ℕ → Tick) → PlainTable → PlainTable → List KeyPair
kept_by Source tick old new = []
kept_by (Keep input test) tick old new = both_in old new (tick input).kept
kept_by (View input exprs) tick old new = (tick input).kept
kept_by (Join left right on take choice) tick old new = (tick left).kept
kept_by (Agg input by aggs) tick old new = agg_pairs by (tick input) old new
kept_by (Merge inputs) tick old new = merge_pairs (map tick inputs)
kept_by (Sort input by) tick old new = sort_pairs by (tick input)
kept_by (Head input rows) tick old new = both_in old new (tick input).kept
kept_by (Tail input rows) tick old new = both_in old new (tick input).kept
kept_by (AsOf left right on at take) tick old new = (tick left).kept

-- the columns of a node are those of its operator over its inputs' columns
abbrev pub columns_fit : Op → (ℕ → List ColumnSpec) → List ColumnSpec → Bool
columns_fit Source input columns = true
columns_fit (Keep from test) input columns = same_columns columns (input from) && test_fits test (kinds_of (input from)) && is_test_bound test
columns_fit (View from exprs) input columns = some_of exprs && list_all is_bound exprs && follow columns (input from) (map (λ expr. kind_of expr (kinds_of (input from))) exprs)
columns_fit (Join left right on taken choice) input columns = some_of on && some_of taken && list_all (same_kind_at (input left) (input right)) on && follow columns (input left) (map (kind_at (input right)) taken)
columns_fit (Agg from by aggs) input columns =
    some_of aggs && have_kinds columns (map (kind_at (input from)) by ++ map (agg_kind (input from)) aggs) && keep_names columns (input from) by
columns_fit (Merge inputs) input columns = nat_le 2 (length inputs) && nat_le (length inputs) 16 && list_all (λ from. same_columns columns (input from)) inputs
columns_fit (Sort from by) input columns = some_of by && same_columns columns (input from) && list_all (λ sort. is_some (kind_at (input from) sort.column)) by
columns_fit (Head from rows) input columns = same_columns columns (input from) && nat_le rows 4194304
columns_fit (Tail from rows) input columns = same_columns columns (input from) && nat_le rows 4194304
columns_fit (AsOf left right on at taken) input columns =
    some_of taken && list_all (same_kind_at (input left) (input right)) on && has_kind Long (kind_at (input left) at.left) && has_kind Long (kind_at (input right) at.right)
    && follow columns (input left) (map (kind_at (input right)) taken)

-- the width of the table that an operator makes of inputs of these widths
abbrev pub result_width : Op → List ℕ → ℕ
result_width Source widths = 0
result_width (Keep input test) widths = slice_index widths 0
result_width (View input exprs) widths = slice_index widths 0 + length exprs
result_width (Join left right on take choice) widths = slice_index widths 0 + length take
result_width (Agg input by aggs) widths = length by + length aggs
result_width (Merge inputs) widths = slice_index widths 0
result_width (Sort input by) widths = slice_index widths 0
result_width (Head input rows) widths = slice_index widths 0
result_width (Tail input rows) widths = slice_index widths 0
result_width (AsOf left right on at take) widths = slice_index widths 0 + length take

-- a number greater than each key of a node
abbrev pub bound_of : Op → (ℕ → ℕ) → ℕ
bound_of Source bound = 2 ^ 40
bound_of (Keep from test) bound = bound from
bound_of (View from exprs) bound = bound from
bound_of (Join left right on taken choice) bound = bound left
bound_of (Agg from by aggs) bound = bound from
bound_of (Merge inputs) bound = sum (map bound inputs)
bound_of (Sort from by) bound = 4194304
bound_of (Head from rows) bound = bound from
bound_of (Tail from rows) bound = bound from
bound_of (AsOf left right on at taken) bound = bound left

abbrev pub IsReady : Op → List PlainTable → Type 0
IsReady Source tables = ⊥
IsReady (Keep input test) tables = (input < length tables) × IsWhole (table_in tables input) × IsTestWithin (table_in tables input).width test
IsReady (View input exprs) tables = (input < length tables) × IsWhole (table_in tables input) × All (IsWithin (table_in tables input).width) exprs × ((table_in tables input).width + length exprs < 2 ^ 32)
IsReady (Join left right on take choice) tables = (left < length tables) × (right < length tables) × ((table_in tables left).width + length take < 2 ^ 32)
IsReady (Agg input by aggs) tables = (input < length tables) × (length by + length aggs < 2 ^ 32)
IsReady (Merge inputs) tables = AreMergeable tables inputs
IsReady (Sort input by) tables = input < length tables
IsReady (Head input rows) tables = input < length tables
IsReady (Tail input rows) tables = input < length tables
IsReady (AsOf left right on at take) tables = (left < length tables) × (right < length tables) × ((table_in tables left).width + length take < 2 ^ 32)

-- a source has its table at a place among the sources
abbrev pub IsNodeReady : Op → List PlainTable → ℕ → List PlainTable → Type 0
IsNodeReady Source sources place tables = place < length sources
IsNodeReady op sources place tables = IsReady op tables
