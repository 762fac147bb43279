-- What a line does to a script so far, or the first kind by which it is refused.
--     node_named names name      the number of a node
--     drafted before making      what a node would be: its operator, its columns, and whether kinds and numbers of rows are right
--     placed script name draft files      the script with the node, or the first rule that the node breaks
--     said script line      the script after a line
use Rattle.std.{specs.Prelude.{ℕ, ◌^◌, ◌==◌, ◌&&◌, Bool, true, not, ℤ, pos, negsuc, List, [], ◌∷◌, ◌++◌, map, length, position, Option, Some, None, Result, Ok, Err, is_some, unwrap_or, nat_lt, nat_le, slice_index, slice_index_or, if◌then◌else◌}, specs.List.{list_all, list_any, position_or_len}, specs.Str.bytes_eq}
use Rattle.tick_model.{specs.declared.plan.Agg.Agg as Aggregate, specs.declared.plan.Choice.Choice, specs.declared.plan.ColumnSpec.ColumnSpec, specs.declared.plan.Expr.{Expr, Cell, Number, Null, Literal}, specs.declared.plan.Kind.Kind, specs.declared.plan.Kind.TheVariants.Long, specs.declared.plan.Node.Node, specs.declared.plan.OnPair.OnPair, specs.declared.plan.Op.Op, specs.declared.plan.Pred.{Pred, Compare}, specs.declared.plan.Published.Published, specs.declared.plan.SortBy.SortBy, specs.Names.{is_one_of, are_distinct}, specs.Plans.{key_bounds, published_words}, specs.Columns.{kind_of, kinds_of, kind_at, test_fits, same_kind_at, has_kind, agg_kind}, specs.Operators.{columns_fit, bound_of}}
use Rattle.tick_model.specs.declared.plan.Agg.TheVariants as aggregates
use Rattle.tick_model.specs.declared.plan.Op.TheVariants as ops
use Rattle.script_lines.{specs.declared.fault.ScriptKind.ScriptKind, specs.declared.fault.ScriptKind.TheVariants.{UnknownName, TakenName, UnknownColumn, TakenColumn, WrongKind, NumberRange, TooManyNodes, TooManyColumns, KeySpace, TooWide}, specs.declared.line.Computed.Computed, specs.declared.line.Declared.Declared, specs.declared.line.Formula.{Formula, Column, Number as Digits, Text as Quoted, Null as Nothing, Neg' as Minus', Add' as Plus', Sub' as Less', Mul' as Times'}, specs.declared.line.Function.Function, specs.declared.line.Function.TheVariants.{Count, Sum, Min, Max, First, Last}, specs.declared.line.AggColumn.AggColumn, specs.declared.line.Line.Line, specs.declared.making.Making.Making, specs.declared.making.Making.TheVariants.{Keep, View, Join, AsOf, Agg, Merge, Sort, Head, Tail}, specs.declared.line.Pair.Pair, specs.declared.line.Sorted.Sorted, specs.declared.line.Test.{Test, Compare as Compares, And' as Both', Or' as Either', Not' as Never'}, specs.Answers.◌>>=◌}
use Rattle.script_lines.specs.declared.line.Line.TheVariants as lines
use Rattle.script_reader.{specs.declared.script.Script.Script, specs.declared.script.SourceFile.SourceFile, specs.Plain.{neg, add, sub, mul, both, either, negated}}

abbrev pub or_refused : {X : Type 0} → ScriptKind → Option X → Result X ScriptKind
or_refused kind None = Err kind
or_refused kind (Some x) = Ok x

-- the number of the node that an earlier line defines by the name
unfoldable pub node_named : List (List ℕ) → List ℕ → Result ℕ ScriptKind
node_named names name = or_refused UnknownName (position (bytes_eq name) names)

-- the columns of a node
abbrev pub table_at : List (List ColumnSpec) → ℕ → List ColumnSpec
table_at tables node = slice_index_or tables node []

-- the place of a column of an input
unfoldable pub column_named : List ColumnSpec → List ℕ → Result ℕ ScriptKind
column_named columns name = or_refused UnknownColumn (position (bytes_eq name) (map (λ column. column.name) columns))

-- what is made of each of a list, where none is refused
unfoldable pub each : {X Y : Type 0} → (X → Result Y ScriptKind) → List X → Result (List Y) ScriptKind
each f [] = Ok []
each f (x ∷ xs) = f x >>= (λ y. each f xs >>= (λ ys. Ok (y ∷ ys)))

-- texts are numbered in order of their first places
abbrev pub place_of : List ℕ → List (List ℕ) → ℕ
place_of text = position_or_len (bytes_eq text)

abbrev pub with_text : List (List ℕ) → List ℕ → List (List ℕ)
with_text literals text = if list_any (bytes_eq text) literals then literals else literals ++ text ∷ []

-- a formula over the columns of an input, and the texts after it
unfoldable pub expr_of : List ColumnSpec → List (List ℕ) → Formula → Result (Expr × List (List ℕ)) ScriptKind
expr_of columns literals (Column name) = column_named columns name >>= (λ column. Ok (Cell column, literals))
expr_of columns literals (Digits n) = Ok (Number n, literals)
expr_of columns literals (Quoted text) = Ok (Literal (place_of text literals), with_text literals text)
expr_of columns literals Nothing = Ok (Null, literals)
expr_of columns literals (Minus' p a) = expr_of columns literals a >>= (λ x. Ok (neg x.0, x.1))
expr_of columns literals (Plus' p a q b) = expr_of columns literals a >>= (λ x. expr_of columns x.1 b >>= (λ y. Ok (add x.0 y.0, y.1)))
expr_of columns literals (Less' p a q b) = expr_of columns literals a >>= (λ x. expr_of columns x.1 b >>= (λ y. Ok (sub x.0 y.0, y.1)))
expr_of columns literals (Times' p a q b) = expr_of columns literals a >>= (λ x. expr_of columns x.1 b >>= (λ y. Ok (mul x.0 y.0, y.1)))

unfoldable pub pred_of : List ColumnSpec → List (List ℕ) → Test → Result (Pred × List (List ℕ)) ScriptKind
pred_of columns literals (Compares how a b) = expr_of columns literals a >>= (λ x. expr_of columns x.1 b >>= (λ y. Ok (Compare how x.0 y.0, y.1)))
pred_of columns literals (Both' p a q b) = pred_of columns literals a >>= (λ x. pred_of columns x.1 b >>= (λ y. Ok (both x.0 y.0, y.1)))
pred_of columns literals (Either' p a q b) = pred_of columns literals a >>= (λ x. pred_of columns x.1 b >>= (λ y. Ok (either x.0 y.0, y.1)))
pred_of columns literals (Never' p a) = pred_of columns literals a >>= (λ x. Ok (negated x.0, x.1))

unfoldable pub exprs_of : List ColumnSpec → List (List ℕ) → List Computed → Result (List Expr × List (List ℕ)) ScriptKind
exprs_of columns literals [] = Ok ([], literals)
exprs_of columns literals (c ∷ computed) = expr_of columns literals c.formula >>= (λ x. exprs_of columns x.1 computed >>= (λ ys. Ok (x.0 ∷ ys.0, ys.1)))

-- new columns: a kind that is not there shows a wrong line, and stands for long
abbrev pub named_columns : List (List ℕ) → List (Option Kind) → List ColumnSpec
named_columns [] kinds = []
named_columns (name ∷ names) [] = []
named_columns (name ∷ names) (kind ∷ kinds) = record { name = name; kind = unwrap_or kind Long } ∷ named_columns names kinds

abbrev pub all_there : List (Option Kind) → Bool
all_there = list_all is_some

unfoldable pub pair_of : List ColumnSpec → List ColumnSpec → Pair → Result OnPair ScriptKind
pair_of left right pair = column_named left pair.first >>= (λ l. column_named right pair.second >>= (λ r. Ok (record { left = l; right = r })))

-- a function over the columns of an input
unfoldable pub aggregate_of : List ColumnSpec → Function → Result Aggregate ScriptKind
aggregate_of columns Count = Ok aggregates.Count
aggregate_of columns (Sum name) = column_named columns name >>= (λ column. Ok (aggregates.Sum column))
aggregate_of columns (Min name) = column_named columns name >>= (λ column. Ok (aggregates.Min column))
aggregate_of columns (Max name) = column_named columns name >>= (λ column. Ok (aggregates.Max column))
aggregate_of columns (First name) = column_named columns name >>= (λ column. Ok (aggregates.First column))
aggregate_of columns (Last name) = column_named columns name >>= (λ column. Ok (aggregates.Last column))

unfoldable pub sort_of : List ColumnSpec → Sorted → Result SortBy ScriptKind
sort_of columns sorted = column_named columns sorted.name >>= (λ column. Ok (record { column = column; descending = sorted.descending }))

-- what a node would be
pub record Draft : Type 0 where
  pub op : Op
  pub columns : List ColumnSpec
  pub kinds_fit : Bool
  pub rows_fit : Bool
  pub literals : List (List ℕ)

abbrev pub draft_of : Op → List ColumnSpec → Bool → List (List ℕ) → Draft
draft_of op columns kinds_fit literals = record { op = op; columns = columns; kinds_fit = kinds_fit; rows_fit = true; literals = literals }

-- what a node is made of: the names of the nodes before it, their columns, and the texts so far
pub record Before : Type 0 where
  pub names : List (List ℕ)
  pub tables : List (List ColumnSpec)
  pub literals : List (List ℕ)

unfoldable pub kept : Before → List ℕ → Test → Result Draft ScriptKind
kept before name test = do
  input ← node_named before.names name
  found ← pred_of (table_at before.tables input) before.literals test
  Ok (draft_of (ops.Keep input found.0) (table_at before.tables input) (test_fits found.0 (kinds_of (table_at before.tables input))) found.1)

abbrev pub expr_kinds : List ColumnSpec → List Expr → List (Option Kind)
expr_kinds columns = map (λ expr. kind_of expr (kinds_of columns))

-- an input's columns, and then the new ones with their formulas' kinds
abbrev pub viewed_columns : List ColumnSpec → List Computed → List Expr → List ColumnSpec
viewed_columns columns computed exprs = columns ++ named_columns (map (λ c. c.name) computed) (expr_kinds columns exprs)

unfoldable pub viewed : Before → List ℕ → List Computed → Result Draft ScriptKind
viewed before name computed = do
  input ← node_named before.names name
  found ← exprs_of (table_at before.tables input) before.literals computed
  Ok (draft_of (ops.View input found.0) (viewed_columns (table_at before.tables input) computed found.0) (all_there (expr_kinds (table_at before.tables input) found.0)) found.1)

-- the left's columns, and then the taken ones with their own kinds
abbrev pub joined_columns : List ColumnSpec → List ColumnSpec → List Pair → List ℕ → List ColumnSpec
joined_columns left right take taken = left ++ named_columns (map (λ pair. pair.first) take) (map (kind_at right) taken)

abbrev pub pairs_fit : List ColumnSpec → List ColumnSpec → List OnPair → Bool
pairs_fit left right = list_all (same_kind_at left right)

-- the right's columns that are taken
unfoldable pub taken_of : List ColumnSpec → Pair → Result ℕ ScriptKind
taken_of right pair = column_named right pair.second

unfoldable pub joined : Before → List ℕ → List ℕ → List Pair → List Pair → Choice → Result Draft ScriptKind
joined before left_name right_name on take choice = do
  left ← node_named before.names left_name
  right ← node_named before.names right_name
  pairs ← each (pair_of (table_at before.tables left) (table_at before.tables right)) on
  taken ← each (taken_of (table_at before.tables right)) take
  Ok (draft_of (ops.Join left right pairs taken choice) (joined_columns (table_at before.tables left) (table_at before.tables right) take taken)
      (pairs_fit (table_at before.tables left) (table_at before.tables right) pairs) before.literals)

-- both columns are long
abbrev pub both_long_at : List ColumnSpec → List ColumnSpec → OnPair → Bool
both_long_at left right at = has_kind Long (kind_at left at.left) && has_kind Long (kind_at right at.right)

unfoldable pub joined_as_of : Before → List ℕ → List ℕ → List Pair → Pair → List Pair → Result Draft ScriptKind
joined_as_of before left_name right_name on at take = do
  left ← node_named before.names left_name
  right ← node_named before.names right_name
  pairs ← each (pair_of (table_at before.tables left) (table_at before.tables right)) on
  time ← pair_of (table_at before.tables left) (table_at before.tables right) at
  taken ← each (taken_of (table_at before.tables right)) take
  Ok (draft_of (ops.AsOf left right pairs time taken) (joined_columns (table_at before.tables left) (table_at before.tables right) take taken)
      (pairs_fit (table_at before.tables left) (table_at before.tables right) pairs && both_long_at (table_at before.tables left) (table_at before.tables right) time) before.literals)

-- the key columns, and then one column for each function
abbrev pub column_at : List ColumnSpec → ℕ → ColumnSpec
column_at columns column = slice_index_or columns column (record { name = []; kind = Long })

abbrev pub gathered_columns : List ColumnSpec → List ℕ → List AggColumn → List Aggregate → List ColumnSpec
gathered_columns columns by gathered aggs = map (column_at columns) by ++ named_columns (map (λ g. g.name) gathered) (map (agg_kind columns) aggs)

unfoldable pub gathered_of : List ColumnSpec → AggColumn → Result Aggregate ScriptKind
gathered_of columns gathered = aggregate_of columns gathered.function

unfoldable pub grouped : Before → List ℕ → List (List ℕ) → List AggColumn → Result Draft ScriptKind
grouped before name by gathered = do
  input ← node_named before.names name
  keys ← each (column_named (table_at before.tables input)) by
  aggs ← each (gathered_of (table_at before.tables input)) gathered
  Ok (draft_of (ops.Agg input keys aggs) (gathered_columns (table_at before.tables input) keys gathered aggs) (all_there (map (agg_kind (table_at before.tables input)) aggs)) before.literals)

-- the columns of the first input, which each input has to have
unfoldable pub merged : Before → List (List ℕ) → Result Draft ScriptKind
merged before names = do
  inputs ← each (node_named before.names) names
  Ok (draft_of (ops.Merge inputs) (table_at before.tables (slice_index inputs 0)) (columns_fit (ops.Merge inputs) (table_at before.tables) (table_at before.tables (slice_index inputs 0))) before.literals)

unfoldable pub sorted : Before → List ℕ → List Sorted → Result Draft ScriptKind
sorted before name by = do
  input ← node_named before.names name
  columns ← each (sort_of (table_at before.tables input)) by
  Ok (draft_of (ops.Sort input columns) (table_at before.tables input) true before.literals)

-- at most 4,194,304 rows
abbrev pub rows_of : ℤ → Option ℕ
rows_of (pos n) = if nat_le n 4194304 then Some n else None
rows_of (negsuc n) = None

abbrev pub cut_draft : Op → List ColumnSpec → Bool → List (List ℕ) → Draft
cut_draft op columns rows_fit literals = record { op = op; columns = columns; kinds_fit = true; rows_fit = rows_fit; literals = literals }

unfoldable pub headed : Before → ℤ → List ℕ → Result Draft ScriptKind
headed before rows name = do
  input ← node_named before.names name
  Ok (cut_draft (ops.Head input (unwrap_or (rows_of rows) 0)) (table_at before.tables input) (is_some (rows_of rows)) before.literals)

unfoldable pub tailed : Before → ℤ → List ℕ → Result Draft ScriptKind
tailed before rows name = do
  input ← node_named before.names name
  Ok (cut_draft (ops.Tail input (unwrap_or (rows_of rows) 0)) (table_at before.tables input) (is_some (rows_of rows)) before.literals)

unfoldable pub drafted : Before → Making → Result Draft ScriptKind
drafted before (Keep input test) = kept before input test
drafted before (View input columns) = viewed before input columns
drafted before (Join left right on take choice) = joined before left right on take choice
drafted before (AsOf left right on at take) = joined_as_of before left right on at take
drafted before (Agg input by columns) = grouped before input by columns
drafted before (Merge inputs) = merged before inputs
drafted before (Sort input by) = sorted before input by
drafted before (Head rows input) = headed before rows input
drafted before (Tail rows input) = tailed before rows input

-- the columns of a source
abbrev pub source_column : Declared → ColumnSpec
source_column declared = record { name = declared.name; kind = declared.kind }

abbrev pub source_draft : List Declared → List (List ℕ) → Draft
source_draft columns = draft_of ops.Source (map source_column columns) true

abbrev pub names_of : List Node → List (List ℕ)
names_of = map (λ node. node.name)

abbrev pub tables_of : List Node → List (List ColumnSpec)
tables_of = map (λ node. node.columns)

abbrev pub before_of : Script → Before
before_of script = record { names = names_of script.plan.nodes; tables = tables_of script.plan.nodes; literals = script.literals }

-- the first rule that a node breaks
abbrev pub broken : List Node → List ℕ → Draft → Option ScriptKind
broken nodes name draft =
    if is_one_of (names_of nodes) name then Some TakenName
    else (if not (are_distinct (map (λ column. column.name) draft.columns)) then Some TakenColumn
    else (if not draft.kinds_fit then Some WrongKind
    else (if not draft.rows_fit then Some NumberRange
    else (if nat_lt 32 (length draft.columns) then Some TooManyColumns
    else (if nat_le 256 (length nodes) then Some TooManyNodes
    else (if nat_le (2 ^ 62) (bound_of draft.op (slice_index (key_bounds nodes))) then Some KeySpace
    else None))))))

abbrev pub with_node : Script → Node → List (List ℕ) → List SourceFile → Script
with_node script node literals files = record {
  plan = record { nodes = script.plan.nodes ++ node ∷ []; printed = script.plan.printed; published = script.plan.published };
  literals = literals;
  files = script.files ++ files;
}

abbrev pub or_broken : {X : Type 0} → Option ScriptKind → X → Result X ScriptKind
or_broken None x = Ok x
or_broken (Some kind) x = Err kind

abbrev pub placed : Script → List ℕ → Draft → List SourceFile → Result Script ScriptKind
placed script name draft files =
    or_broken (broken script.plan.nodes name draft)
    (with_node script (record { name = name; columns = draft.columns; op = draft.op }) draft.literals files)

-- printed nodes stand in order of their numbers
abbrev pub in_order : ℕ → List ℕ → List ℕ
in_order node [] = node ∷ []
in_order node (other ∷ others) = if nat_lt node other then node ∷ other ∷ others else other ∷ in_order node others

abbrev pub is_among : ℕ → List ℕ → Bool
is_among node = list_any (λ other. node == other)

abbrev pub with_printed : Script → ℕ → Script
with_printed script node = record {
  plan = record { nodes = script.plan.nodes; printed = in_order node script.plan.printed; published = script.plan.published };
  literals = script.literals;
  files = script.files;
}

abbrev pub printed : Script → ℕ → Result Script ScriptKind
printed script node = if is_among node script.plan.printed then Err TakenName else Ok (with_printed script node)

abbrev pub with_published : Script → Published → Script
with_published script publication = record {
  plan = record { nodes = script.plan.nodes; printed = script.plan.printed; published = script.plan.published ++ publication ∷ [] };
  literals = script.literals;
  files = script.files;
}

-- at least one row
abbrev pub is_no_limit : Option ℕ → Bool
is_no_limit None = true
is_no_limit (Some n) = n == 0

abbrev pub publication_of : Script → ℕ → ℤ → Published
publication_of script node rows = record { node = node; width = length (table_at (tables_of script.plan.nodes) node); limit = unwrap_or (rows_of rows) 0 }

abbrev pub published : Script → ℕ → ℤ → Result Script ScriptKind
published script node rows =
    if is_among node (map (λ publication. publication.node) script.plan.published) then Err TakenName
    else (if is_no_limit (rows_of rows) then Err NumberRange
    else (if nat_lt 1048576 (published_words (script.plan.published ++ publication_of script node rows ∷ [])) then Err TooWide
    else Ok (with_published script (publication_of script node rows))))

unfoldable pub said : Script → Line → Result Script ScriptKind
said script lines.Skipped = Ok script
said script (lines.Source name columns file) = placed script name (source_draft columns script.literals) (record { node = length script.plan.nodes; file = file } ∷ [])
said script (lines.Node name making) = drafted (before_of script) making >>= (λ draft. placed script name draft [])
said script (lines.Print name) = node_named (names_of script.plan.nodes) name >>= printed script
said script (lines.Publish name rows) = node_named (names_of script.plan.nodes) name >>= (λ node. published script node rows)
