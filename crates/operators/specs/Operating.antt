-- What an operator is, for which tables it stands, and when it can be made.
--     Operating      the operator of the plan, the widths of its inputs, what it keeps, and how many cells it read in each of its steps
--     idled operator      it has taken one step more, in which it read nothing
--     made_of running      what it is made of
--     StandsFor operator tables      what it keeps is that of these tables, one for each input
--     CanBeMade op widths      its formulas and columns are those of inputs of these widths, and its table has few columns
use Rattle.std.specs.Prelude.{ℕ, List, [], ◌∷◌, ◌++◌}
use Rattle.tick_model.{specs.declared.plan.Op.Op, specs.declared.plan.Op.TheVariants.{Source, Keep, View as Viewing, Join as Joining, Agg as Aggregating, Merge as Merging, Sort as Sorting, Head as Heading, Tail as Tailing, AsOf as Matching}, specs.declared.table.PlainTable.PlainTable}
use Rattle.table_operator.specs.Made.{Made}
use Rattle.agg_by.specs.Made.{CanAggregate, KeepsFirst, agg_made}
use Rattle.head_tail.{specs.declared.end.End.TheVariants.{First, Last}, specs.Made.{IsAt, made_at}}
use Rattle.lookup_join.specs.Made.{CanJoin, CanMatch, MatchesBoth, StandsForBoth, as_of_made, join_made}
use Rattle.merge_op.specs.Made.{CanMerge, merge_made}
use Rattle.row_ops.specs.Made.{CanFilter, CanView, filter_made, view_made}
use Rattle.sort_op.specs.Made.{CanSort, HasEntries, sort_made}
use Rattle.operators.{specs.declared.running.AnyOperator.AnyOperator, specs.declared.running.AnyOperator.TheVariants.{Where, View, Join, Agg, Merge, Sort, Head, Tail, AsOf}}

pub record Operating : Type 0 where
  pub op : Op
  pub widths : List ℕ
  pub kept : AnyOperator
  pub reads : List ℕ

abbrev pub idled : Operating → Operating
idled operator = record { op = operator.op; widths = operator.widths; kept = operator.kept; reads = operator.reads ++ 0 ∷ [] }

abbrev pub made_of : AnyOperator → Made
made_of (Where filter) = filter_made filter
made_of (View view) = view_made view
made_of (Join join) = join_made join
made_of (Agg agg) = agg_made agg
made_of (Merge merge) = merge_made merge
made_of (Sort sort) = sort_made sort
made_of (Head head) = made_at First head
made_of (Tail tail) = made_at Last tail
made_of (AsOf join) = as_of_made join

abbrev pub KeepsOf : AnyOperator → List PlainTable → Type 0
KeepsOf (Join join) = StandsForBoth join
KeepsOf (Agg agg) = KeepsFirst agg
KeepsOf (Sort sort) = HasEntries sort
KeepsOf (AsOf join) = MatchesBoth join
KeepsOf running = λ tables. Unit {0}

abbrev pub StandsFor : Operating → List PlainTable → Type 0
StandsFor operator = KeepsOf operator.kept

abbrev pub CanBeMade : Op → List ℕ → Type 0
CanBeMade Source widths = ⊥
CanBeMade (Keep input test) widths = CanFilter (Keep input test) widths
CanBeMade (Viewing input exprs) widths = CanView (Viewing input exprs) widths
CanBeMade (Joining left right on take choice) widths = CanJoin (Joining left right on take choice) widths
CanBeMade (Aggregating input by aggs) widths = CanAggregate (Aggregating input by aggs) widths
CanBeMade (Merging inputs) widths = CanMerge (Merging inputs) widths
CanBeMade (Sorting input by) widths = CanSort (Sorting input by)
CanBeMade (Heading input rows) widths = IsAt First (Heading input rows)
CanBeMade (Tailing input rows) widths = IsAt Last (Tailing input rows)
CanBeMade (Matching left right on at take) widths = CanMatch (Matching left right on at take) widths
