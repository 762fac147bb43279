-- Small runs for worked examples. Each has tables of numbers that begin with no rows, and one step that adds rows.
--     filters      a source, its rows above 0 and those above 1, and of the former those above 2
--     beside      a source, and its rows above 0, those above 1 and those above 2
--     joins      two sources, and two joins of the first with the second, each of which finds two rows where one is wanted
use Rattle.std.specs.Prelude.{ℕ, List, [], ◌∷◌, pos}
use Rattle.tick_model.{specs.declared.feed.Block.Block, specs.declared.feed.Run.Run, specs.declared.plan.Choice.TheVariants.Error, specs.declared.plan.ColumnSpec.ColumnSpec, specs.declared.plan.Comparison.TheVariants.Gt, specs.declared.plan.Expr.{Cell, Number}, specs.declared.plan.Kind.TheVariants.Long, specs.declared.plan.Node.Node, specs.declared.plan.Op.Op, specs.declared.plan.Op.TheVariants.{Source, Keep, Join}, specs.declared.plan.Plan.Plan, specs.declared.plan.Pred.Compare, specs.declared.table.PlainRow.PlainRow, specs.declared.table.PlainTable.PlainTable}

-- a column of numbers, named by a byte
abbrev pub number_column : ℕ → ColumnSpec
number_column name = record { name = name ∷ []; kind = Long }

abbrev pub node_of : ℕ → List ColumnSpec → Op → Node
node_of name columns op = record { name = name ∷ []; columns = columns; op = op }

abbrev pub source_of : ℕ → Node
source_of name = node_of name (number_column 120 ∷ []) Source

abbrev pub filter_of : ℕ → ℕ → ℕ → Node
filter_of name input least = node_of name (number_column 120 ∷ []) (Keep input (Compare Gt (Cell 0) (Number (pos least))))

abbrev pub join_of : ℕ → ℕ → Node
join_of name column = node_of name (number_column 120 ∷ number_column column ∷ []) (Join 0 1 (record { left = 0; right = 0 } ∷ []) (0 ∷ []) Error)

abbrev pub plan_of : List Node → Plan
plan_of nodes = record { nodes = nodes; printed = []; published = [] }

abbrev pub number_row : ℕ → ℕ → PlainRow
number_row key cell = record { key = key; cells = pos cell ∷ [] }

abbrev pub empty_table : PlainTable
empty_table = record { width = 1; rows = [] }

abbrev pub adding : ℕ → ℕ → List PlainRow → Block
adding table number rows = record { table = table; number = number; removed = []; shifts = []; added = rows; modified = [] }

abbrev pub filters : Run
filters = record {
  plan = plan_of (source_of 116 ∷ filter_of 112 0 0 ∷ filter_of 113 0 1 ∷ filter_of 114 1 2 ∷ []);
  opening = empty_table ∷ [];
  batches = (record { blocks = adding 0 1 (number_row 0 5 ∷ []) ∷ [] }) ∷ [];
  texts = [];
}

abbrev pub beside : Run
beside = record {
  plan = plan_of (source_of 116 ∷ filter_of 112 0 0 ∷ filter_of 113 0 1 ∷ filter_of 114 0 2 ∷ []);
  opening = empty_table ∷ [];
  batches = (record { blocks = adding 0 1 (number_row 0 5 ∷ []) ∷ [] }) ∷ [];
  texts = [];
}

abbrev pub joins : Run
joins = record {
  plan = plan_of (source_of 108 ∷ source_of 114 ∷ join_of 97 121 ∷ join_of 98 122 ∷ []);
  opening = empty_table ∷ empty_table ∷ [];
  batches = (record { blocks = adding 0 1 (number_row 0 1 ∷ []) ∷ adding 1 3 (number_row 0 1 ∷ number_row 1 1 ∷ []) ∷ [] }) ∷ [];
  texts = [];
}
