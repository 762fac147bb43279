-- A small run for worked examples: a source of one column, and its rows above 5, which are published with at most two rows. They are
-- 3: 7 in the opening, 3: 7 and 4: 8 after the first step, and one row too many after the second.
use Rattle.std.specs.Prelude.{ℕ, List, [], ◌∷◌, ℤ, pos}
use Rattle.row_set.{specs.Ranges.keys_from, specs.Sets.united}
use Rattle.tick_model.{specs.Changes.Change, specs.Updates.Update, specs.declared.feed.Batch.Batch, specs.declared.feed.Run.Run, specs.declared.plan.ColumnSpec.ColumnSpec, specs.declared.plan.Comparison.TheVariants.Gt, specs.declared.plan.Expr.{Cell, Number}, specs.declared.plan.Kind.TheVariants.Long, specs.declared.plan.Node.Node, specs.declared.plan.Op.Op, specs.declared.plan.Op.TheVariants.{Source, Keep}, specs.declared.plan.Plan.Plan, specs.declared.plan.Pred.Compare, specs.declared.table.PlainRow.PlainRow, specs.declared.table.PlainTable.PlainTable}

abbrev pub example_columns : List ColumnSpec
example_columns = (record { name = 120 ∷ []; kind = Long }) ∷ []

-- the nodes t and b
abbrev pub example_node : ℕ → Op → Node
example_node name op = record { name = name ∷ []; columns = example_columns; op = op }

abbrev pub example_plan : Plan
example_plan = record {
  nodes = example_node 116 Source ∷ example_node 98 (Keep 0 (Compare Gt (Cell 0) (Number (pos 5)))) ∷ [];
  printed = [];
  published = (record { node = 1; width = 1; limit = 2 }) ∷ [];
}

abbrev pub example_row : ℕ → ℤ → PlainRow
example_row key cell = record { key = key; cells = cell ∷ [] }

abbrev pub example_batch : ℕ → PlainRow → Batch
example_batch number row = record { blocks = (record { table = 0; number = number; removed = []; shifts = []; added = row ∷ []; modified = [] }) ∷ [] }

abbrev pub example : Run
example = record {
  plan = example_plan;
  opening = (record { width = 1; rows = example_row 0 (pos 0) ∷ example_row 1 (pos 0) ∷ example_row 2 (pos 0) ∷ example_row 3 (pos 7) ∷ [] }) ∷ [];
  batches = example_batch 1 (example_row 4 (pos 8)) ∷ example_batch 4 (example_row 5 (pos 9)) ∷ [];
  texts = [];
}

abbrev pub example_table : List PlainRow → PlainTable
example_table rows = record { width = 1; rows = rows }

abbrev pub first_rows : List PlainRow
first_rows = example_row 3 (pos 7) ∷ []

abbrev pub second_rows : List PlainRow
second_rows = example_row 3 (pos 7) ∷ example_row 4 (pos 8) ∷ []

abbrev pub third_rows : List PlainRow
third_rows = example_row 3 (pos 7) ∷ example_row 4 (pos 8) ∷ example_row 5 (pos 9) ∷ []

-- the change that adds a row
abbrev pub adds : ℕ → Update
adds key = record { removed = []; added = united (keys_from key key) []; modified = []; shifted = []; columns = [] }

abbrev pub add_row : ℕ → ℤ → Change
add_row key cell = record { update = adds key; cells = cell ∷ [] }
