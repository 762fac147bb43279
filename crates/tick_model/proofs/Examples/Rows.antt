-- Short forms for the examples.
use Rattle.std.proofs.Common.{ℕ, List, [], ℤ}
use Rattle.tick_model.{specs.declared.feed.Batch.Batch, specs.declared.feed.Block.Block, specs.declared.update.KeyRange.KeyRange, specs.declared.feed.Run.Run, specs.declared.update.ShiftRange.ShiftRange, specs.declared.plan.ColumnSpec.ColumnSpec, specs.declared.plan.Kind.TheVariants.Long, specs.declared.plan.Node.Node, specs.declared.plan.Op.Op, specs.declared.plan.Plan.Plan, specs.declared.table.PlainRow.PlainRow, specs.declared.table.PlainTable.PlainTable, specs.Updates.{Tick, Update, between, told}}

abbrev pub a : ℕ → List ℤ → PlainRow
a key cells = record { key = key; cells = cells }

abbrev pub r : ℕ → ℕ → KeyRange
r first last = record { first = first; last = last }

abbrev pub s : ℕ → ℕ → ℤ → ShiftRange
s begin end delta = record { begin = begin; end = end; delta = delta }

abbrev pub t : ℕ → List KeyRange → List ShiftRange → List PlainRow → List PlainRow → Block
t table removed shifts added modified = record { table = table; number = 1; removed = removed; shifts = shifts; added = added; modified = modified }

abbrev pub step_of : List Block → Batch
step_of blocks = record { blocks = blocks }

abbrev pub long : ColumnSpec
long = record { name = []; kind = Long }

abbrev pub node : List ColumnSpec → Op → Node
node columns op = record { name = []; columns = columns; op = op }

abbrev pub empty : ℕ → PlainTable
empty width = record { width = width; rows = [] }

abbrev pub plan_of : List Node → Plan
plan_of nodes = record { nodes = nodes; printed = []; published = [] }

abbrev pub run_of : List Node → List PlainTable → List Batch → Run
run_of nodes opening batches = record { plan = plan_of nodes; opening = opening; batches = batches; texts = [] }

abbrev pub update : List ℕ → List ShiftRange → List ℕ → List ℕ → List ℕ → Update
update removed shifted added modified columns = record { removed = removed; added = added; modified = modified; shifted = shifted; columns = columns }

-- an update with its new rows
abbrev pub shown : Tick → Update × List PlainRow
shown tick = (between tick, told tick)
