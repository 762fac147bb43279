-- What a node keeps from step to step, and what it hands to its dependents.
--     is_defined run step node      whether the node has a table at the step
--     shown run step node      its table at the step, with its update
--     Stays run step node      the node has a table, which the step does not change
--     IsHanded run step node table      this is the node's table at the step, or it has none
--     AreHanded shares tables      these are the tables that they hand on, or one of them has none
--     room_for run step node update      how many cells a step of the node may read, where this is the update of its table: four for each column of its inputs and of its own table, and each row that these touch, where a modified row counts twice
--     most_reads run step node      the same for the update of its table at the step
--     most_tried run step node      the same for the update that its operator makes of those of its inputs, or would make where the node fails
--     all_defined shares      whether each share has a table
--     HasReadOnce old new      what was read in the earlier steps stands as it was, and one number is added
--     Follows old new      so it is with what is kept of a node, from one step to the next, where it has an operator and a table
--     ForEach Holds olds news      this holds of each two elements that have one place in the two lists
--     HasStepped run steps node reads      its operator has taken so many steps, one for each step of the run, and read these numbers of cells in them, none of which is above the most of its step
--     IsReady run tables steps node operator table      the operator is the node's, has taken so many steps, and stands for its inputs' tables; the table is the node's own
--     reads_of state      what the operator of a node has read in each of its steps, and nothing where it has no table
--     IsKept run step node state      what is kept of the node is of this step
use Rattle.std.{specs.Prelude.{◌≡◌, ℕ, ◌+◌, ◌*◌, ◌<◌, ◌≤◌, Bool, true, false, List, [], ◌∷◌, ◌++◌, length, map, slice_index, sum, Option, Some, None}, specs.Arc.arc_value, specs.List.{AllByRecursion, list_all}, specs.declared.alloc.Global.Global, specs.declared.sync.Arc.Arc}
use mathlib.Core.Option.{some}
use lib.ListN.{get_elem?}
use Rattle.table_operator.specs.Inputs.{counted_in, tables}
use Rattle.operators.{specs.Operating.{Operating, StandsFor}, specs.Planned.input_widths}
use Rattle.tick_laws.specs.Operated.{operated}
use Rattle.tick_model.{specs.declared.feed.Run.Run, specs.declared.table.PlainTable.PlainTable, specs.Changes.{change_of, is_empty}, specs.Evaluation.{Fault, NoInput, has_table, outcome_at, source_number, table_at}, specs.Operators.{inputs_of, result_width}, specs.States.{state, tick}, specs.Updates.Update}
use Rattle.tick_table.{specs.Exact.{counted, ticking}, specs.Ticking.Ticking}
use Rattle.update_graph.{specs.declared.work.State.State, specs.declared.work.State.TheVariants.{Source, Defined, Failed, Undefined}, specs.Tags.{Kept, Tag, is_operator, op_at}}

abbrev pub is_defined : Run → ℕ → ℕ → Bool
is_defined run step node = has_table (outcome_at (state run step) node)

abbrev pub shown : Run → ℕ → ℕ → Ticking
shown run step node = ticking (tick run step node)

abbrev pub Stays : Run → ℕ → ℕ → Type 0
Stays run step node = (is_defined run step node ≡ true) × (is_empty (shown run step node).update ≡ true)

abbrev pub IsHanded : Run → ℕ → ℕ → Option (Arc Ticking Global) → Type 0
IsHanded run step node (Some table) = (is_defined run step node ≡ true) × (arc_value {X = Ticking} table ≡ shown run step node)
IsHanded run step node None = is_defined run step node ≡ false

abbrev pub AreHanded : List Tag → Option (List (Arc Ticking Global)) → Type 0
AreHanded shares (Some all) = AllByRecursion (λ share. is_defined share.run share.step share.node ≡ true) shares × (tables all ≡ map (λ share. shown share.run share.step share.node) shares)
AreHanded shares None = list_all (λ share. is_defined share.run share.step share.node) shares ≡ false

abbrev pub room_for : Run → ℕ → ℕ → Update → ℕ
room_for run step node update =
    let op = op_at run node in
    let widths = input_widths run.plan op in
    4 * (sum widths + result_width op widths) * (counted_in (map (shown run step) (inputs_of op)) + counted update)

abbrev pub most_reads : Run → ℕ → ℕ → ℕ
most_reads run step node = room_for run step node (shown run step node).update

abbrev pub most_tried : Run → ℕ → ℕ → ℕ
most_tried run step node = room_for run step node (change_of (operated (op_at run node) (tick run step))).update

abbrev pub all_defined : List Tag → Bool
all_defined = list_all (λ share. is_defined share.run share.step share.node)

abbrev pub HasReadOnce : List ℕ → List ℕ → Type 0
HasReadOnce old new = (count : ℕ) × (new ≡ old ++ count ∷ [])

abbrev pub Follows : Kept → Kept → Type 0
Follows old new = is_operator new.run new.node ≡ true → is_defined new.run new.step new.node ≡ true → HasReadOnce old.reads new.reads

abbrev pub ForEach : (Kept → Kept → Type 0) → List Kept → List Kept → Type 0
ForEach Holds olds news = (n : ℕ) (old new : Kept) → get_elem? olds n ≡ some old → get_elem? news n ≡ some new → Holds old new

pub record HasStepped (run : Run) (steps node : ℕ) (reads : List ℕ) : Type 0 where
  pub each : length reads ≡ steps
  pub within : (step : ℕ) → step < steps → slice_index reads step ≤ most_reads run step node

pub record IsReady (run : Run) (tables : ℕ → PlainTable) (steps node : ℕ) (operator : Operating) (table : Arc Ticking Global) : Type 0 where
  pub op : operator.op ≡ op_at run node
  pub widths : operator.widths ≡ input_widths run.plan (op_at run node)
  pub stands : StandsFor operator (map tables (inputs_of (op_at run node)))
  pub own : (arc_value {X = Ticking} table).new ≡ tables node
  pub stepped : HasStepped run steps node operator.reads

abbrev pub reads_of : State → List ℕ
reads_of (Defined ready) = ready.value.operator.reads
reads_of state = []

abbrev pub IsKept : Run → ℕ → ℕ → State → Type 0
IsKept run step node (Source place) = (is_operator run node ≡ false) × (is_defined run step node ≡ true) × (place ≡ source_number run.plan.nodes node)
IsKept run step node (Defined ready) = (is_defined run step node ≡ true) × IsReady run (table_at (state run step)) (step + 1) node ready.value.operator ready.value.table × (arc_value {X = Ticking} ready.value.table ≡ shown run step node)
IsKept run step node (Failed fault) = outcome_at (state run step) node ≡ Fault fault
IsKept run step node Undefined = outcome_at (state run step) node ≡ NoInput
