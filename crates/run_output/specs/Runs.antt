-- What a run tells.
--     tables_of run      what is shown of its nodes, in order of their numbers
--     update_entries run last      the changes of the printed nodes that are not empty, up to a step
--     snapshot_entries run choice      the snapshots at the steps that a choice gives
--     copy_after node table entries      a copy of a node's table, after the updates among entries
use Rattle.std.{specs.Prelude.{ℕ, ◌+◌, ◌%◌, ◌==◌, List, [], ◌∷◌, ◌++◌, map, flat_map, fold, length, if◌then◌else◌}, specs.List.range_with_len}
use Rattle.tick_model.{specs.declared.feed.Run.Run, specs.declared.plan.Node.Node, specs.declared.plan.Published.Published, specs.declared.table.PlainTable.PlainTable, specs.Changes.{Change, change_of, changed, is_empty}, specs.Evaluation.table_at, specs.States.{state, tick}, specs.Texts.published_node}
use Rattle.update_text.specs.declared.shown.Shown.{Shown}
use Rattle.run_output.{specs.declared.entry.OutputEntry.OutputEntry, specs.declared.entry.OutputEntry.TheVariants.{Update, Snapshot, Done, Fault}}

abbrev pub shown_node : Node → Shown
shown_node node = record { name = node.name; columns = node.columns }

abbrev pub tables_of : Run → List Shown
tables_of run = map shown_node run.plan.nodes

abbrev pub told_update : ℕ → ℕ → Change → List OutputEntry
told_update node step change = if is_empty change.update then [] else Update node step change ∷ []

abbrev pub update_entry : Run → ℕ → ℕ → List OutputEntry
update_entry run step node = told_update node step (change_of (tick run step node))

abbrev pub step_entries : Run → ℕ → List OutputEntry
step_entries run step = flat_map (update_entry run step) run.plan.printed

abbrev pub update_entries : Run → ℕ → List OutputEntry
update_entries run last = flat_map (step_entries run) (range_with_len 0 (last + 1))

abbrev pub snapshot_entry : Run → ℕ → ℕ → ℕ → OutputEntry
snapshot_entry run caller call step =
    let node = published_node run.plan.published ((caller + call) % length run.plan.published) in
    Snapshot node (record { caller = caller; call = call; step = step; rows = (table_at (state run step) node).rows })

abbrev pub calls_entries : Run → ℕ → ℕ → List ℕ → List OutputEntry
calls_entries run caller call [] = []
calls_entries run caller call (step ∷ steps) = snapshot_entry run caller call step ∷ calls_entries run caller (call + 1) steps

abbrev pub callers_entries : Run → ℕ → List (List ℕ) → List OutputEntry
callers_entries run caller [] = []
callers_entries run caller (steps ∷ others) = calls_entries run caller 0 steps ++ callers_entries run (caller + 1) others

-- where nothing is published there are none
abbrev pub where_published : List Published → List OutputEntry → List OutputEntry
where_published [] entries = []
where_published (first ∷ others) entries = entries

abbrev pub snapshot_entries : Run → List (List ℕ) → List OutputEntry
snapshot_entries run choice = where_published run.plan.published (callers_entries run 0 choice)

-- an update of the node's table changes the copy; nothing else does
abbrev pub applied : ℕ → PlainTable → OutputEntry → PlainTable
applied node table (Update other step change) = if other == node then changed table change else table
applied node table (Snapshot other snapshot) = table
applied node table (Done step) = table
applied node table (Fault fields) = table

abbrev pub copy_after : ℕ → PlainTable → List OutputEntry → PlainTable
copy_after node = fold (applied node)
