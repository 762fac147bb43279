-- The printed records.
--     record_text fields      the line of a record
--     change_records step name columns texts change      the records of a change, none where its update is empty
--     updates_text run last      the changes of the printed nodes, up to a step
--     snapshots_text run choice      the snapshots at the steps that a choice gives
--     summary_text run step      how many records the changes have, and how many rows each node has at a step
use Rattle.std.{specs.Prelude.{ℕ, ◌+◌, ◌*◌, ◌%◌, ◌==◌, ◌||◌, Bool, List, [], ◌∷◌, ◌++◌, map, flat_map, drop, length, ℤ, codes, slice_index_or, if◌then◌else◌}, specs.List.{list_any, range_with_len}, specs.Fmt.{decimal, signed_decimal}}
use Rattle.key_lists.specs.Keys.{runs}
use Rattle.tick_model.{specs.declared.feed.Run.Run, specs.declared.plan.ColumnSpec.ColumnSpec, specs.declared.plan.Kind.Kind, specs.declared.plan.Kind.TheVariants.{Long, Text}, specs.declared.plan.Node.Node, specs.declared.plan.Published.Published, specs.declared.table.PlainRow.PlainRow, specs.declared.update.ShiftRange.ShiftRange, specs.Tables.is_null, specs.Shifts.as_key, specs.Changes.{Change, rows_under, change_of, is_empty}, specs.Evaluation.table_at, specs.States.{state, tick}}

-- The fields of a record, joined by commas and ended by a line feed. A field that holds a comma, a double quote, a carriage return or a
-- line feed stands in double quotes, with each double quote in it doubled.
abbrev pub needs_quotes : ℕ → Bool
needs_quotes byte = (byte == 44) || (byte == 34) || (byte == 13) || (byte == 10)

abbrev pub doubled : ℕ → List ℕ
doubled byte = if byte == 34 then 34 ∷ 34 ∷ [] else byte ∷ []

abbrev pub field_text : List ℕ → List ℕ
field_text field = if list_any needs_quotes field then 34 ∷ flat_map doubled field ++ 34 ∷ [] else field

abbrev pub comma_before : List ℕ → List ℕ
comma_before field = 44 ∷ field_text field

abbrev pub fields_text : List (List ℕ) → List ℕ
fields_text [] = []
fields_text (field ∷ fields) = field_text field ++ flat_map comma_before fields

abbrev pub record_text : List (List ℕ) → List ℕ
record_text fields = fields_text fields ++ 10 ∷ []

abbrev pub records_text : List (List (List ℕ)) → List ℕ
records_text = flat_map record_text

-- a cell: nothing where it is null, else its number or its text
abbrev pub known_cell_text : List (List ℕ) → Kind → ℤ → List ℕ
known_cell_text texts Long cell = signed_decimal cell
known_cell_text texts Text cell = slice_index_or texts (as_key cell) []

abbrev pub cell_text : List (List ℕ) → Kind → ℤ → List ℕ
cell_text texts kind cell = if is_null cell then [] else known_cell_text texts kind cell

abbrev pub cell_texts : List (List ℕ) → List ColumnSpec → List ℤ → List (List ℕ)
cell_texts texts [] cells = []
cell_texts texts (column ∷ columns) [] = []
cell_texts texts (column ∷ columns) (cell ∷ cells) = cell_text texts column.kind cell ∷ cell_texts texts columns cells

-- the records of rows, of removed keys, of shifts and of modified columns
abbrev pub row_record : List ℕ → List (List ℕ) → List ColumnSpec → PlainRow → List (List ℕ)
row_record tag texts columns row = tag ∷ decimal row.key ∷ cell_texts texts columns row.cells

abbrev pub removed_record : (ℕ × ℕ) → List (List ℕ)
removed_record keys = codes "r" ∷ decimal keys.0 ∷ decimal keys.1 ∷ []

abbrev pub shift_record : ShiftRange → List (List ℕ)
shift_record range = codes "s" ∷ decimal range.begin ∷ decimal range.end ∷ signed_decimal range.delta ∷ []

abbrev pub column_name : List ColumnSpec → ℕ → List ℕ
column_name columns column = slice_index_or (map (λ spec. spec.name) columns) column []

abbrev pub columns_record : List ColumnSpec → List ℕ → List (List (List ℕ))
columns_record columns [] = []
columns_record columns (first ∷ others) = (codes "c" ∷ map (column_name columns) (first ∷ others)) ∷ []

-- the records of a change that is not empty: the step, removed keys, shifts, added rows, modified columns, modified rows
abbrev pub step_record : ℕ → List ℕ → List (List ℕ)
step_record step name = codes "step" ∷ decimal step ∷ name ∷ []

abbrev pub told_records : ℕ → List ℕ → List ColumnSpec → List (List ℕ) → Change → List (List (List ℕ))
told_records step name columns texts change =
    let update = change.update in
    let width = length columns in
    let added = rows_under width update.added change.cells in
    let modified = rows_under width update.modified (drop (width * length update.added) change.cells) in
    step_record step name
    ∷ map removed_record (runs update.removed)
    ++ map shift_record update.shifted
    ++ map (row_record (codes "a") texts columns) added
    ++ columns_record columns update.columns
    ++ map (row_record (codes "m") texts columns) modified

abbrev pub change_records : ℕ → List ℕ → List ColumnSpec → List (List ℕ) → Change → List (List (List ℕ))
change_records step name columns texts change = if is_empty change.update then [] else told_records step name columns texts change

-- the records of the changes of a run's printed nodes, at one step and up to a step
abbrev pub name_at : Run → ℕ → List ℕ
name_at run node = slice_index_or (map (λ n. n.name) run.plan.nodes) node []

abbrev pub columns_at : Run → ℕ → List ColumnSpec
columns_at run node = slice_index_or (map (λ n. n.columns) run.plan.nodes) node []

abbrev pub node_records : Run → ℕ → ℕ → List (List (List ℕ))
node_records run step node = change_records step (name_at run node) (columns_at run node) run.texts (change_of (tick run step node))

abbrev pub step_records : Run → ℕ → List (List (List ℕ))
step_records run step = flat_map (node_records run step) run.plan.printed

abbrev pub updates_records : Run → ℕ → List (List (List ℕ))
updates_records run last = flat_map (step_records run) (range_with_len 0 (last + 1))

abbrev pub updates_text : Run → ℕ → List ℕ
updates_text run last = records_text (updates_records run last)

-- a snapshot: a caller's call takes the whole table of one published node at one step; the calls go through the published tables in turn
abbrev pub snapshot_of : ℕ → ℕ → ℕ → List ℕ → List ColumnSpec → List (List ℕ) → List PlainRow → List (List (List ℕ))
snapshot_of caller call step name columns texts rows =
    (codes "snap" ∷ decimal caller ∷ decimal call ∷ decimal step ∷ name ∷ []) ∷ map (row_record (codes "w") texts columns) rows

abbrev pub published_node : List Published → ℕ → ℕ
published_node published number = slice_index_or (map (λ p. p.node) published) number 0

abbrev pub snapshot_records : Run → ℕ → ℕ → ℕ → List (List (List ℕ))
snapshot_records run caller call step =
    let node = published_node run.plan.published ((caller + call) % length run.plan.published) in
    snapshot_of caller call step (name_at run node) (columns_at run node) run.texts (table_at (state run step) node).rows

-- by caller and then by call, at the steps that each caller's calls were given
abbrev pub calls_records : Run → ℕ → ℕ → List ℕ → List (List (List ℕ))
calls_records run caller call [] = []
calls_records run caller call (step ∷ steps) = snapshot_records run caller call step ++ calls_records run caller (call + 1) steps

abbrev pub callers_records : Run → ℕ → List (List ℕ) → List (List (List ℕ))
callers_records run caller [] = []
callers_records run caller (steps ∷ others) = calls_records run caller 0 steps ++ callers_records run (caller + 1) others

-- where nothing is published there are no snapshots
abbrev pub some_published : List Published → List (List (List ℕ)) → List (List (List ℕ))
some_published [] records = []
some_published (first ∷ others) records = records

abbrev pub snapshots_text : Run → List (List ℕ) → List ℕ
snapshots_text run choice = records_text (some_published run.plan.published (callers_records run 0 choice))

-- the summary of a run up to a step: the records of its changes, the rows of each node, and the end
abbrev pub size_records : Run → ℕ → ℕ → List Node → List (List (List ℕ))
size_records run step node [] = []
size_records run step node (first ∷ others) =
    (codes "size" ∷ first.name ∷ decimal (length (table_at (state run step) node).rows) ∷ []) ∷ size_records run step (node + 1) others

abbrev pub done_record : ℕ → List (List ℕ)
done_record step = codes "done" ∷ decimal step ∷ []

abbrev pub summary_text : Run → ℕ → List ℕ
summary_text run step =
    records_text ((codes "demo" ∷ decimal step ∷ decimal (length (updates_records run step)) ∷ []) ∷ size_records run step 0 run.plan.nodes ++ done_record step ∷ [])
