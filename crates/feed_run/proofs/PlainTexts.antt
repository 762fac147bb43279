-- The snapshots and the summary of a run are the same wherever its formulas lie.
use Rattle.std.proofs.Common.{◌≡◌, ℕ, ◌+◌, List, [], ◌∷◌, ◌++◌, map, length, refl, ap, ◌∙◌}
use Rattle.std.{specs.Fmt.decimal, specs.List.range_with_len, specs.Prelude.{◌%◌, codes, flat_map}}
use Rattle.tick_model.{specs.declared.feed.Run.Run, specs.declared.plan.ColumnSpec.ColumnSpec, specs.declared.plan.Node.Node, specs.Evaluation.table_at, specs.States.state, specs.Texts.{name_at, columns_at, records_text, updates_records, snapshot_of, published_node, snapshot_records, calls_records, callers_records, some_published, snapshots_text, size_records, summary_text, done_record}}
use Rattle.script_reader.specs.Plain.{plain_node}
use Rattle.feed_reader.specs.Assembled.{plain_run}
use Rattle.feed_run.proofs.PlainRuns.{state_plain, name_plain, columns_plain, step_records_plain}

-- snapshots
snapshot_plain : (run : Run) (caller call step : ℕ) → snapshot_records (plain_run run) caller call step ≡ snapshot_records run caller call step
snapshot_plain run caller call step =
    let node = published_node run.plan.published ((caller + call) % length run.plan.published) in
    ap (λ (of : ℕ → List ℕ). snapshot_of caller call step (of node) (columns_at (plain_run run) node) run.texts (table_at (state (plain_run run) step) node).rows) (name_plain run)
    ∙ ap (λ (of : ℕ → List ColumnSpec). snapshot_of caller call step (name_at run node) (of node) run.texts (table_at (state (plain_run run) step) node).rows) (columns_plain run)
    ∙ ap (λ outcomes. snapshot_of caller call step (name_at run node) (columns_at run node) run.texts (table_at outcomes node).rows) (state_plain run step)

calls_plain : (run : Run) (caller call : ℕ) (steps : List ℕ) → calls_records (plain_run run) caller call steps ≡ calls_records run caller call steps
calls_plain run caller call [] = refl
calls_plain run caller call (step ∷ steps) =
    ap (λ first. first ++ calls_records (plain_run run) caller (call + 1) steps) (snapshot_plain run caller call step)
    ∙ ap (λ rest. snapshot_records run caller call step ++ rest) (calls_plain run caller (call + 1) steps)

callers_plain : (run : Run) (caller : ℕ) (choice : List (List ℕ)) → callers_records (plain_run run) caller choice ≡ callers_records run caller choice
callers_plain run caller [] = refl
callers_plain run caller (steps ∷ others) =
    ap (λ first. first ++ callers_records (plain_run run) (caller + 1) others) (calls_plain run caller 0 steps)
    ∙ ap (λ rest. calls_records run caller 0 steps ++ rest) (callers_plain run (caller + 1) others)

pub snapshots_plain : (run : Run) (choice : List (List ℕ)) → snapshots_text (plain_run run) choice ≡ snapshots_text run choice
snapshots_plain run choice = ap (λ records. records_text (some_published run.plan.published records)) (callers_plain run 0 choice)

-- the summary
sizes_plain : (run : Run) (step node : ℕ) (nodes : List Node) → size_records (plain_run run) step node (map plain_node nodes) ≡ size_records run step node nodes
sizes_plain run step node [] = refl
sizes_plain run step node (first ∷ others) =
    ap (λ outcomes. (codes "size" ∷ first.name ∷ decimal (length (table_at outcomes node).rows) ∷ []) ∷ size_records (plain_run run) step (node + 1) (map plain_node others)) (state_plain run step)
    ∙ ap (λ rest. (codes "size" ∷ first.name ∷ decimal (length (table_at (state run step) node).rows) ∷ []) ∷ rest) (sizes_plain run step (node + 1) others)

pub summary_plain : (run : Run) (step : ℕ) → summary_text (plain_run run) step ≡ summary_text run step
summary_plain run step =
    ap (λ (of : ℕ → List (List (List ℕ))). records_text ((codes "demo" ∷ decimal step ∷ decimal (length (flat_map of (range_with_len 0 (step + 1)))) ∷ []) ∷ size_records (plain_run run) step 0 (map plain_node run.plan.nodes) ++ done_record step ∷ [])) (step_records_plain run)
    ∙ ap (λ sizes. records_text ((codes "demo" ∷ decimal step ∷ decimal (length (updates_records run step)) ∷ []) ∷ sizes ++ done_record step ∷ [])) (sizes_plain run step 0 run.plan.nodes)
