-- The steps of a run that are good, and why the first other one is spoiled.
use Rattle.std.{specs.Prelude.{ℕ, ◌+◌, zero, suc, List, [], ◌∷◌, Option, Some, None, find, length, nat_lt, if◌then◌else◌, is_some, option_map}, specs.List.range_with_len, specs.Option.option_or}
use Rattle.tick_model.{specs.declared.feed.Run.Run, specs.declared.plan.Published.Published, specs.declared.table.NodeFault.NodeFault, specs.Evaluation.{Outcome, Table, Fault, NoInput, table_at}, specs.declared.update.FeedRule.FeedRule, specs.Sources.batch_fault, specs.States.state}

-- by a record of the batch and its rule, by a node and its fault, by the number of a published table and its rows
pub data Cause : Type 0 where
  ByBatch : ℕ → FeedRule → Cause
  ByNode : ℕ → NodeFault → Cause
  ByPublication : ℕ → ℕ → Cause

-- the least node that fails although its inputs have tables
abbrev pub node_fault : ℕ → List Outcome → Option Cause
node_fault node [] = None
node_fault node (Table table ∷ others) = node_fault (node + 1) others
node_fault node (Fault fault ∷ others) = Some (ByNode node fault)
node_fault node (NoInput ∷ others) = node_fault (node + 1) others

-- the least published table with more rows than its limit
abbrev pub publication_fault : ℕ → List Outcome → List Published → Option Cause
publication_fault number outcomes [] = None
publication_fault number outcomes (published ∷ others) =
    let rows = length (table_at outcomes published.node).rows in
    if nat_lt published.limit rows then Some (ByPublication number rows) else publication_fault (number + 1) outcomes others

abbrev pub spoiled_by : Run → ℕ → Option Cause
spoiled_by run step =
    option_or (option_map (λ broken. ByBatch broken.0 broken.1) (batch_fault run step))
    (option_or (node_fault 0 (state run step)) (publication_fault 0 (state run step) run.plan.published))

-- the first spoiled step
abbrev pub first_spoiled : Run → Option ℕ
first_spoiled run = find (λ step. is_some (spoiled_by run step)) (range_with_len 0 (length run.batches + 1))

-- the last good step: the one before the first spoiled one, or the last
abbrev pub step_before : ℕ → Option ℕ → Option ℕ
step_before last None = Some last
step_before last (Some zero) = None
step_before last (Some (suc step)) = Some step

abbrev pub good : Run → Option ℕ
good run = step_before (length run.batches) (first_spoiled run)
