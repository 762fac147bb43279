-- Each node's table at a step, and its change since the step before.
use Rattle.std.{specs.Prelude.{if◌then◌else◌, ℕ, zero, suc, List, [], ◌∷◌, ◌++◌, fold, length, ◌≡◌, ◌<◌, true, slice_index_or}, specs.List.AllByRecursion}
use Rattle.tick_model.{specs.Tables.IsTable, specs.declared.feed.Run.Run, specs.declared.plan.Op.Op, specs.declared.plan.Node.Node, specs.declared.plan.Plan.Plan, specs.declared.table.PlainTable.PlainTable, specs.Updates.Tick, specs.Evaluation.{Outcome, eval, source_number, table_at, has_table, outcome_at}, specs.Operators.{inputs_of, is_source_op, kept_by}, specs.Sources.{source_ticks, sources, tick_at}}

abbrev pub state : Run → ℕ → List Outcome
state run step = eval run.plan (sources run step)

abbrev pub tick_of : Op → Tick → List Tick → PlainTable → PlainTable → Tick
tick_of op own done old new = if is_source_op op then own else record { old = old; new = new; kept = kept_by op (tick_at done) old new }

-- the tick of a node, from those of the nodes before it
abbrev pub tick_node : List Node → List Tick → (ℕ → PlainTable) → (ℕ → PlainTable) → List Tick → Node → List Tick
tick_node nodes own old new done node =
    let n = length done in
    done ++ tick_of node.op (tick_at own (source_number nodes n)) done (old n) (new n) ∷ []

abbrev pub ticks_between : Plan → List Tick → (ℕ → PlainTable) → (ℕ → PlainTable) → List Tick
ticks_between plan own old new = fold (tick_node plan.nodes own old new) [] plan.nodes

-- the tables before a step; before the opening all are empty
abbrev pub empty_at : Plan → ℕ → PlainTable
empty_at plan node = record { width = width_at plan.nodes node; rows = [] }
  where
    width_at : List Node → ℕ → ℕ
    width_at [] node = 0
    width_at (n ∷ nodes) zero = length n.columns
    width_at (n ∷ nodes) (suc node) = width_at nodes node

abbrev pub ticks : Run → ℕ → List Tick
ticks run zero = ticks_between run.plan (source_ticks run 0) (empty_at run.plan) (table_at (state run 0))
ticks run (suc step) = ticks_between run.plan (source_ticks run (suc step)) (table_at (state run step)) (table_at (state run (suc step)))

abbrev pub tick : Run → ℕ → ℕ → Tick
tick run step node = tick_at (ticks run step) node

-- each node has a table, by the rules of tables
pub record HaveTables (plan : Plan) (outcomes : List Outcome) : Type 0 where
  pub each : (n : ℕ) → n < length plan.nodes → has_table (outcome_at outcomes n) ≡ true
  pub tables : (n : ℕ) → IsTable (table_at outcomes n)

-- a node's inputs are lesser nodes
abbrev pub HasLesserInputs : Plan → Type 0
HasLesserInputs plan = (n : ℕ) (d : Node) → n < length plan.nodes → AllByRecursion (λ input. input < n) (inputs_of (slice_index_or plan.nodes n d).op)
