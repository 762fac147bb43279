-- Every node's change at every step of a run.
use Rattle.std.proofs.Common.{◌≡◌, sym, subst, ℕ, zero, suc, ◌+◌, ◌<◌, ◌≤◌, arith, length, get_or, add-one}
use Rattle.tick_model.{specs.declared.feed.Run.Run, specs.declared.plan.Node.Node, specs.Evaluation.{source_number, table_at}, specs.LawfulRuns.IsLawfulRun, specs.Sources.{HasTables, sources, source_ticks, tick_at}, specs.States.{empty_at, state, tick, tick_of, ticks, HaveTables, HasLesserInputs}}
use Rattle.tick_laws.{specs.Reached.{KeepsRules, IsReached, IsTickFrom, table_before}, proofs.LawfulSources.lawful_tables, proofs.NodeTicks.each_node_tick, proofs.OpeningTicks.opening_ticks, proofs.Paired.no_node, proofs.ReachedTables.{lesser_inputs, reached_tables}, proofs.TickNodes.{length_ticks, tick_is}, proofs.SourceTicks.{source_tick, source_old, source_new}}

run_ticks_suc : (run : Run) → HasTables run → HasLesserInputs run.plan → (step : ℕ) → KeepsRules run (suc step) → HaveTables run.plan (state run step) → HaveTables run.plan (state run (suc step))
    → (node : ℕ) → node < length run.plan.nodes → IsTickFrom (table_at (state run step) node) (table_at (state run (suc step)) node) (tick run (suc step) node)
run_ticks_suc run h l step fine old new node within =
    each_node_tick run.plan.nodes no_node (sources run step) (sources run (suc step)) (source_ticks run (suc step)) (λ n. l n no_node) old.each new.each old.tables new.tables
    (source_tick run h (suc step) fine) (source_old run step) (source_new (source_ticks run (suc step))) node within

pub run_ticks : (run : Run) → HasTables run → HasLesserInputs run.plan → (step : ℕ) → KeepsRules run (step + 1) → HaveTables run.plan (state run step) → HaveTables run.plan (state run (step + 1))
    → (node : ℕ) → node < length run.plan.nodes → IsTickFrom (table_at (state run step) node) (table_at (state run (step + 1)) node) (tick run (step + 1) node)
run_ticks run h l step fine old new node within =
    subst (λ next. IsTickFrom (table_at (state run step) node) (table_at (state run next) node) (tick run next node)) (sym (add-one step))
    (run_ticks_suc run h l step (λ s below. fine s (omega (arith, below))) old (subst (λ next. HaveTables run.plan (state run next)) (add-one step) new) node within)

-- a step before one that is reached is reached
pub reached_before : (run : Run) (s step : ℕ) → s ≤ step → IsReached run step → IsReached run s
reached_before run s step below r = record {
  batches = λ t under. r.batches t (omega (arith, below, under));
  nodes = λ t under. r.nodes t (omega (arith, below, under));
}

pub lawful_ticks : (run : Run) → IsLawfulRun run → (step : ℕ) → IsReached run step → (node : ℕ) → node < length run.plan.nodes → IsTickFrom (table_before run step node) (table_at (state run step) node) (tick run step node)
lawful_ticks run h zero r node within = opening_ticks run h r node within
lawful_ticks run h (suc step) r node within =
    run_ticks_suc run (lawful_tables run h) (lesser_inputs run.plan h.plan) step r.batches
    (reached_tables run h step (reached_before run step (suc step) (omega arith) r)) (reached_tables run h (suc step) r) node within

-- a node's tick is that of its operator over the ticks of its inputs
pub count_ticks : (run : Run) (step : ℕ) → length (ticks run step) ≡ length run.plan.nodes
count_ticks run zero = length_ticks run.plan.nodes no_node (source_ticks run 0) (empty_at run.plan) (table_at (state run 0))
count_ticks run (suc step) = length_ticks run.plan.nodes no_node (source_ticks run (suc step)) (table_at (state run step)) (table_at (state run (suc step)))

pub tick_of_inputs : (run : Run) (step : ℕ) → HasLesserInputs run.plan → (node : ℕ) (d : Node) → node < length run.plan.nodes
    → tick run step node ≡ tick_of (get_or run.plan.nodes node d).op (tick_at (source_ticks run step) (source_number run.plan.nodes node)) (ticks run step) (table_before run step node) (table_at (state run step) node)
tick_of_inputs run zero lesser node d within = tick_is run.plan.nodes d (source_ticks run 0) (empty_at run.plan) (table_at (state run 0)) node within (lesser node d within)
tick_of_inputs run (suc step) lesser node d within = tick_is run.plan.nodes d (source_ticks run (suc step)) (table_at (state run step)) (table_at (state run (suc step))) node within (lesser node d within)
