-- What lawful plans say of their operators.
use Rattle.std.proofs.Common.{◌≡◌, ap, sym, ◌∙◌, ℕ, ◌<◌, map, length, false}
use Rattle.std.specs.Prelude.{slice_index}
use Rattle.table_operator.specs.Made.{HasKeys}
use Rattle.operators.{specs.Operating.CanBeMade, specs.Planned.input_widths, proofs.Each.empty_result, proofs.Planning.{empty_inputs, empty_node, planned_node}, proofs.Roomy.roomy_node}
use Rattle.tick_laws.{specs.Bounded.IsNodeTable, specs.Operated.EachInput, proofs.ReachedTables.lesser_inputs}
use Rattle.tick_model.{specs.declared.feed.Run.Run, specs.declared.table.PlainTable.PlainTable, specs.Evaluation.is_source, specs.Operators.{inputs_of, result}, specs.LawfulRuns.IsLawfulRun, specs.Plans.{columns_at, key_bounds}, specs.States.empty_at}
use Rattle.tick_table.specs.Ticking.{no_rows}
use Rattle.update_graph.specs.Tags.{no_node, node_at, op_at}

-- before the opening the inputs are empty, and so is what the operator makes of them
pub begin_inputs : (run : Run) → IsLawfulRun run → (node : ℕ) → node < length run.plan.nodes → map (empty_at run.plan) (inputs_of (op_at run node)) ≡ map no_rows (input_widths run.plan (op_at run node))
begin_inputs run h node within = empty_inputs run.plan node (inputs_of (op_at run node)) within (lesser_inputs run.plan h.plan node no_node within)

pub begin_own : (run : Run) → (node : ℕ) → node < length run.plan.nodes → empty_at run.plan node ≡ no_rows (length (columns_at run.plan.nodes node))
begin_own run node within = empty_node run.plan node within

pub begin_result : (run : Run) → IsLawfulRun run → (node : ℕ) → node < length run.plan.nodes → is_source (node_at run node) ≡ false → result (op_at run node) (empty_at run.plan) ≡ empty_at run.plan node
begin_result run h node within is =
    empty_result (op_at run node) (empty_at run.plan) (input_widths run.plan (op_at run node)) (begin_inputs run h node within)
    ∙ ap no_rows (planned_node run.plan node no_node h.plan within is).width
    ∙ sym (begin_own run node within)

pub can_be_made : (run : Run) → IsLawfulRun run → (node : ℕ) → node < length run.plan.nodes → is_source (node_at run node) ≡ false → CanBeMade (op_at run node) (input_widths run.plan (op_at run node))
can_be_made run h node within is = (planned_node run.plan node no_node h.plan within is).made

-- and at any step there are keys enough
pub have_keys : (run : Run) → IsLawfulRun run → (node : ℕ) → node < length run.plan.nodes → (table : ℕ → PlainTable)
    → EachInput (op_at run node) (λ input. IsNodeTable (length (columns_at run.plan.nodes input)) (slice_index (key_bounds run.plan.nodes) input) (table input)) → HasKeys (op_at run node) (map table (inputs_of (op_at run node)))
have_keys run h node within table inputs = roomy_node run.plan node no_node h.plan within table inputs
