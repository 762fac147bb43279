-- Why a run ends before its last step.
--     rows_in graph table      how many rows a published table has at the step at which the graph stands
--     IsPast run step outcome      a published table has more rows than its limit at the step, and this is the least one
--     IsCause run step outcome      this is what spoils the step
use Rattle.std.specs.Prelude.{◌≡◌, ℕ, Some, length}
use Rattle.tick_model.{specs.declared.feed.Run.Run, specs.declared.plan.Published.Published, specs.Evaluation.table_at, specs.Spoiled.{ByBatch, ByNode, ByPublication, publication_fault, spoiled_by}, specs.States.state}
use Rattle.update_graph.specs.Graphs.{GraphView}
use Rattle.replay.{specs.declared.outcome.Outcome.Outcome, specs.declared.outcome.Outcome.TheVariants.{Done, Memory, Kept, Feed, Node, Publish, Write}, specs.Outcomes.limit_at}

abbrev pub rows_in : GraphView → Published → ℕ
rows_in graph table = length (table_at (state graph.run graph.step) table.node).rows

abbrev pub IsPast : Run → ℕ → Outcome → Type 0
IsPast run step (Publish at number rows limit) = (at ≡ step) × (publication_fault 0 (state run step) run.plan.published ≡ Some (ByPublication number rows)) × (limit ≡ limit_at run number)
IsPast run step outcome = ⊥

abbrev pub IsCause : Run → ℕ → Outcome → Type 0
IsCause run step (Done at records rows) = ⊥
IsCause run step Memory = ⊥
IsCause run step (Kept words) = ⊥
IsCause run step (Feed at number fault) = (at ≡ step) × (spoiled_by run step ≡ Some (ByBatch number fault))
IsCause run step (Node at node kind) = (at ≡ step) × (spoiled_by run step ≡ Some (ByNode node kind))
IsCause run step (Publish at number rows limit) = (at ≡ step) × (spoiled_by run step ≡ Some (ByPublication number rows)) × (limit ≡ limit_at run number)
IsCause run step Write = ⊥
