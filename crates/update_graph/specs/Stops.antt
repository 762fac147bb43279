-- Why a run goes no further.
--     IsStop run step stop      the step's batch breaks this rule; or it breaks none, and this is the least node that fails; or memory ran out
use Rattle.std.specs.Prelude.{◌≡◌, ℕ, Some, None}
use Rattle.tick_model.{specs.declared.feed.Run.Run, specs.Sources.batch_fault, specs.Spoiled.{ByNode, node_fault}, specs.States.state}
use Rattle.update_graph.{specs.declared.stop.Stop.Stop, specs.declared.stop.Stop.TheVariants.{Memory, Feed, Node}}

abbrev pub IsStop : Run → ℕ → Stop → Type 0
IsStop run step Memory = Unit {0}
IsStop run step (Feed at number fault) = (at ≡ step) × (batch_fault run step ≡ Some (number, fault))
IsStop run step (Node at node kind) = (at ≡ step) × (batch_fault run step ≡ None) × (node_fault 0 (state run step) ≡ Some (ByNode node kind))
