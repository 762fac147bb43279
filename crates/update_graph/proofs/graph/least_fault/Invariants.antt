use Rattle.std.proofs.Common.{◌≡◌, ℕ, drop, length, map}
use Rattle.tick_model.{specs.declared.feed.Run.Run, specs.Spoiled.node_fault, specs.States.state}
use Rattle.update_graph.{specs.Tags.{all_reads, named, tags}, proofs.Sweeping.SteppedBelow}
use Rattle.update_graph.proofs.graph.least_fault.Given as goal

abbrev pub invariant-loop-node : goal.invariant-loop-node
invariant-loop-node l = record {
  fault : (run : Run) (step : ℕ) → map named l.works ≡ tags run step (length run.plan.nodes) → node_fault 0 (state run step) ≡ node_fault l.node (drop l.node (state run step));
  stepped : (run : Run) (step : ℕ) → map named l.works ≡ tags run step (length run.plan.nodes) → SteppedBelow run step l.node (all_reads l.works);
}
