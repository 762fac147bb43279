use Rattle.std.proofs.Common.{◌≡◌, ◌≤◌, length, drop, filter}
use Rattle.tick_model.{specs.Evaluation.is_source, specs.Fits.are_source_tables}
use Rattle.tick_model.proofs.plan.Plan.fits.Given as goal

abbrev pub invariant-loop-node : goal.invariant-loop-node
invariant-loop-node l =
    (l.next ≤ length l.tables) × (are_source_tables (filter is_source (drop l.node-index l.node-items)) (drop l.next l.tables) ≡ are_source_tables (filter is_source l.node-items) l.tables)
