use Rattle.std.proofs.Common.{◌≡◌, ◌+◌, ◌≤◌, map}
use Rattle.std.specs.Prelude.{sum_by}
use Rattle.tick_model.{specs.Changes.change_of, specs.Tables.keys}
use Rattle.source_changes.{specs.declared.taking.TakenBlocks.TakenBlocks, specs.Reads.step_reads, specs.Stepping.ticked, specs.Taking.taking}
use Rattle.source_changes.proofs.changes.close_steps.Given as goal

abbrev pub invariant-loop-step : goal.invariant-loop-step
invariant-loop-step g l = record {
  changes : l.changes.items ≡ map (λ (step : TakenBlocks). change_of (ticked (taking step))) l.yielded;
  sets : l.sets.items ≡ map (λ (step : TakenBlocks). keys (ticked (taking step)).new.rows) l.yielded;
  reads : l.reads ≤ l.fn.reads + sum_by (λ (step : TakenBlocks). step_reads (taking step)) l.yielded;
}
