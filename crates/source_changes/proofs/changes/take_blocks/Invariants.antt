use Rattle.std.proofs.Common.{◌≡◌, ◌+◌, ◌≤◌, drop, map}
use Rattle.std.{specs.Prelude.sum_by, specs.List.AllByRecursion}
use Rattle.tick_model.{specs.LawfulRuns.sources_of, specs.Sources.{after_blocks, blocks_fault}}
use Rattle.source_changes.{specs.declared.taking.TakenBlocks.TakenBlocks, specs.Reads.{block_reads, step_reads}, specs.Stepping.ticked, specs.Taking.{IsTaking, taking}, proofs.Walked.AreSources}
use Rattle.source_changes.proofs.changes.take_blocks.Given as goal

abbrev pub invariant-loop-block : goal.invariant-loop-block
invariant-loop-block l = record {
  all_taking : AllByRecursion IsTaking l.steps;
  sources : AreSources (sources_of l.plan.nodes) (map taking l.steps);
  ticks : after_blocks l.plan (map ticked (map taking l.steps)) (drop l.block-index l.blocks) ≡ after_blocks l.plan (map (λ (step : TakenBlocks). ticked (taking step)) l.fn.steps) l.blocks;
  faults : blocks_fault l.plan (map ticked (map taking l.steps)) (drop l.block-index l.blocks) ≡ blocks_fault l.plan (map (λ (step : TakenBlocks). ticked (taking step)) l.fn.steps) l.blocks;
  reads : sum_by (λ (step : TakenBlocks). step_reads (taking step)) l.steps + sum_by (block_reads l.plan) (drop l.block-index l.blocks) ≤ sum_by (λ (step : TakenBlocks). step_reads (taking step)) l.fn.steps + sum_by (block_reads l.plan) l.blocks;
}
