use Rattle.std.proofs.Common.{◌≡◌, length, map, take, vec_len, Bor}
use Rattle.std.{specs.List.AllByRecursion, specs.Prelude.sum_by}
use Rattle.tick_model.specs.Sources.{unchanged}
use Rattle.tick_table.specs.Ticking.{Ticking}
use Rattle.source_changes.{specs.declared.taking.TakenBlocks.TakenBlocks, specs.Reads.step_reads, specs.Stepping.ticked, specs.Taking.{IsTaking, taking}}
use Rattle.source_changes.proofs.changes.unchanged_steps.Given as goal

abbrev pub invariant-loop-keys : goal.invariant-loop-keys
invariant-loop-keys l = record {
  all_taking : AllByRecursion IsTaking l.steps.items;
  ticks : map (λ (step : TakenBlocks). ticked (taking step)) l.steps.items ≡ map (λ (table : Bor Ticking). unchanged table.now.new) (take (length l.yielded) l.tables);
  reads : sum_by (λ (step : TakenBlocks). step_reads (taking step)) l.steps.items ≡ 0;
  count : vec_len l.steps ≡ length l.yielded;
}
