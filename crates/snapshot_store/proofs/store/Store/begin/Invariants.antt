use Rattle.std.proofs.Common.{◌≡◌}
use Rattle.snapshot_store.{specs.Models.IsOf, specs.declared.writers.Phase.TheVariants.Idle}
use Rattle.snapshot_store.proofs.store.Store.begin.Given as goal

abbrev pub invariant-loop : goal.invariant-loop
invariant-loop g l = record {
  own : IsOf l.self l.writer.table l.writer.run;
  step : l.writer.step ≡ l.initial.writer.step;
  idle : l.writer.phase ≡ Idle;
}
