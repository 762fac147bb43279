use Rattle.std.proofs.Common.{◌≡◌}
use Rattle.snapshot_store.{specs.Models.IsOf, specs.declared.writers.Phase.TheVariants.Begun}
use Rattle.tick_model.specs.States.{state}
use Rattle.replay.proofs.PastLimits.{fault_from}
use Rattle.replay.proofs.limits.put_tables.Given as goal

-- the tables before this one are put, and none is past its limit
abbrev pub invariant-loop-number : goal.invariant-loop-number
invariant-loop-number l = record {
  own : IsOf l.store l.writer.table l.writer.run;
  step : l.writer.step ≡ l.initial.writer.step;
  put : l.writer.phase ≡ Begun l.number;
  none : fault_from (state l.graph.run l.graph.step) l.published 0 ≡ fault_from (state l.graph.run l.graph.step) l.published l.number;
}
