use Rattle.std.proofs.Common.{◌≡◌}
use Rattle.snapshot_store.{specs.Answers.AreMoved, specs.Models.IsOf}
use Rattle.snapshot_store.proofs.store.Store.try_snapshot.Given as goal

abbrev pub invariant-loop-tried : goal.invariant-loop-tried
invariant-loop-tried l = record {
  own : IsOf l.self l.caller.table l.caller.run;
  moved : AreMoved l.tried l.initial.caller.looks l.caller.looks;
  refusals : l.caller.refusals ≡ l.initial.caller.refusals;
}
