use Rattle.snapshot_store.{specs.Answers.AreMoved, specs.Models.IsOf}
use Rattle.snapshot_store.proofs.store.Store.snapshot.Given as goal

abbrev pub invariant-loop : goal.invariant-loop
invariant-loop g l = record {
  own : IsOf l.self l.caller.table l.caller.run;
  moved : AreMoved l.attempts l.fn.caller.looks l.caller.looks;
}
