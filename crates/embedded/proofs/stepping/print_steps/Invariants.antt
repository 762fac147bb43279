use Rattle.std.proofs.Common.{◌≡◌}
use Rattle.tick_model.{specs.Evaluation.table_at, specs.States.state}
use Rattle.embedded.proofs.stepping.print_steps.Given as goal

abbrev pub invariant-loop-step : goal.invariant-loop-step
invariant-loop-step g l = record {
  run : l.stepping.graph.run ≡ l.run;
  step : l.stepping.graph.step ≡ l._step;
  seen : l.stepping.viewport.table ≡ table_at (state l.run l.stepping.graph.step) l.node;
}

abbrev pub ghosts-opened : goal.ghosts-opened
ghosts-opened g a = record { name = a.blank.name; parts = a.blank.parts }

abbrev pub ghosts-advanced : goal.ghosts-advanced
ghosts-advanced g a = record { name = a.blank.name; parts = a.blank.parts }
