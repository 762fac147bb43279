use Rattle.std.proofs.Common.{◌≡◌, map}
use Rattle.std.specs.List.{range_with_len}
use Rattle.made_run.{specs.Draws.after, specs.Steps.{batch_after, draws_after, rows_after}}
use Rattle.made_run.proofs.steps.batches.Given as goal

abbrev pub invariant-loop-before : goal.invariant-loop-before
invariant-loop-before l = record {
  batches : l.batches.items ≡ map batch_after (range_with_len 0 l.before);
  rows : l.rows ≡ rows_after l.before;
  state : l.draws.state ≡ after (draws_after l.before) 1;
}
