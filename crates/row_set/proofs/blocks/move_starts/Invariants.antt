use Rattle.std.proofs.Common.{◌≡◌, ◌+◌}
use Rattle.row_set.{specs.Runs.start_of, proofs.Starts.AreWritten}
use Rattle.row_set.proofs.blocks.move_starts.Given as goal

abbrev pub invariant-loop-block : goal.invariant-loop-block
invariant-loop-block l = AreWritten (λ block start. start + l.gone ≡ start_of l.fn.starts block + l.came) l.fn.starts l.starts l.last l.block
