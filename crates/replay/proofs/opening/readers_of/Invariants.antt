use Rattle.std.proofs.Common.{◌≡◌, ◌+◌, length, vec_len}
use Rattle.std.specs.List.{All}
use Rattle.snapshot_store.specs.Models.{IsNewCaller}
use Rattle.replay.proofs.KeptInEnd.{IsNewReader}
use Rattle.replay.proofs.opening.readers_of.Given as goal

abbrev pub invariant-loop-caller : goal.invariant-loop-caller
invariant-loop-caller l = record {
  left : All (IsNewCaller l.store) l.callers.items;
  new : All (IsNewReader l.store) l.readers.items;
  count : length l.readers.items + length l.callers.items ≡ length l.fn.callers;
}

abbrev pub decreases-loop-caller : goal.decreases-loop-caller
decreases-loop-caller l = vec_len l.callers
