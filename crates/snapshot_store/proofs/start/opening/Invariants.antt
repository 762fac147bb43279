use Rattle.std.proofs.Common.{◌≡◌, vec_capacity}
use Rattle.snapshot_store.specs.Opening.{IsLaying}
use Rattle.snapshot_store.proofs.start.opening.Given as goal

abbrev pub invariant-loop-p : goal.invariant-loop-p
invariant-loop-p l = record {
  laying : IsLaying l.run l.words.items l.p;
  room : vec_capacity l.buffer ≡ vec_capacity l.fn.buffer;
}
