use Rattle.std.proofs.Common.{◌≡◌, map}
use Rattle.replay.specs.declared.readers.Reader.{Reader}
use Rattle.replay.proofs.last_calls.parted.Given as goal

abbrev pub invariant-loop-reader : goal.invariant-loop-reader
invariant-loop-reader l = record {
  callers : l.callers ≡ map (λ (reader : Reader). reader.caller) l.yielded;
  kept : l.kept ≡ map (λ (reader : Reader). reader.kept) l.yielded;
}
