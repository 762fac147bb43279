use Rattle.replay.specs.Snapshots.{IsReader}
use Rattle.replay.proofs.readers.Reader.take_all.Given as goal

abbrev pub invariant-loop-call : goal.invariant-loop-call
invariant-loop-call g l = IsReader l.store l.attempts l.number l.call l.self
