use Rattle.std.proofs.Common.{◌≡◌, ◌++◌, ℕ, List, drop}
use Rattle.std.specs.Io.KnownBytes.{append_known}
use Rattle.replay.proofs.CallTexts.{calls_text}
use Rattle.replay.proofs.snapshots.write_caller.Given as goal

-- the snapshots before this one are written, and those from it on are still to come
abbrev pub invariant-loop-call : goal.invariant-loop-call
invariant-loop-call g l =
    (done : List ℕ) × (g.S.Sink.bytes l.out ≡ append_known (g.S.Sink.bytes l.initial.out) done)
    × (done ++ calls_text l.run l.caller l.call (drop l.call l.kept) ≡ calls_text l.run l.caller 0 l.kept)
    × (g.S.Sink.failures l.out ≡ g.S.Sink.failures l.initial.out)
