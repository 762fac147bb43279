use Rattle.std.proofs.Common.{◌≡◌, ◌++◌, ℕ, List, drop}
use Rattle.std.specs.Io.KnownBytes.{append_known}
use Rattle.replay.proofs.CallTexts.{callers_text}
use Rattle.replay.proofs.snapshots.write_callers.Given as goal

-- what the callers before this one have kept is written, and that of those from it on is still to come
abbrev pub invariant-loop-caller : goal.invariant-loop-caller
invariant-loop-caller g l =
    (done : List ℕ) × (g.S.Sink.bytes l.out ≡ append_known (g.S.Sink.bytes l.initial.out) done)
    × (done ++ callers_text l.run l.caller (drop l.caller l.all) ≡ callers_text l.run 0 l.all)
    × (g.S.Sink.failures l.out ≡ g.S.Sink.failures l.initial.out)
