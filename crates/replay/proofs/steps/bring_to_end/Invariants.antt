use Rattle.std.proofs.Common.{◌≡◌, ◌+◌, ◌++◌, ℕ, List}
use Rattle.std.specs.Io.KnownBytes.{append_known}
use Rattle.replay.{specs.Standing.{IsAt, IsWriterAt}, specs.ToCome.text_from}
use Rattle.replay.proofs.steps.bring_to_end.Given as goal

-- the steps up to this one are published and printed, and the text of those after it is still to come
abbrev pub invariant-loop-step : goal.invariant-loop-step
invariant-loop-step g l =
    (done : List ℕ) × (g.S.Sink.bytes l.out ≡ append_known (g.S.Sink.bytes l.fn.out) done)
    × (done ++ text_from l.run (l._step + 1) ≡ text_from l.run 1)
    × IsAt l.run l._step l.progress
    × (g.S.Sink.failures l.out ≡ g.S.Sink.failures l.fn.out)
    × IsWriterAt l.store l._step l.writer
