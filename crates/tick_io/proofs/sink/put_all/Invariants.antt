use Rattle.std.proofs.Common.{◌≡◌, ◌-◌, ◌≤◌, length, take}
use Rattle.std.specs.Io.KnownBytes.{append_known}
use Rattle.tick_io.proofs.sink.put_all.Given as goal

-- the first bytes are written, so many as are done
abbrev pub invariant-loop-done : goal.invariant-loop-done
invariant-loop-done g l =
    let sink = g.S.Sink in
    record {
      within : l.done ≤ length l.piece;
      written : sink.bytes l.sink ≡ append_known (sink.bytes l.fn.sink) (take l.done l.piece);
      never_falls : sink.failures l.fn.sink ≤ sink.failures l.sink;
      steady : sink.failures l.sink ≡ sink.failures l.fn.sink;
    }

abbrev pub decreases-loop-done : goal.decreases-loop-done
decreases-loop-done g l = length l.piece - l.done
