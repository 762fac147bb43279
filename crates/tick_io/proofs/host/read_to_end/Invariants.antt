use Rattle.std.proofs.Common.{◌≡◌, ◌+◌, ◌-◌, ◌≤◌, length, vec_len}
use Rattle.std.specs.Io.KnownBytes.{Consumes}
use Rattle.tick_io.proofs.host.read_to_end.Given as goal

-- what is loaded is what was taken from the reader
abbrev pub invariant-loop-chunk : goal.invariant-loop-chunk
invariant-loop-chunk g l =
    let remaining = g.F.Read.remaining in
    record {
      length_kept : length l.chunk ≡ 65536;
      within : vec_len l.loaded ≤ l.most + 1;
      taken : Consumes (remaining l.fn.reader) (remaining l.reader) l.loaded.items;
    }

abbrev pub decreases-loop-chunk : goal.decreases-loop-chunk
decreases-loop-chunk g l = l.most + 1 - vec_len l.loaded
