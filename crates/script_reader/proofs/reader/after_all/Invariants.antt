use Rattle.std.proofs.Common.{◌≡◌, ◌+◌, ◌≤◌, length}
use Rattle.script_lines.specs.Lines.{lines_of}
use Rattle.script_reader.{specs.Scripts.{after_lines, nothing}, specs.SoFar.so_far, proofs.Fold.{lines_left, bytes_left}}
use Rattle.script_reader.proofs.reader.after_all.Given as goal

abbrev pub invariant-loop-rest : goal.invariant-loop-rest
invariant-loop-rest l =
    (after_lines l.number (so_far l.known) (lines_left l.rest) ≡ after_lines 1 nothing (lines_of l.bytes)) × (l.number + bytes_left l.rest ≤ length l.bytes + 2)

abbrev pub decreases-loop-rest : goal.decreases-loop-rest
decreases-loop-rest l = bytes_left l.rest
