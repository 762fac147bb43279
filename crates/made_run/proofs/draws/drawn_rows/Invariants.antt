use Rattle.std.proofs.Common.{◌≡◌, ◌+◌, ◌*◌, map}
use Rattle.std.specs.List.{range_with_len}
use Rattle.made_run.specs.Draws.{after, drawn_row as row_of}
use Rattle.made_run.proofs.draws.drawn_rows.Given as goal

abbrev pub invariant-loop-i : goal.invariant-loop-i
invariant-loop-i l = record {
  rows : l.rows ≡ map (λ k. row_of (l.first + k) (after (4 * k) l.initial.draws.state)) (range_with_len 0 l.i);
  state : l.draws.state ≡ after (4 * l.i) l.initial.draws.state;
}
