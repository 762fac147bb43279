use Rattle.std.proofs.Common.{◌≡◌}
use Rattle.row_set.specs.Sets.{common}
use Rattle.shown_rows.proofs.keys.keys_among.Given as goal

abbrev pub invariant-loop-key : goal.invariant-loop-key
invariant-loop-key l = l.found ≡ common l.yielded l.others
