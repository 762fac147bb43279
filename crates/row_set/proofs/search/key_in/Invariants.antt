use Rattle.std.proofs.Common.{◌≡◌, ◌+◌}
use Rattle.row_set.specs.Ranges.{keys_before}
use Rattle.row_set.proofs.search.key_in.Given as goal

abbrev pub invariant-loop-range : goal.invariant-loop-range
invariant-loop-range l = keys_before l.range-index l.ranges + l.offset ≡ l.position
