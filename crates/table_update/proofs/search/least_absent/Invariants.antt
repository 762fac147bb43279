use Rattle.std.proofs.Common.{◌≡◌, drop}
use Rattle.std.specs.Prelude.{find, not}
use Rattle.key_lists.specs.Keys.{is_among}
use Rattle.row_set.specs.Ranges.{keys_of}
use Rattle.table_update.proofs.search.least_absent.Given as goal

abbrev pub invariant-loop-range : goal.invariant-loop-range
invariant-loop-range l =
    find (λ key. not (is_among key l.others)) l.keys ≡ find (λ key. not (is_among key l.others)) (keys_of (drop l.range-index l.range-items))
