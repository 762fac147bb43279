use Rattle.std.proofs.Common.{◌≡◌, not, filter, take}
use Rattle.key_lists.specs.Keys.{is_among}
use Rattle.row_set.specs.Ranges.{keys_of}
use Rattle.source_changes.proofs.told.remove_ranges.Given as goal

abbrev pub invariant-loop-range : goal.invariant-loop-range
invariant-loop-range l = l.rows.entries ≡ filter (λ entry. not (is_among entry.0 (keys_of (take l.range-index l.ranges)))) l.fn.rows.entries
