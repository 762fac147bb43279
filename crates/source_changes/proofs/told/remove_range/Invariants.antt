use Rattle.std.proofs.Common.{◌≡◌, not, filter, length}
use Rattle.row_set.specs.Ranges.{holds}
use Rattle.source_changes.proofs.told.remove_range.Given as goal

abbrev pub invariant-loop-key : goal.invariant-loop-key
invariant-loop-key l = filter (λ entry. not (holds entry.0 l.range)) l.rows.entries ≡ filter (λ entry. not (holds entry.0 l.range)) l.fn.rows.entries

abbrev pub decreases-loop-key : goal.decreases-loop-key
decreases-loop-key l = length l.rows.entries
