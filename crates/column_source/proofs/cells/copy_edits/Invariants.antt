use Rattle.std.proofs.Common.{◌≡◌, ◌-◌, length, take}
use Rattle.column_source.proofs.cells.copy_edits.Given as goal

abbrev pub invariant-loop-edit : goal.invariant-loop-edit
invariant-loop-edit l = l.copies.items ≡ take (length l.copies.items) l.edits.items

abbrev pub decreases-loop-edit : goal.decreases-loop-edit
decreases-loop-edit l = length l.edits.items - length l.copies.items
