use Rattle.std.proofs.Common.{◌≡◌, ◌++◌, None, map}
use Rattle.lookup_join.{specs.Duplicates.{cells_under, least_fault}, specs.Notes.Note}
use Rattle.lookup_join.proofs.duplicates.first_duplicate.Given as goal

abbrev pub invariant-loop-key : goal.invariant-loop-key
invariant-loop-key l = l.least ≡ least_fault l.left.members l.right.members None (map (λ (note : Note). note.cells) l.notes.notes ++ map (cells_under l.left.members) l.yielded)
