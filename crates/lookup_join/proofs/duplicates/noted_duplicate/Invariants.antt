use Rattle.std.proofs.Common.{◌≡◌, None, map, take}
use Rattle.lookup_join.{specs.Duplicates.least_fault, specs.Notes.Note}
use Rattle.lookup_join.proofs.duplicates.noted_duplicate.Given as goal

abbrev pub invariant-loop-number : goal.invariant-loop-number
invariant-loop-number l = l.least ≡ least_fault l.left.members l.right.members None (take l.number (map (λ (note : Note). note.cells) l.notes.notes))
