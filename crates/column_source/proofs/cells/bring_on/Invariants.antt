use Rattle.std.proofs.Common.{◌≡◌, length}
use Rattle.column_source.specs.Edits.{AreAllowed, edited_by}
use Rattle.column_source.proofs.cells.bring_on.Given as goal

abbrev pub invariant-loop-edit : goal.invariant-loop-edit
invariant-loop-edit l = record {
  led : edited_by l.edits.items l.previous ≡ edited_by l.fn.edits.items l.fn.previous;
  allowed : AreAllowed l.edits.items l.previous;
}

abbrev pub decreases-loop-edit : goal.decreases-loop-edit
decreases-loop-edit l = length l.edits.items
