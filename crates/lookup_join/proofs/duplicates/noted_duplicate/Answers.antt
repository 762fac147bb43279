use Rattle.std.proofs.Common.{ap₂, sym, ◌∙◌, None, map, Option}
use Rattle.lookup_join.{specs.declared.duplicates.Duplicate.Duplicate, specs.Duplicates.{earlier, faulty_group}, specs.Notes.Note, proofs.Walks.fold_next}
use Rattle.lookup_join.proofs.duplicates.noted_duplicate.Goals as goal

pub loop-number-preserved : goal.loop-number-preserved
loop-number-preserved c =
    c.earlier_of-least.ensures ∙ ap₂ earlier c.loop-number.invariant c.duplicate_in-found.ensures
    ∙ sym (fold_next (λ (found : Option Duplicate) cells. earlier found (faulty_group c.args.left.now.members c.args.right.now.members cells)) None (map (λ (note : Note). note.cells) c.args.notes.now.notes) c.loop-number.number c.cells_at.result.now c.cells_at.ensures)
