use Rattle.std.proofs.Common.{sym, ◌∙◌}
use Rattle.lookup_join.proofs.Walks.{width_under}
use Rattle.lookup_join.proofs.notes.PriorMatches.note_old.Goals as goal

pub note-requires-clause-width : goal.note-requires-clause-width
note-requires-clause-width c = width_under c.args.right.now.width c.args.key c.args.right.now.members c.unwrap-cells.result.now c.cells_of.ensures.members.cells (rw c.unwrap-cells.ensures at c.cells_of.ensures.cells) ∙ sym c.requires.width
