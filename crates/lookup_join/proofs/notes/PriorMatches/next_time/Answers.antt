use Rattle.std.proofs.Common.{ap, sym, ◌∙◌, w64}
use Rattle.std.proofs.lemmas.Int.{to_z-of_z}
use Rattle.lookup_join.{specs.Latest.next_time, specs.Notes.{NoteList, next_after}, proofs.Numbered.next_noted}
use Rattle.lookup_join.proofs.notes.PriorMatches.next_time.Goals as goal

pub returns : goal.returns
returns c =
    c.next_time.ensures
    ∙ ap (λ at. next_time c.args.cells.now at c.self.inside.numbers.members) (to_z-of_z w64 c.args.at c.ranges.at)
    ∙ sym (next_noted c.self.inside.numbers.members c.self.inside.before.items c.self.invariant c.args.cells.now c.args.at)
    ∙ ap (λ (noted : NoteList). next_after c.args.cells.now c.args.at noted.notes) c.self.view_is
