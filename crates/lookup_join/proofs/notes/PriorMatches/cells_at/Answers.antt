use Rattle.std.proofs.Common.{ap, sym, ◌∙◌, subst, ◌<◌, map, length}
use Rattle.std.specs.Prelude.{option_map, slice_get}
use Rattle.lookup_join.{specs.Notes.{Note, NoteList}, proofs.Numbered.noted_there}
use Rattle.row_groups.{proofs.Keys.some_of, specs.Members.Member}
use Rattle.lookup_join.proofs.notes.PriorMatches.cells_at.Goals as goal

pub unwrap-requires : goal.unwrap-requires
unwrap-requires c =
    let there = noted_there c.self.inside.numbers.members c.self.inside.before.items c.self.invariant c.args.number (subst (λ (noted : NoteList). c.args.number < length noted.notes) (sym c.self.view_is) c.requires) in
    some_of _ c.cells_of.result there.0.cells (c.cells_of.ensures.cells ∙ ap (option_map (λ (member : Member). member.cells)) there.1.0)

pub returns : goal.returns
returns c =
    let there = noted_there c.self.inside.numbers.members c.self.inside.before.items c.self.invariant c.args.number (subst (λ (noted : NoteList). c.args.number < length noted.notes) (sym c.self.view_is) c.requires) in
    ap (λ (noted : NoteList). slice_get (map (λ (note : Note). note.cells) noted.notes) c.args.number) (sym c.self.view_is)
    ∙ there.1.1.0 ∙ sym (ap (option_map (λ (member : Member). member.cells)) there.1.0) ∙ sym (rw c.unwrap.ensures at c.cells_of.ensures.cells)
