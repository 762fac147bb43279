use Rattle.std.proofs.Common.{◌≡◌, ap, sym, ◌∙◌, subst, rules, ◌<◌, map, length, vec_len, Some}
use Rattle.std.specs.Prelude.{slice_get}
use Rattle.lookup_join.{specs.Notes.{Note, NoteList}, proofs.Numbered.{before-notes, length-notes}, proofs.Walks.get_index}
use Rattle.lookup_join.proofs.notes.PriorMatches.before_at.Goals as goal

pub index-requires : goal.index-requires
index-requires c =
    let within : c.args.number < length c.self.inside.before.items = subst (λ n. c.args.number < n) (length-notes 0 c.self.inside.numbers.members c.self.inside.before.items c.self.invariant.numbers) (subst (λ (noted : NoteList). c.args.number < length noted.notes) (sym c.self.view_is) c.requires) in
    let same : length c.self.inside.before.items ≡ vec_len c.self.inside.before = search rules in
    subst (λ n. c.args.number < n) same within

pub returns : goal.returns
returns c =
    let within : c.args.number < length c.self.inside.before.items = subst (λ n. c.args.number < n) (length-notes 0 c.self.inside.numbers.members c.self.inside.before.items c.self.invariant.numbers) (subst (λ (noted : NoteList). c.args.number < length noted.notes) (sym c.self.view_is) c.requires) in
    ap (λ (noted : NoteList). slice_get (map (λ (note : Note). note.before) noted.notes) c.args.number) (sym c.self.view_is)
    ∙ ap (λ before. slice_get before c.args.number) (before-notes 0 c.self.inside.numbers.members c.self.inside.before.items c.self.invariant.numbers)
    ∙ get_index c.self.inside.before.items c.args.number c.index.result.now within
    ∙ ap Some (sym c.index.ensures)
