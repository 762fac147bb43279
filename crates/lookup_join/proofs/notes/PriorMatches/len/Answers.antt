use Rattle.std.proofs.Common.{◌≡◌, ap, sym, ◌∙◌, rules, length}
use Rattle.lookup_join.{specs.Notes.NoteList, proofs.Numbered.length-notes}
use Rattle.lookup_join.proofs.notes.PriorMatches.len.Goals as goal

pub returns : goal.returns
returns c =
    let same : c.len.result ≡ length c.self.inside.before.items = search rules in
    same ∙ sym (length-notes 0 c.self.inside.numbers.members c.self.inside.before.items c.self.invariant.numbers) ∙ ap (λ (noted : NoteList). length noted.notes) c.self.view_is
