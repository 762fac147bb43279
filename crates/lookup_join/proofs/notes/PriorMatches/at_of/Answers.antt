use Rattle.std.proofs.Common.{ap, sym, ◌∙◌, subst, ◌<◌, map, length, rules, w64, SFits}
use Rattle.std.{specs.Prelude.{Some, option_map, slice_get}, proofs.lemmas.Int.to_z-of_z}
use Rattle.lookup_join.{specs.Notes.{Note, NoteList}, proofs.Numbered.noted_there, proofs.Walks.some_is_there}
use Rattle.row_groups.specs.Members.{Member}
use Rattle.lookup_join.proofs.notes.PriorMatches.at_of.Goals as goal

pub unwrap-requires : goal.unwrap-requires
unwrap-requires c =
    let there = noted_there c.self.inside.numbers.members c.self.inside.before.items c.self.invariant c.args.number (subst (λ (noted : NoteList). c.args.number < length noted.notes) (sym c.self.view_is) c.requires) in
    some_is_there c.at_of.result there.0.at (c.at_of.ensures.at ∙ ap (option_map (λ (member : Member). member.at)) there.1.0)

pub returns : goal.returns
returns c =
    let fits : SFits w64 c.unwrap.result = search rules in
    let there = noted_there c.self.inside.numbers.members c.self.inside.before.items c.self.invariant c.args.number (subst (λ (noted : NoteList). c.args.number < length noted.notes) (sym c.self.view_is) c.requires) in
    ap (λ (noted : NoteList). slice_get (map (λ (note : Note). note.at) noted.notes) c.args.number) (sym c.self.view_is)
    ∙ there.1.1.1 ∙ sym (ap (option_map (λ (member : Member). member.at)) there.1.0) ∙ sym c.at_of.ensures.at ∙ c.unwrap.ensures ∙ ap Some (sym (to_z-of_z w64 c.unwrap.result fits))
