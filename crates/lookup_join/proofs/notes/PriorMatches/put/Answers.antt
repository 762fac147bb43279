use Rattle.std.proofs.Common.{◌≡◌, ap, ap₂, sym, ◌∙◌, subst, rules, ℕ, List, ◌++◌, ◌∷◌, [], None, Option, length, w64}
use Rattle.std.proofs.lemmas.Int.{to_z-of_z}
use Rattle.lookup_join.{specs.Notes.{IsNumbered, Note, NoteList, notes_of}, proofs.Numbered.{next_absent, next_notes, next_numbered}}
use Rattle.row_groups.specs.Members.{Grouped, Member, member_of, member_under, with_member}
use Rattle.lookup_join.proofs.notes.PriorMatches.put.Goals as goal

pub add-requires-clause-absent : goal.add-requires-clause-absent
add-requires-clause-absent c =
    let count : c.len-number.result ≡ length c.self.inside.before.items = search rules in
    subst (λ (n : ℕ). member_under n c.self.inside.numbers.members ≡ None) (sym count) (next_absent c.self.inside.numbers.members c.self.inside.before.items c.self.invariant)

pub invariant_of-self-in_default : goal.invariant_of-self-in_default
invariant_of-self-in_default c =
    let members = c.self.inside.numbers.members in
    let items = c.self.inside.before.items in
    let count : c.len-number.result ≡ length items = search rules in
    let after : c.add.new.self.members ≡ with_member (member_of (length items) c.args.cells.now c.args.at) members =
    ap (λ (index : Grouped). index.members) c.in_default.ensures.members ∙ ap₂ (λ n at. with_member (member_of n c.args.cells.now at) members) count (to_z-of_z w64 c.args.at c.ranges.at) in
    subst (λ (after : List Member). IsNumbered after c.push.new.self.items) (sym after)
    (subst (λ (before : List (Option ℕ)). IsNumbered (with_member (member_of (length items) c.args.cells.now c.args.at) members) before) (sym c.in_ok-push.ensures.items)
    (next_numbered members items c.self.invariant c.args.cells.now c.args.at c.args.before))

pub returns : goal.returns
returns c =
    let members = c.self.inside.numbers.members in
    let items = c.self.inside.before.items in
    let count : c.len-number.result ≡ length items = search rules in
    let after : c.add.new.self.members ≡ with_member (member_of (length items) c.args.cells.now c.args.at) members =
    ap (λ (index : Grouped). index.members) c.in_default.ensures.members ∙ ap₂ (λ n at. with_member (member_of n c.args.cells.now at) members) count (to_z-of_z w64 c.args.at c.ranges.at) in
    ap₂ (λ width notes. let noted : NoteList = record { width = width; notes = notes } in noted) (ap (λ (index : Grouped). index.width) c.in_default.ensures.members)
    (ap₂ notes_of after c.in_ok-push.ensures.items ∙ next_notes members items c.self.invariant c.args.cells.now c.args.at c.args.before)
    ∙ ap (λ (noted : NoteList). let more : NoteList = record { width = noted.width; notes = noted.notes ++ (let note : Note = record { cells = c.args.cells.now; at = c.args.at; before = c.args.before } in note) ∷ [] } in more) c.self.view_is
