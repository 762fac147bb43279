use Rattle.std.proofs.Common.{◌≡◌, ap, sym, ◌∙◌, subst, List, map, option_copied, option_map, ℤ, Some}
use Rattle.slab.specs.Slab.{get}
use Rattle.row_groups.{specs.Members.{AreGrouped, Numbered, group_of, groups_of, name_at}, specs.Slots.member_at, proofs.Groupings.are_grouped, proofs.Named.{is_group, members_with, named}}
use Rattle.row_groups.proofs.numbered.NumberedGroups.group_at.Goals as goal

pub returns-in_err-group-clause-members : goal.returns-in_err-group-clause-members
returns-in_err-group-clause-members c =
    subst (λ (numbered : Numbered). AreGrouped (groups_of numbered)) c.self.view_is (are_grouped c.self.inside.index.width c.self.inside.index.table c.self.inside.index.lists.groups c.self.inside.index.handles c.self.invariant.handled c.self.invariant.kept)

pub returns-clause-members : goal.returns-clause-members
returns-clause-members c =
    subst (λ (numbered : Numbered). AreGrouped (groups_of numbered)) c.self.view_is (are_grouped c.self.inside.index.width c.self.inside.index.table c.self.inside.index.lists.groups c.self.inside.index.handles c.self.invariant.handled c.self.invariant.kept)

pub new-requires-clause-known : goal.new-requires-clause-known
new-requires-clause-known c = (is_group c.self.inside.index c.self.invariant c.args.number c.in_ok-group.group.now (sym c.get.ensures ∙ ap option_copied c.in_ok-group.was)).known

pub new-requires-clause-ranked : goal.new-requires-clause-ranked
new-requires-clause-ranked c = (is_group c.self.inside.index c.self.invariant c.args.number c.in_ok-group.group.now (sym c.get.ensures ∙ ap option_copied c.in_ok-group.was)).ranked

pub returns-clause-group : goal.returns-clause-group
returns-clause-group c =
    let index = c.self.inside.index in
    let group = c.in_ok-group.group.now in
    let there : get index.lists.groups c.args.number ≡ Some group = sym c.get.ensures ∙ ap option_copied c.in_ok-group.was in
    ap Some (
    c.new.ensures
    ∙ ap (λ (cells : List ℤ). map (member_at index.handles index.table cells) group.rows) c.deref.ensures.value
    ∙ members_with index c.self.invariant c.args.number group there
    ∙ ap (λ (numbered : Numbered). group_of group.cells.items numbered.members) c.self.view_is
    )
    ∙ sym (
    ap (option_map (λ (cells : List ℤ). group_of cells c.args.self.now.members)) (ap (λ (numbered : Numbered). name_at c.args.number numbered.names) (sym c.self.view_is) ∙ named index c.self.invariant c.args.number group there)
    )
