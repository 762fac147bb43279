use Rattle.std.proofs.Common.{ap, sym, ◌∙◌, subst, refl, option_map, List, ℤ}
use Rattle.row_groups.{specs.declared.table.GroupMember.GroupMember, specs.Members.{AreGrouped, Member, Numbered, group_of, groups_of, member_under, name_at}, specs.Kept.kept_in, specs.Rows.{IsKept, cells_in, cells_with}, proofs.Keys.under_has, proofs.Groupings.{are_grouped, under_same}, proofs.Indexed.some_cells, proofs.Named.name_is}
use Rattle.row_groups.proofs.numbered.NumberedGroups.group_of.Goals as goal

pub returns-in_err-handle-clause-group : goal.returns-in_err-handle-clause-group
returns-in_err-handle-clause-group c =
    let index = c.self.inside.index in
    let group = λ (cells : List ℤ). group_of cells c.args.self.now.members in
    rw c.from_residual.ensures
    (sym (
    ap (λ (numbered : Numbered). option_map (λ (member : Member). group member.cells) (member_under c.args.key numbered.members)) (sym c.self.view_is)
    ∙ under_same (λ member. group member.cells) (λ handle. group (cells_in index.table index.lists.groups handle)) c.args.key index.table index.lists.groups index.handles (λ x. refl)
    ∙ ap (option_map (λ handle. group (cells_in index.table index.lists.groups handle))) (sym c.handle_of.ensures.handle ∙ c.in_err-handle.was)
    ))

pub returns-in_err-handle-clause-members : goal.returns-in_err-handle-clause-members
returns-in_err-handle-clause-members c =
    subst (λ (numbered : Numbered). AreGrouped (groups_of numbered)) c.self.view_is (are_grouped c.self.inside.index.width c.self.inside.index.table c.self.inside.index.lists.groups c.self.inside.index.handles c.self.invariant.handled c.self.invariant.kept)

pub get-requires : goal.get-requires
get-requires c =
    let index = c.self.inside.index in
    (under_has (λ x. IsKept index.width index.table index.lists.groups x.handle) c.args.key c.in_ok-handle.handle index.handles c.self.invariant.kept (sym c.handle_of.ensures.handle ∙ c.in_ok-handle.was)).within

pub returns-clause-group : goal.returns-clause-group
returns-clause-group c =
    let index = c.self.inside.index in
    let groups = index.lists.groups in
    let handle = c.in_ok-handle.handle in
    let here = sym c.handle_of.ensures.handle ∙ c.in_ok-handle.was in
    let kept = under_has (λ x. IsKept index.width index.table groups x.handle) c.args.key handle index.handles c.self.invariant.kept here in
    let group = λ (cells : List ℤ). group_of cells c.args.self.now.members in
    c.group_at.ensures.group
    ∙ ap (option_map group)
    (ap (λ (numbered : Numbered). name_at c.get.result.number numbered.names) (sym c.self.view_is)
    ∙ name_is c.get.result.number groups
    ∙ ap (λ (kept : GroupMember). cells_with kept.number groups) c.get.ensures
    ∙ some_cells (cells_with (kept_in index.table handle).number groups) kept.there)
    ∙ sym (
    ap (λ (numbered : Numbered). option_map (λ (member : Member). group member.cells) (member_under c.args.key numbered.members)) (sym c.self.view_is)
    ∙ under_same (λ member. group member.cells) (λ handle. group (cells_in index.table groups handle)) c.args.key index.table groups index.handles (λ x. refl)
    ∙ ap (option_map (λ handle. group (cells_in index.table groups handle))) here
    )
