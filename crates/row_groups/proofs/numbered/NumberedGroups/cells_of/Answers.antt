use Rattle.std.proofs.Common.{ap, sym, ◌∙◌, subst, refl, option_map, unwrap_or, List, [], ℤ, Option, Some, IsSome}
use Rattle.row_groups.{specs.declared.table.GroupMember.GroupMember, specs.Members.{AreGrouped, Numbered, groups_of, member_under}, specs.Rows.{IsKept, cells_in, cells_with}, proofs.Keys.under_has, proofs.Groupings.{are_grouped, under_same}}
use Rattle.row_groups.proofs.numbered.NumberedGroups.cells_of.Goals as goal

pub returns-in_err-handle-clause-cells : goal.returns-in_err-handle-clause-cells
returns-in_err-handle-clause-cells c =
    let index = c.self.inside.index in
    rw c.from_residual.ensures
    (sym (
    ap (λ (numbered : Numbered). option_map (λ member. member.cells) (member_under c.args.key numbered.members)) (sym c.self.view_is)
    ∙ under_same (λ member. member.cells) (cells_in index.table index.lists.groups) c.args.key index.table index.lists.groups index.handles (λ x. refl)
    ∙ ap (option_map (cells_in index.table index.lists.groups)) (sym c.handle_of.ensures.handle ∙ c.in_err-handle.was)
    ))

pub returns-in_err-handle-clause-members : goal.returns-in_err-handle-clause-members
returns-in_err-handle-clause-members c =
    subst (λ (numbered : Numbered). AreGrouped (groups_of numbered)) c.self.view_is (are_grouped c.self.inside.index.width c.self.inside.index.table c.self.inside.index.lists.groups c.self.inside.index.handles c.self.invariant.handled c.self.invariant.kept)

pub get-kept-requires : goal.get-kept-requires
get-kept-requires c =
    let index = c.self.inside.index in
    (under_has (λ x. IsKept index.width index.table index.lists.groups x.handle) c.args.key c.in_ok-handle.handle index.handles c.self.invariant.kept (sym c.handle_of.ensures.handle ∙ c.in_ok-handle.was)).within

pub cells_of-requires : goal.cells_of-requires
cells_of-requires c =
    let index = c.self.inside.index in
    subst (λ (kept : GroupMember). IsSome (cells_with kept.number index.lists.groups)) (sym c.get-kept.ensures)
    (under_has (λ x. IsKept index.width index.table index.lists.groups x.handle) c.args.key c.in_ok-handle.handle index.handles c.self.invariant.kept (sym c.handle_of.ensures.handle ∙ c.in_ok-handle.was)).there

pub returns-clause-cells : goal.returns-clause-cells
returns-clause-cells c =
    let index = c.self.inside.index in
    ap (λ (cells : Option (List ℤ)). Some (unwrap_or cells [])) (c.cells_of.ensures ∙ ap (λ (kept : GroupMember). cells_with kept.number index.lists.groups) c.get-kept.ensures)
    ∙ sym (
    ap (λ (numbered : Numbered). option_map (λ member. member.cells) (member_under c.args.key numbered.members)) (sym c.self.view_is)
    ∙ under_same (λ member. member.cells) (cells_in index.table index.lists.groups) c.args.key index.table index.lists.groups index.handles (λ x. refl)
    ∙ ap (option_map (cells_in index.table index.lists.groups)) (sym c.handle_of.ensures.handle ∙ c.in_ok-handle.was)
    )

pub returns-clause-members : goal.returns-clause-members
returns-clause-members c =
    subst (λ (numbered : Numbered). AreGrouped (groups_of numbered)) c.self.view_is (are_grouped c.self.inside.index.width c.self.inside.index.table c.self.inside.index.lists.groups c.self.inside.index.handles c.self.invariant.handled c.self.invariant.kept)
