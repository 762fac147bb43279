use Rattle.std.proofs.Common.{ap, sym, ◌∙◌, subst, refl, option_map, rules, Some, w64}
use Rattle.std.proofs.lemmas.Int.{to_z-of_z}
use Rattle.row_groups.{specs.Members.{AreGrouped, Numbered, groups_of, member_under}, specs.Kept.at_in, specs.Rows.IsKept, proofs.Keys.under_has, proofs.Groupings.{are_grouped, under_same}}
use Rattle.row_groups.proofs.numbered.NumberedGroups.at_of.Goals as goal

pub returns-in_err-handle-clause-at : goal.returns-in_err-handle-clause-at
returns-in_err-handle-clause-at c =
    let index = c.self.inside.index in
    rw c.from_residual.ensures
    (sym (
    ap (λ (numbered : Numbered). option_map (λ member. member.at) (member_under c.args.key numbered.members)) (sym c.self.view_is)
    ∙ under_same (λ member. member.at) (at_in index.table) c.args.key index.table index.lists.groups index.handles (λ x. refl)
    ∙ ap (option_map (at_in index.table)) (sym c.handle_of.ensures.handle ∙ c.in_err-handle.was)
    ))

pub returns-in_err-handle-clause-members : goal.returns-in_err-handle-clause-members
returns-in_err-handle-clause-members c =
    subst (λ (numbered : Numbered). AreGrouped (groups_of numbered)) c.self.view_is (are_grouped c.self.inside.index.width c.self.inside.index.table c.self.inside.index.lists.groups c.self.inside.index.handles c.self.invariant.handled c.self.invariant.kept)

pub get-requires : goal.get-requires
get-requires c =
    let index = c.self.inside.index in
    (under_has (λ x. IsKept index.width index.table index.lists.groups x.handle) c.args.key c.in_ok-handle.handle index.handles c.self.invariant.kept (sym c.handle_of.ensures.handle ∙ c.in_ok-handle.was)).within

pub returns-clause-at : goal.returns-clause-at
returns-clause-at c =
    let index = c.self.inside.index in
    ap Some (to_z-of_z w64 c.get.result.at (search rules) ∙ ap (λ kept. kept.at) c.get.ensures)
    ∙ sym (
    ap (λ (numbered : Numbered). option_map (λ member. member.at) (member_under c.args.key numbered.members)) (sym c.self.view_is)
    ∙ under_same (λ member. member.at) (at_in index.table) c.args.key index.table index.lists.groups index.handles (λ x. refl)
    ∙ ap (option_map (at_in index.table)) (sym c.handle_of.ensures.handle ∙ c.in_ok-handle.was)
    )

pub returns-clause-members : goal.returns-clause-members
returns-clause-members c =
    subst (λ (numbered : Numbered). AreGrouped (groups_of numbered)) c.self.view_is (are_grouped c.self.inside.index.width c.self.inside.index.table c.self.inside.index.lists.groups c.self.inside.index.handles c.self.invariant.handled c.self.invariant.kept)
