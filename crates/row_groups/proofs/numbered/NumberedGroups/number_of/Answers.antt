use Rattle.std.proofs.Common.{ap, sym, ◌∙◌, subst, ℕ, Option, IsSome}
use Rattle.row_groups.{specs.declared.table.GroupMember.GroupMember, specs.Members.{IsNumberUnder, Numbered, member_under}, specs.Rows.IsKept, specs.Indexes.numbered_of, proofs.Keys.under_has, proofs.Groupings.there_under, proofs.Named.number_kept}
use Rattle.row_groups.proofs.numbered.NumberedGroups.number_of.Goals as goal

pub unwrap-handle-requires : goal.unwrap-handle-requires
unwrap-handle-requires c =
    let index = c.self.inside.index in
    subst (λ (handle : Option ℕ). IsSome handle) (sym c.handle_of.ensures.handle)
    (there_under c.args.key index.table index.lists.groups index.handles (subst (λ (numbered : Numbered). IsSome (member_under c.args.key numbered.members)) (sym c.self.view_is) c.requires))

pub get-requires : goal.get-requires
get-requires c =
    let index = c.self.inside.index in
    (under_has (λ x. IsKept index.width index.table index.lists.groups x.handle) c.args.key c.unwrap-handle.result index.handles c.self.invariant.kept (sym c.handle_of.ensures.handle ∙ c.unwrap-handle.ensures)).within

pub returns : goal.returns
returns c =
    subst (λ (numbered : Numbered). IsNumberUnder numbered c.args.key c.get.result.number) c.self.view_is
    (subst (IsNumberUnder (numbered_of c.self.inside.index) c.args.key) (sym (ap (λ (kept : GroupMember). kept.number) c.get.ensures))
    (number_kept c.self.inside.index c.self.invariant c.args.key c.unwrap-handle.result (sym c.handle_of.ensures.handle ∙ c.unwrap-handle.ensures)))
