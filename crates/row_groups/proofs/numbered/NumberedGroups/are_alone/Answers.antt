use Rattle.std.proofs.Common.{◌≡◌, ap, sym, ◌∙◌, subst, false, length, ◌≤◌, ℕ, rules}
use Rattle.std.proofs.lemmas.List.{length-map}
use Rattle.row_groups.{specs.Members.{Numbered, group_of}, specs.Rows.slots_under, specs.Slots.member_at, proofs.Groupings.listed_members}
use Rattle.row_groups.proofs.numbered.NumberedGroups.are_alone.Goals as goal

pub returns : goal.returns
returns c = λ alone cells.
    let index = c.self.inside.index in
    let calm : index.lists.crowded ≡ false = search rules in
    subst (λ (n : ℕ). n ≤ 1)
    (sym (length-map (slots_under cells index.lists) (member_at index.handles index.table cells))
    ∙ ap length (listed_members index.table index.lists.groups index.handles index.lists cells c.self.invariant.listed c.self.invariant.handled)
    ∙ ap (λ (numbered : Numbered). length (group_of cells numbered.members)) c.self.view_is)
    (c.self.invariant.numbered.alone calm cells)
