use Rattle.std.proofs.Common.{◌≡◌, ◌^◌, ap, ap₂, sym, ◌∙◌, map, count_by, int_le, rules, true, w64}
use Rattle.std.proofs.lemmas.Int.{to_z-of_z}
use Rattle.row_groups.{specs.Kept.at_in, specs.Slots.member_at, proofs.Groupings.{all_at_most, counted_at_most, ranked_parted}}
use Rattle.row_groups.proofs.group.Group.count_at_most.Goals as goal

pub count_before-requires-clause-parted : goal.count_before-requires-clause-parted
count_before-requires-clause-parted c = ranked_parted c.self.inside.handles.now c.self.inside.table.now _ (2 ^ 62) c.self.inside.rows.now c.self.invariant.ranked

pub returns : goal.returns
returns c =
    let group = c.self.inside in
    let count = c.count_before in
    counted_at_most group.handles.now group.table.now group.cells.now _ group.rows.now count.result c.self.invariant.handled count.ensures.within count.ensures.before count.ensures.others
    ∙ ap (λ at. count_by (λ member. int_le member.at at) (map (member_at group.handles.now group.table.now group.cells.now) group.rows.now)) (to_z-of_z w64 c.args.at c.ranges.at)
    ∙ ap (count_by (λ member. int_le member.at c.args.at)) c.self.view_is

pub returns-then-at : goal.returns-then-at
returns-then-at c =
    let group = c.self.inside in
    let read = sym (to_z-of_z w64 c.at.result (search rules) ∙ c.at.ensures) in
    let le : int_le (at_in group.table.now c.in-Some.last.handle) c.args.at ≡ true = ap₂ int_le (read) (sym (to_z-of_z w64 c.args.at c.ranges.at)) ∙ c.if-at.true in
    c.len.ensures
    ∙ all_at_most group.handles.now group.table.now group.cells.now c.args.at group.rows.now c.in-Some.last c.self.invariant.handled c.self.invariant.ranked (sym c.last.ensures ∙ c.in-Some.is) le
    ∙ ap (count_by (λ member. int_le member.at c.args.at)) c.self.view_is
