use Rattle.std.proofs.Common.{◌≡◌, ap, ap₂, sym, ◌∙◌, map, count_by, int_le, int_lt, arith, rules, true, false, ℤ, w64}
use Rattle.std.proofs.lemmas.Int.{ints, to_z-of_z}
use Rattle.row_groups.{specs.Kept.at_in, specs.Slots.member_at, proofs.Groupings.{counted_below, none_below, ranked_parted}}
use Rattle.row_groups.proofs.group.Group.count_below.Goals as goal

pub count_before-requires-clause-parted : goal.count_before-requires-clause-parted
count_before-requires-clause-parted c = ranked_parted c.self.inside.handles.now c.self.inside.table.now _ 0 c.self.inside.rows.now c.self.invariant.ranked

pub returns : goal.returns
returns c =
    let group = c.self.inside in
    let count = c.count_before in
    counted_below group.handles.now group.table.now group.cells.now _ group.rows.now count.result count.ensures.within count.ensures.before count.ensures.others
    ∙ ap (λ at. count_by (λ member. int_lt member.at at) (map (member_at group.handles.now group.table.now group.cells.now) group.rows.now)) (to_z-of_z w64 c.args.at c.ranges.at)
    ∙ ap (count_by (λ member. int_lt member.at c.args.at)) c.self.view_is

no_less : (a b : ℤ) → int_le a b ≡ true → int_lt b a ≡ false
no_less a b e = grind (arith, ints)

pub returns-then-at : goal.returns-then-at
returns-then-at c =
    let group = c.self.inside in
    let read = sym (to_z-of_z w64 c.at.result (search rules) ∙ c.at.ensures) in
    let le : int_le c.args.at (at_in group.table.now c.in-Some.first.handle) ≡ true = ap₂ int_le (sym (to_z-of_z w64 c.args.at c.ranges.at)) (read) ∙ c.if-at.true in
    none_below group.handles.now group.table.now group.cells.now c.args.at group.rows.now c.in-Some.first c.self.invariant.ranked (sym c.first.ensures ∙ c.in-Some.is) (no_less c.args.at (at_in group.table.now c.in-Some.first.handle) le)
    ∙ ap (count_by (λ member. int_lt member.at c.args.at)) c.self.view_is
