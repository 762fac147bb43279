use Rattle.std.proofs.Common.{ap, sym, ◌∙◌, subst, map}
use Rattle.row_groups.{specs.Members.{AreGrouped, Numbered, group_of, groups_of}, specs.Slots.{AreKnown, AreRanked, member_at}, proofs.Keys.{ascending, known_all}, proofs.Groupings.{are_grouped, listed_group, listed_members}}
use Rattle.row_groups.proofs.numbered.NumberedGroups.group.Goals as goal

pub new-requires-clause-known : goal.new-requires-clause-known
new-requires-clause-known c =
    let index = c.self.inside.index in
    let is = c.self.invariant in
    subst (AreKnown index.handles) (sym c.rows_with.ensures) (listed_group index.handles index.table index.lists.groups index.handles index.lists c.args.cells.now is.listed (known_all index.handles is.handled.handles) (ascending index.handles is.handled) is.handled).known

pub new-requires-clause-ranked : goal.new-requires-clause-ranked
new-requires-clause-ranked c =
    let index = c.self.inside.index in
    let is = c.self.invariant in
    subst (AreRanked index.handles index.table) (sym c.rows_with.ensures) (listed_group index.handles index.table index.lists.groups index.handles index.lists c.args.cells.now is.listed (known_all index.handles is.handled.handles) (ascending index.handles is.handled) is.handled).ranked

pub returns-clause-group : goal.returns-clause-group
returns-clause-group c =
    let index = c.self.inside.index in
    c.new.ensures
    ∙ ap (map (member_at index.handles index.table c.args.cells.now)) c.rows_with.ensures
    ∙ listed_members index.table index.lists.groups index.handles index.lists c.args.cells.now c.self.invariant.listed c.self.invariant.handled
    ∙ ap (λ (numbered : Numbered). group_of c.args.cells.now numbered.members) c.self.view_is

pub returns-clause-members : goal.returns-clause-members
returns-clause-members c =
    let index = c.self.inside.index in
    subst (λ (numbered : Numbered). AreGrouped (groups_of numbered)) c.self.view_is (are_grouped index.width index.table index.lists.groups index.handles c.self.invariant.handled c.self.invariant.kept)
