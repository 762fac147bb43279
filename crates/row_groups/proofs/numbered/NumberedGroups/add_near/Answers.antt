use Rattle.std.proofs.Common.{◌≡◌, ap, ◌∙◌, subst, Some, ℕ}
use Rattle.std.proofs.lemmas.Result.{IfOk-weaker}
use Rattle.row_groups.{specs.Members.{IsNumberOf, IsPart, Numbered, member_under}, specs.Rows.cells_with, specs.Indexes.{names_of, numbered_of}, proofs.Groupings.absent_under, proofs.Named.{keeps_all, number_is, part_of}}
use Rattle.row_groups.proofs.numbered.NumberedGroups.add_near.Goals as goal

pub add-requires-clause-absent : goal.add-requires-clause-absent
add-requires-clause-absent c =
    let index = c.self.inside.index in
    absent_under c.args.key index.table index.lists.groups index.handles (ap (λ (numbered : Numbered). member_under c.args.key numbered.members) c.self.view_is ∙ c.requires.absent)

pub returns-clause-number : goal.returns-clause-number
returns-clause-number c =
    let new = c.add.new.self in
    IfOk-weaker c.add.result (λ (number : ℕ). cells_with number new.lists.groups ≡ Some c.args.cells.now) (λ (number : ℕ). IsNumberOf number c.args.cells.now (names_of new.lists.groups))
    (λ number. number_is new c.add.ensures.sound number c.args.cells.now) c.add.ensures.number

pub returns-clause-names : goal.returns-clause-names
returns-clause-names c =
    let old = c.self.inside.index in
    let new = c.add.new.self in
    subst (λ (numbered : Numbered). IsPart numbered (numbered_of new)) c.self.view_is
    (part_of old new c.self.invariant c.add.ensures.sound (keeps_all old.lists.groups new.lists.groups c.add.ensures.numbers))
