use Rattle.std.proofs.Common.{◌≡◌, ◌∙◌, ap, sym, Some}
use Rattle.std.specs.Cmp.Rules.{signed_items}
use Rattle.row_groups.proofs.Listed.{with_group}
use Rattle.row_groups.proofs.lists.Lists.number_near.Goals as goal

pub returns-in-Some : goal.returns-in-Some
returns-in-Some c =
    let group = c.in-Some.group.now in
    let cells = c.args.cells.now in
    let own : group.cells.items ≡ cells = sym c.as_slice.ensures.value ∙ (signed_items c.as_slice.result.now cells).0 (sym c.eq.ensures ∙ c.if-eq.true) in
    sym (c.requires.cells cells c.args.near (with_group c.args.near c.args.self.now.groups group (sym c.in-Some.ensures) ∙ ap Some own))
