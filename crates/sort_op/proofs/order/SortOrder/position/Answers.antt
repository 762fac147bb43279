use Rattle.std.proofs.Common.{◌∙◌, refl, sym, true, false}
use Rattle.sort_op.{specs.Entries.entries, proofs.Made.{found_nowhere, found_there}}
use Rattle.sort_op.proofs.order.SortOrder.position.Goals as goal

pub returns-then-holds-clause-position : goal.returns-then-holds-clause-position
returns-then-holds-clause-position c =
    let is = c.count_before-position.ensures.order in
    sym (found_there c.args.self.now.by c.args.entry.now (entries c.args.self.now) c.count_before-position.result c.count_before-position.ensures.within c.count_before-position.ensures.before c.count_before-position.ensures.others is.rising is.whole c.requires.whole true (sym c.holds.ensures ∙ c.if-holds.true) refl)

pub returns-else-holds-clause-position : goal.returns-else-holds-clause-position
returns-else-holds-clause-position c =
    let is = c.count_before-position.ensures.order in
    sym (found_nowhere c.args.self.now.by c.args.entry.now (entries c.args.self.now) c.count_before-position.result c.count_before-position.ensures.within c.count_before-position.ensures.before c.count_before-position.ensures.others is.rising is.whole c.requires.whole false (sym c.holds.ensures ∙ c.if-holds.false) refl)
