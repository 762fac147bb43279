use Rattle.std.proofs.Common.{◌∙◌, ◌<◌, ap, length, refl, subst, sym, true, false}
use Rattle.std.specs.Prelude.{remove}
use Rattle.chunk_list.specs.Chunked.{IsReplaced}
use Rattle.sort_op.{specs.Entries.{entries, is_same, Order}, proofs.Made.{held_within, order_less, place_absent, place_held}}
use Rattle.sort_op.proofs.order.SortOrder.remove.Goals as goal

pub returns-then-not-holds-clause-position : goal.returns-then-not-holds-clause-position
returns-then-not-holds-clause-position c =
    let is = c.count_before-position.ensures.order in
    sym (place_absent c.args.self.now.by c.args.entry.now (entries c.args.self.now) c.count_before-position.result c.count_before-position.ensures.within c.count_before-position.ensures.before c.count_before-position.ensures.others is.rising is.whole c.requires.whole false (sym c.holds.ensures ∙ c.if-not-holds.true) refl)

pub remove-requires : goal.remove-requires
remove-requires c = subst (λ (order : Order). c.count_before-position.result < length (entries order)) (sym c.self.view_is) (held_within (λ other. is_same other c.args.entry.now) (entries c.args.self.now) c.count_before-position.result (sym c.holds.ensures ∙ c.if-not-holds.false))

pub returns-clause-position : goal.returns-clause-position
returns-clause-position c =
    let is = c.count_before-position.ensures.order in
    sym (place_held c.args.self.now.by c.args.entry.now (entries c.args.self.now) c.count_before-position.result c.count_before-position.ensures.within c.count_before-position.ensures.before c.count_before-position.ensures.others is.rising is.whole c.requires.whole true (sym c.holds.ensures ∙ c.if-not-holds.false) refl)

pub returns-clause-entries : goal.returns-clause-entries
returns-clause-entries c = c.remove.ensures.others ∙ ap (λ (order : Order). remove (entries order) c.count_before-position.result) c.self.view_is

pub returns-clause-chunks : goal.returns-clause-chunks
returns-clause-chunks c = subst (λ (order : Order). IsReplaced 0 1 order.chunks c.remove.new.self) c.self.view_is c.remove.ensures.replaced

pub invariant_of-self : goal.invariant_of-self
invariant_of-self c =
    order_less (record { by = c.self.inside.by; chunks = c.self.inside.entries }) c.self.invariant c.count_before-position.result c.remove.new.self c.remove.ensures.sizes c.remove.ensures.others

pub returns-clause-order : goal.returns-clause-order
returns-clause-order c =
    order_less (record { by = c.self.inside.by; chunks = c.self.inside.entries }) c.self.invariant c.count_before-position.result c.remove.new.self c.remove.ensures.sizes c.remove.ensures.others
