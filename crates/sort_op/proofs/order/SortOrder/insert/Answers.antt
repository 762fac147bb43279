use Rattle.std.proofs.Common.{◌∙◌, ap, subst, sym}
use Rattle.std.specs.Prelude.{insert}
use Rattle.chunk_list.specs.Chunked.{IsReplaced}
use Rattle.sort_op.{specs.Entries.{entries, IsOrder, Order}, proofs.Made.{count_at, order_more}}
use Rattle.sort_op.proofs.order.SortOrder.insert.Goals as goal

pub returns-clause-position : goal.returns-clause-position
returns-clause-position c =
    sym (count_at c.args.self.now.by c.args.entry (entries c.args.self.now) c.count_before-position.result c.count_before-position.ensures.within c.count_before-position.ensures.before c.count_before-position.ensures.others)

pub returns-clause-entries : goal.returns-clause-entries
returns-clause-entries c = c.in_ok-insert.ensures.ok ∙ ap (λ (order : Order). insert (entries order) c.count_before-position.result c.args.entry) c.self.view_is

pub returns-clause-chunks : goal.returns-clause-chunks
returns-clause-chunks c = subst (λ (order : Order). IsReplaced 1 2 order.chunks c.insert.new.self) c.self.view_is c.in_ok-insert.ensures.replaced

pub invariant_of-self-2 : goal.invariant_of-self-2
invariant_of-self-2 c =
    subst (λ (order : Order). IsOrder (record { by = order.by; chunks = c.insert.new.self })) (sym c.self.view_is)
    (order_more c.args.self.now (subst IsOrder c.self.view_is c.self.invariant) c.args.entry c.requires.whole c.count_before-position.result c.count_before-position.ensures.within c.count_before-position.ensures.before c.count_before-position.ensures.others c.insert.new.self c.insert.ensures.sizes c.requires.absent
    (c.in_ok-insert.ensures.ok ∙ ap (λ (order : Order). insert (entries order) c.count_before-position.result c.args.entry) c.self.view_is))

pub returns-clause-order : goal.returns-clause-order
returns-clause-order c =
    subst (λ (order : Order). IsOrder (record { by = order.by; chunks = c.insert.new.self })) (sym c.self.view_is)
    (order_more c.args.self.now (subst IsOrder c.self.view_is c.self.invariant) c.args.entry c.requires.whole c.count_before-position.result c.count_before-position.ensures.within c.count_before-position.ensures.before c.count_before-position.ensures.others c.insert.new.self c.insert.ensures.sizes c.requires.absent
    (c.in_ok-insert.ensures.ok ∙ ap (λ (order : Order). insert (entries order) c.count_before-position.result c.args.entry) c.self.view_is))

pub invariant_of-self : goal.invariant_of-self
invariant_of-self c = subst (λ chunks. IsOrder (record { by = c.self.inside.by; chunks = chunks })) (sym c.in_err-insert.ensures.err) c.self.invariant
