use Rattle.std.proofs.Common.{◌≡◌, ◌∙◌, ap, ap₂, subst, sym, ◌+◌, ◌*◌, ◌≤◌, List}
use Rattle.row_changes.proofs.Comparing.{on_err}
use Rattle.tick_model.{specs.declared.plan.SortBy.SortBy, specs.Changes.{Change, change_of}}
use Rattle.tick_table.specs.Exact.{counted, tick_of}
use Rattle.sort_op.{specs.declared.entry.Entry.Entry, specs.Sorted.entries_of, specs.Sorter.{Sorter, sorted}}
use Rattle.sort_op.proofs.operator.SortOp.step.Goals as goal

pub step_order-requires-clause-stands : goal.step_order-requires-clause-stands
step_order-requires-clause-stands g c = subst (λ (sorter : Sorter). sorter.entries ≡ entries_of sorter.by c.args.input.now.old.rows) (sym c.self.view_is) c.requires.stands

pub returns-clause-stands : goal.returns-clause-stands
returns-clause-stands g c =
    ap₂ (λ (by : List SortBy) (entries : List Entry). let sorter : Sorter = record { by = by; width = c.self.inside.width; entries = entries } in sorter) c.in_ok-change.ensures.by c.in_ok-change.ensures.stands
    ∙ ap (λ (sorter : Sorter). let after : Sorter = record { by = sorter.by; width = sorter.width; entries = entries_of sorter.by c.args.input.now.new.rows } in after) c.self.view_is

pub returns-clause-change : goal.returns-clause-change
returns-clause-change g c = c.in_ok-change.ensures.change ∙ ap (λ (sorter : Sorter). change_of (sorted sorter.by (tick_of c.args.input.now))) c.self.view_is

pub returns-in_err-change-clause-refused : goal.returns-in_err-change-clause-refused
returns-in_err-change-clause-refused g c =
    let t = c.args.input.now in
    on_err c.from_residual.result
    (subst (λ (sorter : Sorter). c.step_order.new.reads ≤ c.args.reads.now + 4 * (t.new.width + t.new.width) * (counted t.update + counted (change_of (sorted sorter.by (tick_of t))).update)) c.self.view_is c.step_order.ensures.reads)

pub returns-clause-reads : goal.returns-clause-reads
returns-clause-reads g c =
    let t = c.args.input.now in
    subst (λ (change : Change). c.step_order.new.reads ≤ c.args.reads.now + 4 * (t.new.width + t.new.width) * (counted t.update + counted change.update)) (sym c.in_ok-change.ensures.change) c.step_order.ensures.reads
