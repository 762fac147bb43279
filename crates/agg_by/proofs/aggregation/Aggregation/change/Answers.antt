use Rattle.std.proofs.Common.{ap, ◌∙◌, subst, ◌+◌, ◌*◌, ◌≤◌}
use Rattle.row_changes.proofs.Comparing.{on_err}
use Rattle.tick_model.{specs.Changes.change_of, specs.declared.table.PlainTable.PlainTable}
use Rattle.tick_table.specs.Exact.{counted, tick_of}
use Rattle.agg_by.{specs.Aggregator.{Grouping, grouped}, proofs.Whole.wider_reads}
use Rattle.agg_by.proofs.aggregation.Aggregation.change.Goals as goal

pub returns-clause-change : goal.returns-clause-change
returns-clause-change g c = c.in_ok-change.ensures.change ∙ ap (λ (grouping : Grouping). change_of (grouped grouping.by grouping.aggs (tick_of c.args.input.now))) c.self.view_is

pub returns-clause-reads : goal.returns-clause-reads
returns-clause-reads g c =
    let t = c.args.input.now in
    let out = counted c.in_ok-change.change.update in
    subst (λ (own : PlainTable). c.grouped_step.new.reads ≤ c.args.reads.now + 4 * (t.new.width + own.width) * (counted t.update + out)) c.requires.shown
    (wider_reads t.new.width c.args.shown.now.new.width c.args.reads.now c.grouped_step.new.reads (counted t.update) out c.in_ok-change.ensures.reads)

pub returns-in_err-change-clause-refused : goal.returns-in_err-change-clause-refused
returns-in_err-change-clause-refused g c =
    let t = c.args.input.now in
    let out = counted (change_of (grouped c.args.self.by c.args.self.aggs (tick_of t))).update in
    on_err c.from_residual.result
    (subst (λ (own : PlainTable). c.grouped_step.new.reads ≤ c.args.reads.now + 4 * (t.new.width + own.width) * (counted t.update + out)) c.requires.shown
    (wider_reads t.new.width c.args.shown.now.new.width c.args.reads.now c.grouped_step.new.reads (counted t.update) out c.grouped_step.ensures.reads))
