use Rattle.std.proofs.Common.{◌∙◌, ap, ◌+◌, ◌*◌, ◌≤◌, sym, subst}
use Rattle.std.proofs.lemmas.Result.{err_from_is_err_and}
use Rattle.tick_model.{specs.Changes.{Change, change_of}, specs.Tables.keys, specs.Updates.Tick, specs.declared.table.PlainTable.PlainTable}
use Rattle.tick_table.specs.Exact.{counted}
use Rattle.table_operator.specs.Inputs.{counted_in, tables}
use Rattle.merge_op.{specs.Merged.rows_in, proofs.Planned.{cause_is, count_is, not_over, ok_is_within, one_width, own_is, reads_within}}
use Rattle.merge_op.proofs.in_plan.MergeTableOperator.advance.Goals as goal

pub change-requires-clause-widths : goal.change-requires-clause-widths
change-requires-clause-widths g c = one_width (tables c.args.inputs.now) c.args.self.count c.args.self.width c.requires.widths

pub change-requires-clause-shown : goal.change-requires-clause-shown
change-requires-clause-shown g c =
    let inputs = tables c.args.inputs.now in
    c.rows.ensures.keys ∙ ap (λ (own : PlainTable). keys own.rows) c.requires.shown ∙ ap (λ (own : Tick). keys own.old.rows) (own_is c.args.self inputs (count_is c.args.self inputs c.requires.widths))

pub returns-clause-sound : goal.returns-clause-sound
returns-clause-sound g c =
    let inputs = tables c.args.inputs.now in
    not_over c.args.self inputs (count_is c.args.self inputs c.requires.widths) (ok_is_within (rows_in inputs) _ _ c.in_ok-change.ensures.too_many)

pub returns-clause-change : goal.returns-clause-change
returns-clause-change g c =
    let inputs = tables c.args.inputs.now in
    c.in_ok-change.ensures.change ∙ ap change_of (sym (own_is c.args.self inputs (count_is c.args.self inputs c.requires.widths)))

pub returns-clause-reads : goal.returns-clause-reads
returns-clause-reads g c =
    let merge = c.args.self in
    let inputs = tables c.args.inputs.now in
    reads_within merge inputs (count_is merge inputs c.requires.widths) c.change.new.reads c.args.reads.now
    (subst (λ (change : Change). c.change.new.reads ≤ c.args.reads.now + 4 * (merge.count * merge.width + merge.width) * (counted_in inputs + counted change.update)) c.in_ok-change.ensures.change c.in_ok-change.ensures.reads)

pub returns-in_err-change-clause-reads : goal.returns-in_err-change-clause-reads
returns-in_err-change-clause-reads g c =
    let inputs = tables c.args.inputs.now in
    reads_within c.args.self inputs (count_is c.args.self inputs c.requires.widths) c.change.new.reads c.args.reads.now c.in_err-change.ensures.refused

pub returns-in_err-change-clause-cause : goal.returns-in_err-change-clause-cause
returns-in_err-change-clause-cause g c =
    let inputs = tables c.args.inputs.now in
    let p = err_from_is_err_and c.from_residual.result c.from_residual.ensures.1 in
    rw (p.1, p.2) (cause_is c.args.self inputs c.in_err-change.field-0.0 (count_is c.args.self inputs c.requires.widths) c.in_err-change.ensures.too_many c.in_err-change.ensures.fault)
