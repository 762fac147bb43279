use Rattle.std.proofs.Common.{Ok, ap, ◌∙◌, sym, arith}
use Rattle.std.proofs.lemmas.Result.{err_from_is_err_and}
use Rattle.script_reader.{specs.Checks.gathered_of, proofs.Each.{each_more, each_fails, each_all, each_none}}
use Rattle.script_reader.proofs.members.aggregates_of.Goals as goal

pub loop-column-init : goal.loop-column-init
loop-column-init c = each_none (gathered_of c.args.columns.now) ∙ ap Ok (sym c.new-aggs.ensures)

pub returns-in_err-agg : goal.returns-in_err-agg
returns-in_err-agg c =
    let p = err_from_is_err_and c.from_residual.result c.from_residual.ensures.1 in
    rw (p.1, p.2) (each_fails (gathered_of c.args.columns.now) c.in_err-agg.field-0.0 c.args.gathered.now c.loop-column.column-index c.column-item.result c.loop-column.aggs (omega arith) c.column-item.is c.loop-column.invariant c.in_err-agg.ensures)

pub loop-column-preserved : goal.loop-column-preserved
loop-column-preserved c =
    each_more (gathered_of c.args.columns.now) c.args.gathered.now c.loop-column.column-index c.column-item.result c.loop-column.aggs c.in_ok-agg.agg (omega arith) c.column-item.is c.loop-column.invariant c.in_ok-agg.ensures
    ∙ ap Ok (sym c.in_ok-push.ensures.ok)

pub returns : goal.returns
returns c = each_all (gathered_of c.args.columns.now) c.args.gathered.now c.loop-column.column-index c.loop-column.aggs c.loop-column-test.false c.loop-column.invariant
