use Rattle.std.proofs.Common.{◌≡◌, ap, ◌∙◌, map, arith, ◌++◌, ◌∷◌, []}
use Rattle.std.{proofs.lemmas.List.map_push, proofs.lemmas.Result.err_from_is_err_and}
use Rattle.script_reader.{specs.Plain.plain, proofs.Each.{exprs_more, exprs_fail, exprs_all, exprs_none}}
use Rattle.script_reader.proofs.expressions.exprs_of.Goals as goal

pub loop-column-init : goal.loop-column-init
loop-column-init c = rw c.new-exprs.ensures (exprs_none c.args.columns.now c.args.literals.now)

pub returns-in_err-expr : goal.returns-in_err-expr
returns-in_err-expr c =
    let p = err_from_is_err_and c.from_residual.result c.from_residual.ensures.1 in
    rw (p.1, p.2)
    (exprs_fail c.args.columns.now c.in_err-expr.field-0.0 c.args.literals.now c.args.computed.now c.loop-column.column-index c.column-item.result (map plain c.loop-column.exprs) c.loop-column.literals (omega arith) c.column-item.is
    c.loop-column.invariant c.in_err-expr.ensures)

pub loop-column-preserved : goal.loop-column-preserved
loop-column-preserved c =
    let e : map plain c.push.new.self ≡ map plain c.loop-column.exprs ++ plain c.in_ok-expr.expr ∷ [] = ap (map plain) c.in_ok-push.ensures.ok ∙ map_push plain c.loop-column.exprs c.in_ok-expr.expr in
    rw e
    (exprs_more c.args.columns.now c.args.literals.now c.args.computed.now c.loop-column.column-index c.column-item.result (map plain c.loop-column.exprs) c.loop-column.literals _ (plain c.in_ok-expr.expr) (omega arith) c.column-item.is
    c.loop-column.invariant c.in_ok-expr.ensures)

pub returns : goal.returns
returns c = exprs_all c.args.columns.now c.args.literals.now c.args.computed.now c.loop-column.column-index (map plain c.loop-column.exprs) c.loop-column.literals c.loop-column-test.false c.loop-column.invariant
