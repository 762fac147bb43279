use Rattle.std.proofs.Common.{Ok, ap, ◌∙◌, sym, arith}
use Rattle.std.proofs.lemmas.Result.{err_from_is_err_and}
use Rattle.script_reader.{specs.Checks.column_named, proofs.Each.{each_more, each_fails, each_all, each_none}}
use Rattle.script_reader.proofs.members.columns_named.Goals as goal

pub loop-name-init : goal.loop-name-init
loop-name-init c = each_none (column_named c.args.columns.now) ∙ ap Ok (sym c.new-places.ensures)

pub returns-in_err-place : goal.returns-in_err-place
returns-in_err-place c =
    let p = err_from_is_err_and c.from_residual.result c.from_residual.ensures.1 in
    rw (p.1, p.2) (each_fails (column_named c.args.columns.now) c.in_err-place.field-0.0 c.args.names.now c.loop-name.name-index c.name-item.result c.loop-name.places (omega arith) c.name-item.is c.loop-name.invariant c.in_err-place.ensures)

pub loop-name-preserved : goal.loop-name-preserved
loop-name-preserved c =
    each_more (column_named c.args.columns.now) c.args.names.now c.loop-name.name-index c.name-item.result c.loop-name.places c.in_ok-place.place (omega arith) c.name-item.is c.loop-name.invariant c.in_ok-place.ensures
    ∙ ap Ok (sym c.in_ok-push.ensures.ok)

pub returns : goal.returns
returns c = each_all (column_named c.args.columns.now) c.args.names.now c.loop-name.name-index c.loop-name.places c.loop-name-test.false c.loop-name.invariant
