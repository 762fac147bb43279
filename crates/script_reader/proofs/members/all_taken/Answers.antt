use Rattle.std.proofs.Common.{Ok, ap, ◌∙◌, sym, arith}
use Rattle.std.proofs.lemmas.Result.{err_from_is_err_and}
use Rattle.script_reader.{specs.Checks.taken_of, proofs.Each.{each_more, each_fails, each_all, each_none}}
use Rattle.script_reader.proofs.members.all_taken.Goals as goal

pub loop-pair-init : goal.loop-pair-init
loop-pair-init c = each_none (taken_of c.args.right.now) ∙ ap Ok (sym c.new-taken.ensures)

pub returns-in_err-column : goal.returns-in_err-column
returns-in_err-column c =
    let p = err_from_is_err_and c.from_residual.result c.from_residual.ensures.1 in
    rw (p.1, p.2) (each_fails (taken_of c.args.right.now) c.in_err-column.field-0.0 c.args.pairs.now c.loop-pair.pair-index c.pair-item.result c.loop-pair.taken (omega arith) c.pair-item.is c.loop-pair.invariant c.in_err-column.ensures)

pub loop-pair-preserved : goal.loop-pair-preserved
loop-pair-preserved c =
    each_more (taken_of c.args.right.now) c.args.pairs.now c.loop-pair.pair-index c.pair-item.result c.loop-pair.taken c.in_ok-column.column (omega arith) c.pair-item.is c.loop-pair.invariant c.in_ok-column.ensures
    ∙ ap Ok (sym c.in_ok-push.ensures.ok)

pub returns : goal.returns
returns c = each_all (taken_of c.args.right.now) c.args.pairs.now c.loop-pair.pair-index c.loop-pair.taken c.loop-pair-test.false c.loop-pair.invariant
