use Rattle.std.proofs.Common.{Ok, ap, ◌∙◌, sym, arith}
use Rattle.std.proofs.lemmas.Result.{err_from_is_err_and}
use Rattle.script_reader.{specs.Checks.pair_of, proofs.Each.{each_more, each_fails, each_all, each_none}}
use Rattle.script_reader.proofs.members.pairs_of.Goals as goal

pub loop-pair-init : goal.loop-pair-init
loop-pair-init c = each_none (pair_of c.args.left.now c.args.right.now) ∙ ap Ok (sym c.new-on.ensures)

pub returns-in_err-found : goal.returns-in_err-found
returns-in_err-found c =
    let p = err_from_is_err_and c.from_residual.result c.from_residual.ensures.1 in
    rw (p.1, p.2) (each_fails (pair_of c.args.left.now c.args.right.now) c.in_err-found.field-0.0 c.args.pairs.now c.loop-pair.pair-index c.pair-item.result c.loop-pair.on (omega arith) c.pair-item.is c.loop-pair.invariant c.in_err-found.ensures)

pub loop-pair-preserved : goal.loop-pair-preserved
loop-pair-preserved c =
    each_more (pair_of c.args.left.now c.args.right.now) c.args.pairs.now c.loop-pair.pair-index c.pair-item.result c.loop-pair.on c.in_ok-found.found (omega arith) c.pair-item.is c.loop-pair.invariant c.in_ok-found.ensures
    ∙ ap Ok (sym c.in_ok-push.ensures.ok)

pub returns : goal.returns
returns c = each_all (pair_of c.args.left.now c.args.right.now) c.args.pairs.now c.loop-pair.pair-index c.loop-pair.on c.loop-pair-test.false c.loop-pair.invariant
