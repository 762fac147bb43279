use Rattle.std.proofs.Common.{Ok, ap, ◌∙◌, sym, arith}
use Rattle.std.proofs.lemmas.Result.{err_from_is_err_and}
use Rattle.script_reader.{specs.Checks.sort_of, proofs.Each.{each_more, each_fails, each_all, each_none}}
use Rattle.script_reader.proofs.members.sorts_of.Goals as goal

pub loop-sort-init : goal.loop-sort-init
loop-sort-init c = each_none (sort_of c.args.columns.now) ∙ ap Ok (sym c.new-sorts.ensures)

pub returns-in_err-found : goal.returns-in_err-found
returns-in_err-found c =
    let p = err_from_is_err_and c.from_residual.result c.from_residual.ensures.1 in
    rw (p.1, p.2) (each_fails (sort_of c.args.columns.now) c.in_err-found.field-0.0 c.args.by.now c.loop-sort.sort-index c.sort-item.result c.loop-sort.sorts (omega arith) c.sort-item.is c.loop-sort.invariant c.in_err-found.ensures)

pub loop-sort-preserved : goal.loop-sort-preserved
loop-sort-preserved c =
    each_more (sort_of c.args.columns.now) c.args.by.now c.loop-sort.sort-index c.sort-item.result c.loop-sort.sorts c.in_ok-found.found (omega arith) c.sort-item.is c.loop-sort.invariant c.in_ok-found.ensures
    ∙ ap Ok (sym c.in_ok-push.ensures.ok)

pub returns : goal.returns
returns c = each_all (sort_of c.args.columns.now) c.args.by.now c.loop-sort.sort-index c.loop-sort.sorts c.loop-sort-test.false c.loop-sort.invariant
