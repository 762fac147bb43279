use Rattle.std.proofs.Common.{◌≡◌, ◌==◌, ap, sym, ◌∙◌, length, drop, arith}
use Rattle.std.proofs.lemmas.List.{drop_all}
use Rattle.tick_model.{specs.Columns.same_columns, proofs.ColumnLists.no_others_left}
use Rattle.tick_model.proofs.columns.same_columns.Goals as goal

pub returns : goal.returns
returns c =
    let columns = c.args.columns.now in
    let others = c.args.others.now in
    let all : c.loop-i.i ≡ length columns = omega arith in
    ap (λ n. n == length others) (sym all) ∙ sym (no_others_left c.loop-i.i others c.loop-i.invariant.0)
    ∙ ap (λ rest. same_columns rest (drop c.loop-i.i others)) (sym (drop_all c.loop-i.i columns c.loop-i-test.false)) ∙ c.loop-i.invariant.1
