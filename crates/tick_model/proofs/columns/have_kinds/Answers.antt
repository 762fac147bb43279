use Rattle.std.proofs.Common.{◌≡◌, ◌==◌, ap, sym, ◌∙◌, length, drop, map, arith}
use Rattle.std.proofs.lemmas.List.{drop_all}
use Rattle.tick_model.{specs.Columns.have_kinds, proofs.ColumnLists.no_columns_left}
use Rattle.tick_model.proofs.columns.have_kinds.Goals as goal

pub returns : goal.returns
returns g c =
    let columns = c.args.columns.now in
    let items = c.args.items.now in
    let all : c.loop-i.i ≡ length items = omega arith in
    ap (λ n. length columns == n) (sym all) ∙ sym (no_columns_left c.loop-i.i columns c.loop-i.invariant.0)
    ∙ ap (λ rest. have_kinds (drop c.loop-i.i columns) (map (g.T.KindOver.kind_by c.args.input.now) rest)) (sym (drop_all c.loop-i.i items c.loop-i-test.false)) ∙ c.loop-i.invariant.1
