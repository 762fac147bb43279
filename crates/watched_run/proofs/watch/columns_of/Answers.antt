use Rattle.std.proofs.Common.{◌≡◌, ◌∙◌, ◌++◌, ◌∷◌, [], sym, ap, arith}
use Rattle.std.specs.List.{range_with_len}
use Rattle.watched_run.proofs.Columns.{numbers_more}
use Rattle.watched_run.proofs.watch.columns_of.Goals as goal

pub loop-column-preserved : goal.loop-column-preserved
loop-column-preserved c =
    c.in_ok-push.ensures.ok ∙ ap (λ columns. columns ++ c.loop-column.column ∷ []) c.loop-column.invariant ∙ sym (numbers_more c.loop-column.column)

pub returns : goal.returns
returns c =
    let all : c.loop-column.column ≡ c.args.width = omega (arith, c.loop-column-test.false, c.loop-column.auto.column-end) in
    c.loop-column.invariant ∙ ap (range_with_len 0) all
