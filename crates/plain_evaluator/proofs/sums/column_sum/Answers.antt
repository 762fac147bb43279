use Rattle.std.proofs.Common.{◌∙◌, ap, w64, to_z-of_z, take_all, SFits, rules, unwrap_or, None}
use Rattle.std.specs.Prelude.{fold}
use Rattle.tick_model.{specs.Tables.null, specs.Agg.{column_of, with_cell}}
use Rattle.plain_evaluator.proofs.SumsSoFar.{sum_of_present}
use Rattle.plain_evaluator.proofs.sums.column_sum.Goals as goal

pub returns : goal.returns
returns c =
    let fits : SFits w64 c.unwrap_or.result = search rules in
    to_z-of_z fits
    ∙ c.unwrap_or.ensures
    ∙ ap (λ sum. unwrap_or sum null) (c.loop-row.invariant ∙ ap (λ rows. fold with_cell None (column_of rows c.args.column)) (take_all c.loop-row.row-index c.args.rows.now c.loop-row-test.false))
    ∙ sum_of_present (column_of c.args.rows.now c.args.column)
