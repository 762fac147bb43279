use Rattle.std.proofs.Common.{◌∙◌, ap, w64, to_z-of_z, take_all, SFits, rules, unwrap_or, None}
use Rattle.std.{specs.Prelude.fold, specs.Int.int_max}
use Rattle.tick_model.{specs.Tables.null, specs.Agg.column_of, specs.Extremes.with_present}
use Rattle.plain_evaluator.proofs.GroupCells.{over_present}
use Rattle.plain_evaluator.proofs.groups.column_max.Goals as goal

pub returns : goal.returns
returns c =
    let fits : SFits w64 c.unwrap_or.result = search rules in
    to_z-of_z fits
    ∙ c.unwrap_or.ensures
    ∙ ap (λ greatest. unwrap_or greatest null) (c.loop-row.invariant ∙ ap (λ rows. fold (with_present int_max) None (column_of rows c.args.column)) (take_all c.loop-row.row-index c.args.rows.now c.loop-row-test.false))
    ∙ over_present int_max (column_of c.args.rows.now c.args.column)
