use Rattle.std.proofs.Common.{ap, sym, ◌∙◌, None}
use Rattle.std.{specs.List.last_or, specs.Option.option_copied}
use Rattle.plain_evaluator.{proofs.Matches.{matched_more, unmatched_more}, proofs.joins.last_match.Goals.{then-agree, else-agree}}
use Rattle.plain_evaluator.proofs.joins.last_match.Goals as goal

pub loop-right-preserved : goal.loop-right-preserved
loop-right-preserved c =
    elim c.if-agree.branch [
      | then-agree w ↦ ap option_copied w.last-is ∙ matched_more c.args.on.now c.args.rows.now c.args.left.now c.loop-right.right-index c.right-item.result c.loop-right-test.true c.right-item.is (sym c.agree.ensures ∙ w.if-agree.true)
      | else-agree w ↦ ap option_copied w.last-is ∙ c.loop-right.invariant ∙ ap (last_or None) (unmatched_more c.args.on.now c.args.rows.now c.args.left.now c.loop-right.right-index c.right-item.result c.loop-right-test.true c.right-item.is (sym c.agree.ensures ∙ w.if-agree.false))
    ]
