use Rattle.plain_evaluator.proofs.Numbering.{numbered_more}
use Rattle.plain_evaluator.proofs.sort.numbered.Goals as goal

pub loop-number-preserved : goal.loop-number-preserved
loop-number-preserved c = numbered_more c.loop-number.rows c.args.rows.now c.loop-number.number c.index-rows-number.result c.loop-number-test.true c.loop-number.invariant
