use Rattle.plain_evaluator.proofs.TablesInTurn.{IsEvaluated}
use Rattle.plain_evaluator.proofs.evaluation.evaluate.Given as goal

abbrev pub invariant-loop-node : goal.invariant-loop-node
invariant-loop-node l = IsEvaluated l.plan.nodes l.fn.sources l.tables.items l.node-index l.next_source
