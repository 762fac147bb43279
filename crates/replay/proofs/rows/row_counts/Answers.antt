use Rattle.std.proofs.Common.{◌∙◌, ◌++◌, ◌∷◌, [], sym, ap, arith}
use Rattle.std.proofs.lemmas.List.{take_all}
use Rattle.replay.{specs.Outcomes.row_counts, proofs.RowsCounted.{counts_more, length-row_counts}}
use Rattle.replay.proofs.rows.row_counts.Goals as goal

pub loop-node-preserved : goal.loop-node-preserved
loop-node-preserved c =
    let run = c.args.graph.now.run in
    let step = c.args.graph.now.step in
    let at = c.step-step.ensures in
    let more = counts_more run step at.lawful at.reached c.loop-node.node c.len.result c.table.result.now c.rows.result.now (omega (arith, c.requires, c.loop-node-test.true)) c.table.ensures c.rows.ensures.keys c.len.ensures.count in
    c.in_ok-push.ensures.ok ∙ ap (λ counts. counts ++ c.len.result ∷ []) c.loop-node.invariant ∙ sym more

pub returns : goal.returns
returns c =
    let run = c.args.graph.now.run in
    let step = c.args.graph.now.step in
    c.loop-node.invariant ∙ take_all c.loop-node.node (row_counts run step) (omega (arith, length-row_counts run step, c.requires, c.loop-node-test.false))
