use Rattle.std.proofs.Common.{◌≡◌, ap, sym, ◌∙◌, subst, ◌+◌, cond, add-zero}
use Rattle.tick_model.specs.Evaluation.{is_source, eval}
use Rattle.plain_evaluator.{specs.Stops.IsCause, proofs.TablesInTurn.{IsStep, step_ready, step_more, step_stop}, proofs.evaluation.evaluate.Goals.{then-is_source, else-is_source}}
use Rattle.plain_evaluator.proofs.evaluation.evaluate.Goals as goal

pub table_of-requires : goal.table_of-requires
table_of-requires c =
    let step : IsStep c.args.plan.now c.args.sources.now c.loop-node.tables.items c.as_slice-own.result.now c.as_slice.result.now c.as_slice-node-items.result.now c.loop-node.node-index c.loop-node.next_source c.node-item.result = record {
      lawful = c.requires.lawful;
      fit = c.requires.fit;
      listed = c.as_slice-node-items.ensures;
      owned = c.as_slice-own.ensures;
      seen = c.as_slice.ensures.value;
      within = c.loop-node-test.true;
      here = c.node-item.is;
      evaluated = c.loop-node.invariant;
    } in
    step_ready c.args.plan.now c.args.sources.now c.loop-node.tables.items c.as_slice-own.result.now c.as_slice.result.now c.as_slice-node-items.result.now c.loop-node.node-index c.loop-node.next_source c.node-item.result step

pub returns-in-Err-clause-err : goal.returns-in-Err-clause-err
returns-in-Err-clause-err c =
    let step : IsStep c.args.plan.now c.args.sources.now c.loop-node.tables.items c.as_slice-own.result.now c.as_slice.result.now c.as_slice-node-items.result.now c.loop-node.node-index c.loop-node.next_source c.node-item.result = record {
      lawful = c.requires.lawful;
      fit = c.requires.fit;
      listed = c.as_slice-node-items.ensures;
      owned = c.as_slice-own.ensures;
      seen = c.as_slice.ensures.value;
      within = c.loop-node-test.true;
      here = c.node-item.is;
      evaluated = c.loop-node.invariant;
    } in
    subst (IsCause (eval c.args.plan.now c.args.sources.now)) (sym c.stopped.ensures)
    (step_stop c.args.plan.now c.args.sources.now c.loop-node.tables.items c.as_slice-own.result.now c.as_slice.result.now c.as_slice-node-items.result.now c.loop-node.node-index c.loop-node.next_source c.len.result c.node-item.result c.in-Err.stop step
    (c.len.ensures ∙ c.loop-node.tables.ok.0) c.in-Err.ensures)

pub loop-node-preserved : goal.loop-node-preserved
loop-node-preserved c =
    let step : IsStep c.args.plan.now c.args.sources.now c.loop-node.tables.items c.as_slice-own.result.now c.as_slice.result.now c.as_slice-node-items.result.now c.loop-node.node-index c.loop-node.next_source c.node-item.result = record {
      lawful = c.requires.lawful;
      fit = c.requires.fit;
      listed = c.as_slice-node-items.ensures;
      owned = c.as_slice-own.ensures;
      seen = c.as_slice.ensures.value;
      within = c.loop-node-test.true;
      here = c.node-item.is;
      evaluated = c.loop-node.invariant;
    } in
    step_more c.args.plan.now c.args.sources.now c.loop-node.tables.items c.as_slice-own.result.now c.as_slice.result.now c.push.new.self.items c.as_slice-node-items.result.now c.loop-node.node-index c.loop-node.next_source c.if-is_source.next_source c.node-item.result c.in-Ok.table
    step c.in-Ok.ensures c.in_ok-push-in-Ok.ensures.items counted
  where
    counted : c.if-is_source.next_source ≡ c.loop-node.next_source + cond (is_source c.node-item.result) 1 0
    counted =
        elim c.if-is_source.branch [
          | then-is_source w ↦ w.next_source-is ∙ ap (λ b. c.loop-node.next_source + cond b 1 0) (sym w.if-is_source.true ∙ c.is_source.ensures)
          | else-is_source w ↦ w.next_source-is ∙ sym (add-zero c.loop-node.next_source) ∙ ap (λ b. c.loop-node.next_source + cond b 1 0) (sym w.if-is_source.false ∙ c.is_source.ensures)
        ]
