use Rattle.std.proofs.Common.{◌+◌, ◌^◌, ◌<◌, ◌∙◌, arith, rules}
use Rattle.tick_io.proofs.Prefixes.{prefix_within}
use Rattle.tick_model.specs.Texts.{node_records, records_text}
use Rattle.replay.proofs.Prints.{count_fits, count_more, node_shown, node_there, number_at, on_err, place_within, text_more, text_splits, written_more}
use Rattle.replay.proofs.writing.write_step.Goals as goal

pub write_node-requires-clause-node : goal.write_node-requires-clause-node
write_node-requires-clause-node g c κs within =
    node_there c.args.graph.now.run c.args.printed.now c.loop-node.node-index c.node-item.result c.requires.printed c.loop-node-test.true c.node-item.is c.step-step.ensures.lawful

pub write_node-requires-clause-shown : goal.write_node-requires-clause-shown
write_node-requires-clause-shown g c κs within =
    node_shown c.args.graph.now.run c.args.printed.now c.loop-node.node-index c.node-item.result c.requires.printed c.loop-node-test.true c.node-item.is

pub returns-in_err-records-clause-err : goal.returns-in_err-records-clause-err
returns-in_err-records-clause-err g c =
    let run = c.args.graph.now.run in
    let i = c.loop-node.node-index in
    let less = place_within run c.args.printed.now i c.node-item.result c.requires.printed c.loop-node-test.true c.node-item.is in
    let number = number_at run c.args.printed.now i c.node-item.result c.requires.printed c.loop-node-test.true c.node-item.is in
    on_err c.from_residual.result
    (prefix_within (g.S.Sink.bytes c.args.out.now) (g.S.Sink.bytes c.loop-node.out) (g.S.Sink.bytes c.write_node.new.out) _ _ _ _
    (text_splits run c.args.graph.now.step i c.node-item.result.node less number) c.loop-node.invariant.1 c.in_err-records.ensures.err)

pub overflow_add-records : goal.overflow_add-records
overflow_add-records g c =
    let run = c.args.graph.now.run in
    let at = c.step-step.ensures in
    let i = c.loop-node.node-index in
    let less = place_within run c.args.printed.now i c.node-item.result c.requires.printed c.loop-node-test.true c.node-item.is in
    let number = number_at run c.args.printed.now i c.node-item.result c.requires.printed c.loop-node-test.true c.node-item.is in
    let small : c.loop-node.records + c.in_ok-records.field-0 < 2 ^ 64 = omega (arith, count_fits run c.args.graph.now.step i c.node-item.result.node less number at.lawful at.reached, c.loop-node.invariant.0, c.in_ok-records.ensures.count) in
    search rules

pub loop-node-preserved : goal.loop-node-preserved
loop-node-preserved g c =
    let run = c.args.graph.now.run in
    let step = c.args.graph.now.step in
    let i = c.loop-node.node-index in
    let node = c.node-item.result.node in
    let less = place_within run c.args.printed.now i c.node-item.result c.requires.printed c.loop-node-test.true c.node-item.is in
    let number = number_at run c.args.printed.now i c.node-item.result c.requires.printed c.loop-node-test.true c.node-item.is in
    let so_far = c.loop-node.invariant in (
      omega (arith, count_more run step i node less number, so_far.0, c.in_ok-records.ensures.count),
      written_more (g.S.Sink.bytes c.args.out.now) (g.S.Sink.bytes c.loop-node.out) (g.S.Sink.bytes c.write_node.new.out) _ (records_text (node_records run step node)) _ so_far.1 c.in_ok-records.ensures.whole
          (text_more run step i node less number),
      c.in_ok-records.ensures.steady ∙ so_far.2,
    )
