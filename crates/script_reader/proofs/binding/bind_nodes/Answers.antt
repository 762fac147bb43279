use Rattle.std.proofs.Common.{◌≡◌, ◌∙◌, ap, sym, map, length, arith}
use Rattle.script_reader.{specs.Binding.bound_node, specs.Plain.plain_node, proofs.Rewritten.{one_rewritten, all_rewritten, written_back}}
use Rattle.script_reader.proofs.binding.bind_nodes.Goals as goal

pub loop-node-preserved : goal.loop-node-preserved
loop-node-preserved c =
    one_rewritten plain_node (bound_node c.args.ranks.now) c.loop-node.node-index _ c.loop-node.node-items c.node-item.result c.bind_node.new.node c.loop-node.invariant (omega (arith, c.loop-node.invariant.long, c.loop-node-test.true)) c.node-item.is
    (c.bind_node.ensures ∙ ap (bound_node c.args.ranks.now) (sym c.node-item.is))

pub returns : goal.returns
returns c =
    let old = c.deref_mut-node-items.result.now in
    let done : map plain_node c.loop-node.node-items ≡ map (bound_node c.args.ranks.now) old =
    all_rewritten plain_node (bound_node c.args.ranks.now) c.loop-node.node-index old c.loop-node.node-items c.loop-node.invariant (omega (arith, c.loop-node.invariant.long, c.loop-node-test.false)) in
    let same = c.deref_mut-node-items.ensures.value in
    ap (map plain_node) (c.of.ensures ∙ written_back c.loop-node.node-items c.into_vec-nodes.result.items c.into_vec-nodes.result.len (c.loop-node.invariant.long ∙ ap length same) (sym c.deref_mut-node-items.ensures.len ∙ ap length same))
    ∙ done ∙ ap (map (bound_node c.args.ranks.now)) (c.deref_mut-node-items.ensures.value ∙ c.into_vec-nodes.ensures)
