use Rattle.std.proofs.Common.{sym, subst, [], ◌∷◌, get_or, take}
use Rattle.std.{specs.List.AllByRecursion, proofs.lemmas.List.take_more}
use Rattle.key_lists.proofs.Every.{every-append}
use Rattle.update_graph.specs.Stands.{Stays}
use Rattle.update_graph.proofs.sweep.all_stay.Goals as goal

pub loop-node-preserved : goal.loop-node-preserved
loop-node-preserved c =
    let nodes = c.args.nodes.now in
    let k = c.loop-node.node-index in
    let stays = c.node_stays.ensures c.if-not-node_stays.false in
    subst (AllByRecursion (Stays c.args.run.now c.args.step)) (sym (take_more nodes k 0 c.loop-node-test.true))
    (every-append (Stays c.args.run.now c.args.step) (take k nodes) (get_or nodes k 0 ∷ []) c.loop-node.invariant (stays, tt))
