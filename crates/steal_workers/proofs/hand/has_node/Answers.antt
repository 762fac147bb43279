use Rattle.std.proofs.Common.{refl, arith}
use Rattle.steal_workers.proofs.hand.has_node.Goals as goal

pub add-requires-clause-below : goal.add-requires-clause-below
add-requires-clause-below g c =
    let own = c.in-Some.ensures.held.ready c.in-Some.node refl in
    let below = own.within in
    let few = c.bound_nodes.ensures in
    omega (arith, below, few)
