use Rattle.std.proofs.Common.{◌≡◌, ap, sym, subst, ◌+◌, arith, length}
use Rattle.update_graph.{specs.Sweeps.IsSwept, proofs.ClaimedWorks.count_works}
use Rattle.update_graph.proofs.opening.open_all.Goals as goal

pub open_node-requires-clause-swept : goal.open_node-requires-clause-swept
open_node-requires-clause-swept g c =
    let count = count_works c.args.run.now 0 c.loop.counter c.loop.sweep.works.items c.loop.invariant.works in
    subst (λ k. IsSwept c.args.run.now 0 k c.loop.sweep) (sym count) c.loop.invariant

pub open_node-requires-clause-node : goal.open_node-requires-clause-node
open_node-requires-clause-node g c =
    let count = count_works c.args.run.now 0 c.loop.counter c.loop.sweep.works.items c.loop.invariant.works in
    let less = c.loop-test.true in
    let long = c.len-end.ensures in
    omega arith

pub loop-preserved : goal.loop-preserved
loop-preserved g c =
    let count = count_works c.args.run.now 0 c.loop.counter c.loop.sweep.works.items c.loop.invariant.works in
    subst (λ k. IsSwept c.args.run.now 0 k c.open_node.new.sweep) (ap (λ k. k + 1) count) c.in_ok-open_node.ensures

pub returns : goal.returns
returns g c =
    let t = c.loop-test.false in
    let long = c.len-end.ensures in
    let same : c.loop.counter ≡ length c.args.run.now.plan.nodes = omega arith in
    subst (λ k. IsSwept c.args.run.now 0 k c.loop.sweep) same c.loop.invariant
