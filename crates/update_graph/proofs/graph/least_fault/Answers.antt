use Rattle.std.proofs.Common.{refl, sym, ◌∙◌, arith, length}
use Rattle.std.proofs.lemmas.Option.{none-some}
use Rattle.update_graph.{proofs.ClaimedWorks.count_works, proofs.Sweeping.{found_here, no_fault_here, no_fault_left, stepped_more}}
use Rattle.update_graph.proofs.graph.least_fault.Goals as goal

pub loop-node-init : goal.loop-node-init
loop-node-init c = record { fault = λ run step own. refl; stepped = λ run step own node below. absurd (omega (arith, below)) }

pub returns-in-Some-clause-fault : goal.returns-in-Some-clause-fault
returns-in-Some-clause-fault c = λ run step own.
    sym (c.loop-node.invariant.fault run step own ∙ found_here run step c.loop-node.node c.args.works.now c.index-works-node.result own c.loop-node-test.true c.index-works-node.is c.in-Some.kind (sym c.fault.ensures.fault ∙ c.in-Some.is))

pub returns-in-Some-clause-stepped : goal.returns-in-Some-clause-stepped
returns-in-Some-clause-stepped c = λ run step own none. absurd (none-some _ (sym none))

pub loop-node-preserved : goal.loop-node-preserved
loop-node-preserved c = record {
  fault = λ run step own.
      c.loop-node.invariant.fault run step own ∙ no_fault_here run step c.loop-node.node c.args.works.now c.index-works-node.result own c.loop-node-test.true c.index-works-node.is (sym c.fault.ensures.fault ∙ c.in-None.is);
  stepped = λ run step own.
      stepped_more run step c.loop-node.node c.args.works.now c.index-works-node.result own c.loop-node-test.true c.index-works-node.is c.fault.ensures.stepped (c.loop-node.invariant.stepped run step own);
}

pub returns-clause-fault : goal.returns-clause-fault
returns-clause-fault c = λ run step own.
    let t = c.loop-node-test.false in
    let b = count_works run step (length run.plan.nodes) c.args.works.now own in
    sym (c.loop-node.invariant.fault run step own ∙ no_fault_left run step c.loop-node.node (omega arith))

pub returns-clause-stepped : goal.returns-clause-stepped
returns-clause-stepped c = λ run step own none node within.
    let t = c.loop-node-test.false in
    let b = count_works run step (length run.plan.nodes) c.args.works.now own in
    c.loop-node.invariant.stepped run step own node (omega (arith, t, b, within))
