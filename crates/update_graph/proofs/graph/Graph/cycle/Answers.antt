use Rattle.std.proofs.Common.{sym, subst, ◌+◌, ◌-◌, ◌≤◌, length}
use Rattle.update_graph.{specs.Graphs.{GraphView, SteppedOnce, most_in, read_in}, specs.Tags.all_reads, proofs.ClaimedWorks.count_works, proofs.Counting.all_within, proofs.Following.all_once, proofs.Sweeping.{numbers_in_order, ran_once}}
use Rattle.update_graph.proofs.graph.Graph.cycle.Goals as goal

pub finished-requires-clause-works : goal.finished-requires-clause-works
finished-requires-clause-works g c = c.in_ok-sweep.ensures.swept.works

pub finished-requires-clause-once : goal.finished-requires-clause-once
finished-requires-clause-once g c = ran_once c.args.run.now c.in_ok-sweep.sweep.ran.items c.in_ok-sweep.ensures.swept.ran

pub finished-requires-clause-order : goal.finished-requires-clause-order
finished-requires-clause-order g c = numbers_in_order c.args.run.now c.in_ok-base.ensures.entered.lawful c.in_ok-sweep.sweep.ran.items c.in_ok-sweep.ensures.swept.ran

pub returns-clause-reads : goal.returns-clause-reads
returns-clause-reads g c =
    let run = c.args.run.now in
    let reads = c.in_ok-graph.graph.reads in
    subst (λ (v : GraphView). read_in run (v.step + 1) reads ≤ most_in run (v.step + 1)) c.self.view_is (all_within run (c.self.inside.step + 1) reads c.in_ok-graph.ensures.reached.stepped)

pub returns-clause-steps : goal.returns-clause-steps
returns-clause-steps g c =
    let run = c.args.run.now in
    let step = c.self.inside.step + 1 in
    let works = c.in_ok-base.works.items in
    subst (λ reads. SteppedOnce run reads c.in_ok-graph.graph.reads) c.in_ok-base.ensures.reads
    (subst (SteppedOnce run (all_reads works)) (sym c.in_ok-graph.ensures.reads)
    (all_once run step works c.in_ok-sweep.sweep.works.items c.in_ok-base.ensures.entered c.in_ok-graph.ensures.reached.nodes (count_works run (step - 1) (length run.plan.nodes) works c.in_ok-base.ensures.works) c.in_ok-sweep.ensures.swept.works c.in_ok-sweep.ensures.follows))
