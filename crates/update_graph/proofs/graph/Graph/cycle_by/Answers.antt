use Rattle.std.proofs.Common.{sym, subst, ◌+◌, ◌-◌, ◌≤◌, length}
use Rattle.update_graph.{specs.Graphs.{GraphView, SteppedOnce, most_in, read_in}, specs.Tags.all_reads, proofs.ClaimedWorks.count_works, proofs.Counting.all_within, proofs.Following.all_once}
use Rattle.update_graph.proofs.graph.Graph.cycle_by.Goals as goal

pub returns-clause-reads : goal.returns-clause-reads
returns-clause-reads g c =
    let run = c.args.run.now in
    let reads = c.in_ok-graph.graph.reads in
    subst (λ (v : GraphView). read_in run (v.step + 1) reads ≤ most_in run (v.step + 1)) c.self.view_is (all_within run (c.self.inside.step + 1) reads c.in_ok-graph.ensures.reached.stepped)

pub returns-clause-steps : goal.returns-clause-steps
returns-clause-steps g c =
    let run = c.args.run.now in
    let step = c.self.inside.step + 1 in
    let works = c.in_ok-base.works.items in
    subst (λ reads. SteppedOnce run reads c.in_ok-graph.graph.reads) c.in_ok-base.ensures.reads
    (subst (SteppedOnce run (all_reads works)) (sym c.in_ok-graph.ensures.reads)
    (all_once run step works c.in_ok-works.works.items c.in_ok-base.ensures.entered c.in_ok-graph.ensures.reached.nodes (count_works run (step - 1) (length run.plan.nodes) works c.in_ok-base.ensures.works) c.in_ok-works.ensures.works c.in_ok-works.ensures.follows))
