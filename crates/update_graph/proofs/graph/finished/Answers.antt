use Rattle.std.proofs.Common.{refl, ap, sym, subst, ◌∙◌, ◌+◌, arith, length, map}
use Rattle.tick_laws.proofs.ReachedTables.{reached_tables}
use Rattle.tick_model.{specs.Spoiled.node_fault, specs.States.state}
use Rattle.update_graph.{specs.Graphs.{IsGraph, reads_at}, specs.Stands.HasStepped, specs.Tags.{all_reads, named}, proofs.ClaimedWorks.count_works, proofs.PlanLimits.few_nodes, proofs.Sweeping.{found_fault, found_none, reached_here}}
use Rattle.update_graph.proofs.graph.finished.Goals as goal

pub least_fault-requires : goal.least_fault-requires
least_fault-requires c =
    let run = c.args.context.now.run.now in
    let few = few_nodes run c.requires.entered.lawful in
    let long = count_works run c.args.context.now.step (length run.plan.nodes) c.deref.result.now (ap (map named) c.deref.ensures.value ∙ c.requires.works) in
    omega arith

pub returns-in-Some-clause-cause : goal.returns-in-Some-clause-cause
returns-in-Some-clause-cause c =
    let run = c.args.context.now.run.now in (
      refl,
      c.requires.entered.batches c.args.context.now.step (omega arith),
      found_fault c.least_fault.result (node_fault 0 (state run c.args.context.now.step)) (c.least_fault.ensures.fault run c.args.context.now.step (ap (map named) c.deref.ensures.value ∙ c.requires.works)) c.in-Some.node c.in-Some.kind c.in-Some.is,
    )

pub invariant_of-result : goal.invariant_of-result
invariant_of-result c =
    let run = c.args.context.now.run.now in
    let step = c.args.context.now.step in
    let own = ap (map named) c.deref.ensures.value ∙ c.requires.works in
    let reached = reached_here run step c.requires.entered (found_none c.least_fault.result (node_fault 0 (state run step)) (c.least_fault.ensures.fault run step own) c.in-None.is) in
    subst (λ run. IsGraph run step c.args.base c.args.works.items) (sym c.of.ensures)
    (record {
      lawful = c.requires.entered.lawful;
      within = c.requires.entered.within;
      reached = reached;
      base_is = c.requires.base;
      works_are = c.requires.works;
      stepped = λ node within is.
          subst (λ works. HasStepped run (step + 1) node (reads_at (all_reads works) node)) c.deref.ensures.value (c.least_fault.ensures.stepped run step own c.in-None.is node within is ((reached_tables run c.requires.entered.lawful step reached).each node within));
    })

pub returns-in-None-clause-reached : goal.returns-in-None-clause-reached
returns-in-None-clause-reached c =
    let run = c.args.context.now.run.now in
    let step = c.args.context.now.step in
    let own = ap (map named) c.deref.ensures.value ∙ c.requires.works in
    let fine = found_none c.least_fault.result (node_fault 0 (state run step)) (c.least_fault.ensures.fault run step own) c.in-None.is in
    record {
      of_run = c.of.ensures;
      at_step = refl;
      batch = c.requires.entered.batches step (omega arith);
      nodes = fine;
      once = c.requires.once;
      order = c.requires.order;
      stepped = λ node within is.
          subst (λ works. HasStepped run (step + 1) node (reads_at (all_reads works) node)) c.deref.ensures.value (c.least_fault.ensures.stepped run step own c.in-None.is node within is ((reached_tables run c.requires.entered.lawful step (reached_here run step c.requires.entered fine)).each node within));
    }
