use Rattle.std.proofs.Common.{◌≡◌, ap, sym, subst, ◌∙◌, ◌+◌, ◌-◌, ◌<◌, arith, length}
use Rattle.table_operator.specs.Inputs.{news, tables}
use Rattle.tick_laws.specs.Reached.{IsReached}
use Rattle.tick_model.specs.LawfulRuns.{IsLawfulRun}
use Rattle.update_graph.{specs.Graphs.{GraphView, IsBase}, specs.Tags.tags, proofs.Batches.{sources_new, sources_old}}
use Rattle.update_graph.proofs.graph.Graph.take_batch.Goals as goal

pub changes_of-requires-clause-lawful : goal.changes_of-requires-clause-lawful
changes_of-requires-clause-lawful c = subst IsLawfulRun (ap (λ (v : GraphView). v.run) c.self.view_is ∙ c.requires.run) c.self.invariant.lawful

pub changes_of-requires-clause-reached : goal.changes_of-requires-clause-reached
changes_of-requires-clause-reached c = subst (λ run. IsReached run c.self.inside.step) (ap (λ (v : GraphView). v.run) c.self.view_is ∙ c.requires.run) c.self.invariant.reached

pub changes_of-requires-clause-step : goal.changes_of-requires-clause-step
changes_of-requires-clause-step c = c.requires.step ∙ ap (λ (v : GraphView). v.step + 1) (sym c.self.view_is)

pub changes_of-requires-clause-next : goal.changes_of-requires-clause-next
changes_of-requires-clause-next c = subst (λ (v : GraphView). v.step < length c.args.context.now.run.now.batches) (sym c.self.view_is) c.requires.next

pub changes_of-requires-clause-keys : goal.changes_of-requires-clause-keys
changes_of-requires-clause-keys c = (subst (λ run. IsBase run c.self.inside.step c.self.inside.base) (ap (λ (v : GraphView). v.run) c.self.view_is ∙ c.requires.run) c.self.invariant.base_is).keys

pub changes_of-requires-clause-sources : goal.changes_of-requires-clause-sources
changes_of-requires-clause-sources c = ap tables c.deref.ensures.value ∙ (subst (λ run. IsBase run c.self.inside.step c.self.inside.base) (ap (λ (v : GraphView). v.run) c.self.view_is ∙ c.requires.run) c.self.invariant.base_is).sources

pub changed_sources-requires-clause-sources : goal.changed_sources-requires-clause-sources
changed_sources-requires-clause-sources c =
    let run = c.args.context.now.run.now in
    let base = subst (λ run. IsBase run c.self.inside.step c.self.inside.base) (ap (λ (v : GraphView). v.run) c.self.view_is ∙ c.requires.run) c.self.invariant.base_is in
    ap news base.sources
    ∙ sources_new run c.self.inside.step
    ∙ sym (sources_old run c.self.inside.step c.args.context.now.step (c.requires.step ∙ ap (λ (v : GraphView). v.step + 1) (sym c.self.view_is)) c.in_ok-changes.ensures.entered)

pub returns-clause-base : goal.returns-clause-base
returns-clause-base c =
    let base = subst (λ run. IsBase run c.self.inside.step c.self.inside.base) (ap (λ (v : GraphView). v.run) c.self.view_is ∙ c.requires.run) c.self.invariant.base_is in
    record { edges = base.edges; keys = c.in_ok-changes.ensures.keys; sources = c.in_ok-base.ensures }

pub returns-clause-works : goal.returns-clause-works
returns-clause-works c =
    let run = c.args.context.now.run.now in
    let same : c.self.inside.step ≡ c.args.context.now.step - 1 = let is = c.requires.step ∙ ap (λ (v : GraphView). v.step + 1) (sym c.self.view_is) in omega (arith, is) in
    c.self.invariant.works_are ∙ ap (λ run. tags run c.self.inside.step (length run.plan.nodes)) (ap (λ (v : GraphView). v.run) c.self.view_is ∙ c.requires.run) ∙ ap (λ k. tags run k (length run.plan.nodes)) same

pub returns-clause-reads : goal.returns-clause-reads
returns-clause-reads c = ap (λ (v : GraphView). v.reads) c.self.view_is
