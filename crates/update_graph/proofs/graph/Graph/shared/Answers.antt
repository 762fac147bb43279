use Rattle.std.proofs.Common.{ap, sym, ◌≡◌, ◌∙◌, subst, ◌<◌, arith, true, length}
use Rattle.update_graph.{specs.Entered.IsEntered, specs.Graphs.{AreSources, GraphView}, specs.Stands.{is_defined, shown}, specs.Tags.Tag}
use Rattle.update_graph.proofs.graph.Graph.shared.Goals as goal

pub table-requires-clause-entered : goal.table-requires-clause-entered
table-requires-clause-entered c =
    let is = c.self.invariant in
    subst (λ (t : Tag). IsEntered t.run t.step) (sym c.work.ensures.work)
    (subst (λ (v : GraphView). IsEntered v.run v.step) c.self.view_is (record { lawful = is.lawful; within = is.within; batches = is.reached.batches; nodes = λ s below. is.reached.nodes s (omega (arith, below)) }))

pub table-requires-clause-node : goal.table-requires-clause-node
table-requires-clause-node c = subst (λ (t : Tag). t.node < length t.run.plan.nodes) (sym c.work.ensures.work) c.requires

pub table-requires-clause-defined : goal.table-requires-clause-defined
table-requires-clause-defined c = subst (λ (t : Tag). is_defined t.run t.step t.node ≡ true) (sym c.work.ensures.work) c.work.ensures.defined

pub table-requires-clause-sources : goal.table-requires-clause-sources
table-requires-clause-sources c =
    subst (λ (t : Tag). AreSources t.run t.step c.deref.result.now) (sym c.work.ensures.work)
    (subst (λ (v : GraphView). AreSources v.run v.step c.deref.result.now) c.self.view_is (subst (AreSources c.self.inside.run.value c.self.inside.step) (sym c.deref.ensures.value) c.self.invariant.base_is.sources))

pub returns : goal.returns
returns c = c.table.ensures ∙ ap (λ (t : Tag). shown t.run t.step t.node) c.work.ensures.work
