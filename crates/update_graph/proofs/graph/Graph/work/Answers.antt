use Rattle.std.proofs.Common.{ap, sym, ◌≡◌, ◌∙◌, subst, ◌<◌, arith, true, [], length, get_or}
use Rattle.std.proofs.lemmas.List.{get_or-map}
use Rattle.tick_laws.proofs.ReachedTables.{reached_tables}
use Rattle.update_graph.{specs.Graphs.{GraphView, reads_at}, specs.Stands.is_defined, specs.Tags.{Kept, tag}, proofs.ClaimedWorks.count_works, proofs.Sweeping.is_named}
use Rattle.update_graph.proofs.graph.Graph.work.Goals as goal

pub bounds-works-node : goal.bounds-works-node
bounds-works-node c =
    let within = subst (λ (v : GraphView). c.args.node < length v.run.plan.nodes) (sym c.self.view_is) c.requires in
    let long = count_works c.self.inside.run.value c.self.inside.step (length c.self.inside.run.value.plan.nodes) c.self.inside.works.items c.self.invariant.works_are in
    let same = ap length c.as_slice-works.ensures.value in
    omega arith

pub returns-clause-work : goal.returns-clause-work
returns-clause-work c =
    let run = c.self.inside.run.value in
    let within = subst (λ (v : GraphView). c.args.node < length v.run.plan.nodes) (sym c.self.view_is) c.requires in
    let long = count_works run c.self.inside.step (length run.plan.nodes) c.self.inside.works.items c.self.invariant.works_are in
    is_named run c.self.inside.step (length run.plan.nodes) c.args.node c.self.inside.works.items c.index-works-node.result c.self.invariant.works_are (omega arith)
    (c.index-works-node.is ∙ ap (λ all. get_or all c.args.node c.index-works-node.result) c.as_slice-works.ensures.value)
    ∙ ap (λ (v : GraphView). tag v.run v.step c.args.node) c.self.view_is

pub returns-clause-reads : goal.returns-clause-reads
returns-clause-reads c =
    let run = c.self.inside.run.value in
    let works = c.self.inside.works.items in
    let within = subst (λ (v : GraphView). c.args.node < length v.run.plan.nodes) (sym c.self.view_is) c.requires in
    let long = count_works run c.self.inside.step (length run.plan.nodes) works c.self.invariant.works_are in
    ap (λ (work : Kept). work.reads) (c.index-works-node.is ∙ ap (λ all. get_or all c.args.node c.index-works-node.result) c.as_slice-works.ensures.value)
    ∙ sym (get_or-map (λ (work : Kept). work.reads) works c.args.node c.index-works-node.result [] (omega (arith, within, long)))
    ∙ ap (λ (v : GraphView). reads_at v.reads c.args.node) c.self.view_is

pub returns-clause-defined : goal.returns-clause-defined
returns-clause-defined c =
    subst (λ (v : GraphView). is_defined v.run v.step c.args.node ≡ true) c.self.view_is
    ((reached_tables c.self.inside.run.value c.self.invariant.lawful c.self.inside.step c.self.invariant.reached).each c.args.node (subst (λ (v : GraphView). c.args.node < length v.run.plan.nodes) (sym c.self.view_is) c.requires))
