use Rattle.std.proofs.Common.{rules, ◌≡◌, ◌-◌, ◌^◌, ◌<◌, ◌≤◌, ◌∙◌, sym, ap, subst, arith, length}
use lib.ListN.{get_elem?}
use Rattle.update_graph.{proofs.ClaimedWorks.{claimed, count_works, whole_works, works_tagged}, proofs.PlanEdges.{edge_ends, few_edges}, proofs.PlanLimits.few_nodes, proofs.WorkSent.sent}
use Rattle.update_graph.proofs.crew_step.begin_step.Goals as goal

pub overflow_cast-nodes : goal.overflow_cast-nodes
overflow_cast-nodes c =
    let run = c.args.context.now.run.now in
    let many : c.len-nodes.result ≡ length c.args.works.items = c.len-nodes.ensures ∙ c.args.works.ok.0 in
    let all = count_works run (c.args.context.now.step - 1) (length run.plan.nodes) c.args.works.items c.requires.works in
    let most = few_nodes run c.requires.entered.lawful in
    let small : c.len-nodes.result ≤ 256 = omega (arith, many, all, most) in
    search rules

pub start-requires-clause-nodes : goal.start-requires-clause-nodes
start-requires-clause-nodes c κs =
    let run = c.args.context.now.run.now in
    let many : c.len-nodes.result ≡ length c.args.works.items = c.len-nodes.ensures ∙ c.args.works.ok.0 in
    let all = count_works run (c.args.context.now.step - 1) (length run.plan.nodes) c.args.works.items c.requires.works in
    let most = few_nodes run c.requires.entered.lawful in
    let some_work = c.requires.some in
    let some_node : 0 < c.len-nodes.result = omega (arith, many, some_work) in
    let small : c.len-nodes.result ≤ 256 = omega (arith, many, all, most) in
    (some_node, small, sym many)

pub start-requires-clause-tagged : goal.start-requires-clause-tagged
start-requires-clause-tagged c κs =
    let run = c.args.context.now.run.now in
    works_tagged run (c.args.context.now.step - 1) c.args.works.items (whole_works run (c.args.context.now.step - 1) (length run.plan.nodes) c.args.works.items c.requires.works)

pub start-requires-clause-edges : goal.start-requires-clause-edges
start-requires-clause-edges c κs =
    let run = c.args.context.now.run.now in
    let lawful = c.requires.entered.lawful in
    let same = c.in_ok-own.ensures ∙ c.requires.edges in
    let count : c.len-nodes.result ≡ length run.plan.nodes = c.len-nodes.ensures ∙ c.args.works.ok.0 ∙ count_works run (c.args.context.now.step - 1) (length run.plan.nodes) c.args.works.items c.requires.works in (
      subst (λ l. length l < 2 ^ 32) (sym same) (few_edges run lawful),
      λ e x there.
          let ends = edge_ends run lawful e x (ap (λ l. get_elem? l e) (sym same) ∙ there) in
          (ends.0, subst (λ k. x.to < k) (sym count) ends.1),
    )

pub returns-clause-claimed : goal.returns-clause-claimed
returns-clause-claimed c =
    let run = c.args.context.now.run.now in
    let plan = c.in_ok-claims.claims.plan in
    let works = c.args.works.items in
    let told = c.in_ok-claims.ensures.plan in
    let count : c.len-nodes.result ≡ length run.plan.nodes = c.len-nodes.ensures ∙ c.args.works.ok.0 ∙ count_works run (c.args.context.now.step - 1) (length run.plan.nodes) works c.requires.works in
    (claimed run c.args.context.now.step works plan c.requires.entered c.requires.later (whole_works run (c.args.context.now.step - 1) (length run.plan.nodes) works c.requires.works) told.2 (told.0 ∙ count) (told.1 ∙ c.in_ok-own.ensures ∙ c.requires.edges)).0

pub returns-clause-step : goal.returns-clause-step
returns-clause-step c =
    let run = c.args.context.now.run.now in
    let plan = c.in_ok-claims.claims.plan in
    let works = c.args.works.items in
    let told = c.in_ok-claims.ensures.plan in
    let count : c.len-nodes.result ≡ length run.plan.nodes = c.len-nodes.ensures ∙ c.args.works.ok.0 ∙ count_works run (c.args.context.now.step - 1) (length run.plan.nodes) works c.requires.works in
    (claimed run c.args.context.now.step works plan c.requires.entered c.requires.later (whole_works run (c.args.context.now.step - 1) (length run.plan.nodes) works c.requires.works) told.2 (told.0 ∙ count) (told.1 ∙ c.in_ok-own.ensures ∙ c.requires.edges)).1

pub start-requires-send-W : goal.start-requires-send-W
start-requires-send-W c κs = search sent depth 60 fits 20000
