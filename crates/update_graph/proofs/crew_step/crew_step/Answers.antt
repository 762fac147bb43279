use Rattle.std.proofs.Common.{◌≡◌, ◌∙◌, ◌-◌, ap, sym, subst, length, map}
use Rattle.update_graph.{specs.Stands.{Follows, ForEach}, specs.Tags.{named, operators, tags}, proofs.ClaimedWorks.no_nodes, proofs.Sweeping.{numbers_in_order, ran_once}}
use Rattle.update_graph.proofs.crew_step.crew_step.Goals as goal

pub returns-then-is_empty-clause-ran : goal.returns-then-is_empty-clause-ran
returns-then-is_empty-clause-ran g c =
    let run = c.args.context.now.at.run.now in
    let works = c.args.works in
    let none = no_nodes run (c.args.context.now.at.step - 1) (length run.plan.nodes) _ works.items c.requires.works works.ok.0 (sym c.if-is_empty.ensures) in
    ran_once run c.new.result.items (c.new.ensures.items ∙ ap (operators run) none)

pub returns-then-is_empty-clause-order : goal.returns-then-is_empty-clause-order
returns-then-is_empty-clause-order g c =
    let run = c.args.context.now.at.run.now in
    let works = c.args.works in
    let none = no_nodes run (c.args.context.now.at.step - 1) (length run.plan.nodes) _ works.items c.requires.works works.ok.0 (sym c.if-is_empty.ensures) in
    numbers_in_order run c.requires.entered.lawful c.new.result.items (c.new.ensures.items ∙ ap (operators run) none)

pub returns-clause-follows : goal.returns-clause-follows
returns-clause-follows g c = subst (λ olds. ForEach Follows olds c.in_ok-works.works.items) c.in_ok-claims.ensures.works c.in_ok-works.ensures.follows

pub returns-clause-works : goal.returns-clause-works
returns-clause-works g c =
    let run = c.args.context.now.at.run.now in
    subst (λ k. map named c.in_ok-works.works.items ≡ tags run k (length run.plan.nodes)) (sym c.in_ok-claims.ensures.step) c.in_ok-works.ensures.works
