use Rattle.std.proofs.Common.{ap, sym, ◌∙◌, arith, length, get_or}
use Rattle.std.proofs.lemmas.List.{get_or_default}
use Rattle.tick_laws.proofs.LawfulPlans.{columns_at-node}
use Rattle.tick_model.specs.declared.plan.Node.{Node}
use Rattle.update_graph.{specs.Tags.no_node, proofs.PlanLimits.width_at}
use Rattle.update_graph.proofs.opening.width_of.Goals as goal

pub returns-clause-width : goal.returns-clause-width
returns-clause-width c =
    let nodes = c.args.run.now.plan.nodes in
    let own = c.index-as_slice-node.is ∙ ap (λ all. get_or all c.args.node c.index-as_slice-node.result) c.as_slice.ensures ∙ get_or_default nodes c.args.node c.index-as_slice-node.result no_node c.requires.node in
    c.len.ensures ∙ ap (λ (node : Node). length node.columns) own ∙ ap length (sym (columns_at-node nodes no_node c.args.node c.requires.node))

pub returns-clause-some : goal.returns-clause-some
returns-clause-some c =
    let nodes = c.args.run.now.plan.nodes in
    let own = c.index-as_slice-node.is ∙ ap (λ all. get_or all c.args.node c.index-as_slice-node.result) c.as_slice.ensures ∙ get_or_default nodes c.args.node c.index-as_slice-node.result no_node c.requires.node in
    let same = c.len.ensures ∙ ap (λ (node : Node). length node.columns) own in
    let some = (width_at c.args.run.now c.requires.lawful c.args.node c.requires.node).some in
    omega arith

pub returns-clause-few : goal.returns-clause-few
returns-clause-few c =
    let nodes = c.args.run.now.plan.nodes in
    let own = c.index-as_slice-node.is ∙ ap (λ all. get_or all c.args.node c.index-as_slice-node.result) c.as_slice.ensures ∙ get_or_default nodes c.args.node c.index-as_slice-node.result no_node c.requires.node in
    let same = c.len.ensures ∙ ap (λ (node : Node). length node.columns) own in
    let few = (width_at c.args.run.now c.requires.lawful c.args.node c.requires.node).few in
    omega arith

pub overflow_cast-result : goal.overflow_cast-result
overflow_cast-result c =
    let nodes = c.args.run.now.plan.nodes in
    let own = c.index-as_slice-node.is ∙ ap (λ all. get_or all c.args.node c.index-as_slice-node.result) c.as_slice.ensures ∙ get_or_default nodes c.args.node c.index-as_slice-node.result no_node c.requires.node in
    let same = c.len.ensures ∙ ap (λ (node : Node). length node.columns) own in
    let few = (width_at c.args.run.now c.requires.lawful c.args.node c.requires.node).few in
    omega arith
