use Rattle.std.proofs.Common.{ap, sym, ◌≡◌, ◌∙◌, subst, ◌+◌, true}
use Rattle.update_graph.{specs.Stands.{HasStepped, is_defined}, specs.Tags.{Tag, is_operator, op_at}}
use Rattle.update_graph.proofs.graph.Graph.operator.Goals as goal

pub operator-requires-clause-operator : goal.operator-requires-clause-operator
operator-requires-clause-operator c = subst (λ (t : Tag). is_operator t.run t.node ≡ true) (sym c.work.ensures.work) c.requires.operator

pub operator-requires-clause-defined : goal.operator-requires-clause-defined
operator-requires-clause-defined c = subst (λ (t : Tag). is_defined t.run t.step t.node ≡ true) (sym c.work.ensures.work) c.work.ensures.defined

pub returns-clause-op : goal.returns-clause-op
returns-clause-op c = c.operator.ensures.op ∙ ap (λ (t : Tag). op_at t.run t.node) c.work.ensures.work

pub returns-clause-stepped : goal.returns-clause-stepped
returns-clause-stepped c = subst (λ (t : Tag). HasStepped t.run (t.step + 1) t.node c.operator.result.now.reads) c.work.ensures.work c.operator.ensures.stepped
