use Rattle.tick_laws.{proofs.EvalNodes.{length_outcomes, outcome_is}, proofs.Paired.no_node}
use Rattle.tick_laws.proofs.nodes.nodes_apply_their_operators.Goals as goal

pub returns-clause-count : goal.returns-clause-count
returns-clause-count c plan sources = length_outcomes plan.nodes no_node sources

pub returns-clause-each : goal.returns-clause-each
returns-clause-each c plan sources lesser node d = outcome_is plan.nodes d sources (λ n. lesser n d) node
