use Rattle.std.proofs.Common.{subst, ◌≤◌}
use Rattle.graph_words.proofs.claims.Claims.bound_nodes.Goals as goal

pub returns : goal.returns
returns g c = subst (λ k. k.plan.nodes ≤ 256) c.self.view_is c.self.invariant.populated.1
