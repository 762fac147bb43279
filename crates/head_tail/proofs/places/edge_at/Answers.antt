use Rattle.std.proofs.Common.{ap, sym, ◌∙◌, subst, ℕ, ◌<◌, ◌≤◌, ◌^◌, take, drop, Option}
use Rattle.std.{specs.Prelude.unwrap_or, specs.List.AllByRecursion}
use Rattle.head_tail.proofs.Positions.{edge_is}
use Rattle.head_tail.proofs.places.edge_at.Goals as goal

pub returns-clause-before : goal.returns-clause-before
returns-clause-before c =
    subst (λ edge. AllByRecursion (λ key. key < edge) (take c.args.position c.args.keys.now)) (sym (c.unwrap_or.ensures ∙ ap (λ (key : Option ℕ). unwrap_or key (2 ^ 62)) c.get.ensures.key))
    (edge_is c.args.position (2 ^ 62) c.args.keys.now c.get.ensures.keys.rising c.get.ensures.keys.small).before

pub returns-clause-from : goal.returns-clause-from
returns-clause-from c =
    subst (λ edge. AllByRecursion (λ key. edge ≤ key) (drop c.args.position c.args.keys.now)) (sym (c.unwrap_or.ensures ∙ ap (λ (key : Option ℕ). unwrap_or key (2 ^ 62)) c.get.ensures.key))
    (edge_is c.args.position (2 ^ 62) c.args.keys.now c.get.ensures.keys.rising c.get.ensures.keys.small).from
