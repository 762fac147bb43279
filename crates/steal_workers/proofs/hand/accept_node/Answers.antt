use Rattle.std.proofs.Common.{rules, ◌≡◌, ◌<◌, ◌∙◌, ℕ, sym, ap, arith, false}
use Rattle.graph_words.specs.Views.{gets}
use Rattle.steal_workers.proofs.Holding.{accepted_held, accepted_on, inputs_none, inputs_some}
use Rattle.steal_workers.proofs.hand.accept_node.Goals as goal

none_some : (k : ℕ) → k ≡ 0 → 0 < k → ⊥
none_some k none input = omega (arith, none, input)

pub returns-then-not-has_inputs-clause-alone : goal.returns-then-not-has_inputs-clause-alone
returns-then-not-has_inputs-clause-alone g c = λ within input all delivered.
    let none : c.has_inputs.result ≡ false = search rules in
    absurd (none_some _ (inputs_none c.args.number c.args.claims.now.plan.edges.items (sym c.has_inputs.ensures ∙ none)) input)

pub returns-then-accept-clause-held : goal.returns-then-accept-clause-held
returns-then-accept-clause-held g c =
    let plan = c.args.claims.now.plan in
    let fresh = c.accept.ensures.fresh c.if-accept.true in
    let within : c.args.number < plan.nodes = search rules in
    let input = inputs_some c.args.number plan.edges.items (sym c.has_inputs.ensures ∙ search rules) in
    accepted_held plan c.args.seat.now.view c.accept.new.seat.view c.args.number c.requires.held (c.accept.ensures.view ∙ ap (λ b. gets b c.args.number c.args.seat.now.view) c.if-accept.true) fresh.0 fresh.1 within input

pub returns-then-accept-clause-on : goal.returns-then-accept-clause-on
returns-then-accept-clause-on g c =
    let fresh = c.accept.ensures.fresh c.if-accept.true in
    accepted_on c.args.claims.now.plan c.args.seat.now.view c.accept.new.seat.view c.args.number (c.accept.ensures.view ∙ ap (λ b. gets b c.args.number c.args.seat.now.view) c.if-accept.true) fresh.0
