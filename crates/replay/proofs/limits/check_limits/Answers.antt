use Rattle.std.proofs.Common.{◌≡◌, ◌+◌, ◌≤◌, ◌<◌, ◌^◌, ◌∙◌, refl, ap, sym, subst, arith, rules, length, get_or, ℕ, Option}
use Rattle.std.specs.Prelude.{IfNone}
use Rattle.replay.{specs.Causes.rows_in, proofs.PublishedTables.{item_is, no_publication, tables_few}, proofs.TablesInTurn.{limit_here, node_within, none_left, one_past, one_within}}
use Rattle.replay.proofs.limits.check_limits.Goals as goal

pub loop-number-init : goal.loop-number-init
loop-number-init c = refl

pub past_limit-requires : goal.past_limit-requires
past_limit-requires c =
    node_within c.args.graph.now.run c.args.graph.now.step c.loop-number.number c.args.published.now (get_or c.args.published.now c.loop-number.number no_publication) c.requires c.loop-number-test.true (item_is c.args.published.now c.loop-number.number no_publication c.loop-number-test.true) c.step-step.ensures.lawful

pub overflow_cast-result : goal.overflow_cast-result
overflow_cast-result c =
    let few = tables_few c.args.graph.now.run c.step-step.ensures.lawful in
    let same : length c.args.published.now ≡ length c.args.graph.now.run.plan.published = ap length c.requires in
    let small : c.loop-number.number < 2 ^ 32 = omega (arith, few, c.loop-number-test.true, same) in
    search rules

pub returns-in-Some-clause-past : goal.returns-in-Some-clause-past
returns-in-Some-clause-past c =
    let run = c.args.graph.now.run in
    let step = c.args.graph.now.step in
    let full = c.in-Some.ensures.past in (
      c.step-step.ensures.step,
      one_past run step c.loop-number.number c.args.published.now (get_or c.args.published.now c.loop-number.number no_publication) c.requires c.loop-number-test.true (item_is c.args.published.now c.loop-number.number no_publication c.loop-number-test.true) c.in-Some.rows full.0 (subst (λ n. (get_or c.args.published.now c.loop-number.number no_publication).limit < n) (sym full.0) full.2) c.loop-number.invariant,
      full.1 ∙ limit_here run step c.loop-number.number c.args.published.now (get_or c.args.published.now c.loop-number.number no_publication) c.requires c.loop-number-test.true (item_is c.args.published.now c.loop-number.number no_publication c.loop-number-test.true),
    )

pub loop-number-preserved : goal.loop-number-preserved
loop-number-preserved c =
    let run = c.args.graph.now.run in
    let step = c.args.graph.now.step in
    let few : rows_in c.args.graph.now (get_or c.args.published.now c.loop-number.number no_publication) ≤ (get_or c.args.published.now c.loop-number.number no_publication).limit =
    subst (λ (r : Option (ℕ × ℕ)). IfNone r (rows_in c.args.graph.now (get_or c.args.published.now c.loop-number.number no_publication) ≤ (get_or c.args.published.now c.loop-number.number no_publication).limit)) c.in_default.is c.past_limit.ensures.within in
    c.loop-number.invariant ∙ one_within run step c.loop-number.number c.args.published.now (get_or c.args.published.now c.loop-number.number no_publication) c.requires c.loop-number-test.true (item_is c.args.published.now c.loop-number.number no_publication c.loop-number-test.true) few

pub returns-clause-within : goal.returns-clause-within
returns-clause-within c =
    none_left c.args.graph.now.run c.args.graph.now.step c.loop-number.number c.args.published.now c.requires (omega (arith, c.loop-number-test.false)) c.loop-number.invariant
