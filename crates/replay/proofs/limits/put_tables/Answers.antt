use Rattle.std.proofs.Common.{◌≡◌, ◌+◌, ◌≤◌, ◌<◌, ◌^◌, ◌∙◌, refl, ap, sym, subst, arith, rules, length, get_or, Result}
use Rattle.std.specs.Prelude.{MatchResult}
use Rattle.snapshot_store.{specs.Answers.IsFull, specs.declared.answers.Full.Full, specs.declared.writers.Phase.TheVariants.{Begun, Stopped}, specs.Lines.count}
use Rattle.tick_model.specs.declared.feed.Run.{Run}
use Rattle.replay.{specs.Causes.rows_in, proofs.PublishedTables.{item_is, no_publication, tables_few}, proofs.TablesInTurn.{limit_here, none_left, number_within, one_past, one_within}}
use Rattle.replay.proofs.limits.put_tables.Goals as goal

pub overflow_cast-number : goal.overflow_cast-number
overflow_cast-number c =
    let few = tables_few c.args.graph.now.run c.step-step.ensures.lawful in
    let same : length c.args.published.now ≡ length c.args.graph.now.run.plan.published = ap length c.requires.published in
    let small : c.loop-number.number < 2 ^ 32 = omega (arith, few, c.loop-number-test.true, same) in
    search rules

pub overflow_cast-result : goal.overflow_cast-result
overflow_cast-result c =
    let few = tables_few c.args.graph.now.run c.step-step.ensures.lawful in
    let same : length c.args.published.now ≡ length c.args.graph.now.run.plan.published = ap length c.requires.published in
    let small : c.loop-number.number < 2 ^ 32 = omega (arith, few, c.loop-number-test.true, same) in
    search rules

pub put_table-requires-clause-number : goal.put_table-requires-clause-number
put_table-requires-clause-number c =
    subst (λ (of : Run). c.loop-number.number < count of) (sym c.requires.run)
    (number_within c.args.graph.now.run c.args.graph.now.step c.loop-number.number c.args.published.now (get_or c.args.published.now c.loop-number.number no_publication) c.requires.published c.loop-number-test.true (item_is c.args.published.now c.loop-number.number no_publication c.loop-number-test.true))

pub put_table-requires-clause-table : goal.put_table-requires-clause-table
put_table-requires-clause-table c =
    (item_is c.args.published.now c.loop-number.number no_publication c.loop-number-test.true) ∙ ap (λ all. get_or all c.loop-number.number (get_or c.args.published.now c.loop-number.number no_publication)) c.requires.published

pub returns-clause-within : goal.returns-clause-within
returns-clause-within c =
    none_left c.args.graph.now.run c.args.graph.now.step c.loop-number.number c.args.published.now c.requires.published (omega (arith, c.loop-number-test.false)) c.loop-number.invariant.none

pub returns-in-Err-clause-past : goal.returns-in-Err-clause-past
returns-in-Err-clause-past c =
    let run = c.args.graph.now.run in
    let step = c.args.graph.now.step in
    let full = c.in-Err.ensures.full in (
      c.step-step.ensures.step,
      one_past run step c.loop-number.number c.args.published.now (get_or c.args.published.now c.loop-number.number no_publication) c.requires.published c.loop-number-test.true (item_is c.args.published.now c.loop-number.number no_publication c.loop-number-test.true) c.in-Err.full.rows full.1 (subst (λ n. (get_or c.args.published.now c.loop-number.number no_publication).limit < n) (sym full.1) full.0) c.loop-number.invariant.none,
      full.2 ∙ limit_here run step c.loop-number.number c.args.published.now (get_or c.args.published.now c.loop-number.number no_publication) c.requires.published c.loop-number-test.true (item_is c.args.published.now c.loop-number.number no_publication c.loop-number-test.true),
    )

pub loop-number-preserved : goal.loop-number-preserved
loop-number-preserved c =
    let run = c.args.graph.now.run in
    let step = c.args.graph.now.step in
    let few : rows_in c.args.graph.now (get_or c.args.published.now c.loop-number.number no_publication) ≤ (get_or c.args.published.now c.loop-number.number no_publication).limit =
    subst (λ (r : Result (Unit {0}) Full). MatchResult r (λ _. rows_in c.args.graph.now (get_or c.args.published.now c.loop-number.number no_publication) ≤ (get_or c.args.published.now c.loop-number.number no_publication).limit)
    (IsFull (rows_in c.args.graph.now (get_or c.args.published.now c.loop-number.number no_publication)) (get_or c.args.published.now c.loop-number.number no_publication).limit)) c.in_default.is c.put_table.ensures.full in
    record {
      own = c.put_table.ensures.own;
      step = c.put_table.ensures.step ∙ c.loop-number.invariant.step;
      put = subst (λ (r : Result (Unit {0}) Full). MatchResult r (λ _. c.put_table.new.writer.phase ≡ Begun (c.loop-number.number + 1)) (λ _. c.put_table.new.writer.phase ≡ Stopped)) c.in_default.is c.put_table.ensures.phase;
      none = c.loop-number.invariant.none ∙ one_within run step c.loop-number.number c.args.published.now (get_or c.args.published.now c.loop-number.number no_publication) c.requires.published c.loop-number-test.true (item_is c.args.published.now c.loop-number.number no_publication c.loop-number-test.true) few;
    }
