use Rattle.std.proofs.Common.{◌≡◌, ◌+◌, ◌≤◌, ◌<◌, ◌∙◌, refl, ap, sym, subst, length}
use Rattle.std.specs.Prelude.{MatchResult}
use Rattle.snapshot_store.{specs.Answers.IsFull, specs.Lines.{count, limit}}
use Rattle.tick_model.{specs.declared.feed.Run.Run, specs.declared.table.PlainTable.PlainTable}
use Rattle.replay.{specs.Causes.rows_in, proofs.TablesInTurn.{limit_put, node_within, rules_put, table_now, table_put}}
use Rattle.replay.proofs.limits.put_table.Goals as goal

pub table-requires : goal.table-requires
table-requires c =
    let run = c.args.graph.now.run in
    let less : c.args.number < count run = subst (λ (of : Run). c.args.number < count of) c.requires.run c.requires.number in
    node_within run c.args.graph.now.step c.args.number run.plan.published c.args.table.now refl less c.requires.table c.step-step.ensures.lawful

pub put-requires-clause-rules : goal.put-requires-clause-rules
put-requires-clause-rules c =
    rules_put c.args.graph.now.run c.args.graph.now.step c.step-step.ensures.reached c.args.store.now.run c.args.writer.now.step c.requires.run c.requires.step

pub put-requires-clause-table : goal.put-requires-clause-table
put-requires-clause-table c =
    let run = c.args.graph.now.run in
    let less : c.args.number < count run = subst (λ (of : Run). c.args.number < count of) c.requires.run c.requires.number in
    table_put run c.args.graph.now.step c.args.number run.plan.published c.args.table.now refl less c.requires.table c.step-step.ensures.lawful c.step-step.ensures.reached c.args.store.now.run c.args.writer.now.step c.requires.run c.requires.step
    c.table.result.now c.table.ensures

pub returns-clause-full : goal.returns-clause-full
returns-clause-full c =
    let run = c.args.graph.now.run in
    let at = c.step-step.ensures in
    let table = c.args.table.now in
    let less : c.args.number < count run = subst (λ (of : Run). c.args.number < count of) c.requires.run c.requires.number in
    let there = node_within run c.args.graph.now.step c.args.number run.plan.published table refl less c.requires.table at.lawful in
    let rows : length c.table.result.now.new.rows ≡ rows_in c.args.graph.now table = ap (λ (of : PlainTable). length of.rows) (table_now run at.lawful c.args.graph.now.step at.reached table.node there c.table.result.now c.table.ensures) in
    let most : limit c.args.store.now.run c.args.number ≡ table.limit = limit_put run c.args.graph.now.step c.args.number run.plan.published table refl less c.requires.table c.args.store.now.run c.requires.run in
    subst (λ n. MatchResult c.put.result (λ _. rows_in c.args.graph.now table ≤ n) (IsFull (rows_in c.args.graph.now table) n)) most
    (subst (λ n. MatchResult c.put.result (λ _. n ≤ limit c.args.store.now.run c.args.number) (IsFull n (limit c.args.store.now.run c.args.number))) rows c.put.ensures.full)
