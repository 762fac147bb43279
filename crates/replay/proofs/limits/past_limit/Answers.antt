use Rattle.std.proofs.Common.{◌≡◌, ◌<◌, ◌≤◌, ◌∙◌, sym, subst, arith}
use Rattle.replay.{specs.Causes.rows_in, proofs.TablesInTurn.rows_now}
use Rattle.replay.proofs.limits.past_limit.Goals as goal

pub returns-then-rows-limit-clause-past : goal.returns-then-rows-limit-clause-past
returns-then-rows-limit-clause-past c =
    let graph = c.args.graph.now in
    let at = c.step-step.ensures in
    let rows : c.len-rows.result ≡ rows_in graph c.args.table.now = rows_now graph.run at.lawful graph.step at.reached c.args.table.now.node c.requires c.table.result.now c.rows.result.now c.len-rows.result c.table.ensures c.rows.ensures.keys c.len-rows.ensures.count in
    (rows, c.from-limit.ensures, omega (arith, rows, c.from-limit.ensures, c.if-rows-limit.true))

pub returns-else-rows-limit-clause-within : goal.returns-else-rows-limit-clause-within
returns-else-rows-limit-clause-within c =
    let graph = c.args.graph.now in
    let at = c.step-step.ensures in
    let rows : c.len-rows.result ≡ rows_in graph c.args.table.now = rows_now graph.run at.lawful graph.step at.reached c.args.table.now.node c.requires c.table.result.now c.rows.result.now c.len-rows.result c.table.ensures c.rows.ensures.keys c.len-rows.ensures.count in
    omega (arith, rows, c.from-limit.ensures, c.if-rows-limit.false)
