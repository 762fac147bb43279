-- What a node keeps may go to another thread: its operator, and its table, which others may hold too. A run may be shared.
use denote.Param.Send.{IsSend, IsSync, sendable}
use Rattle.operators.proofs.Each.{operator_send}
use Rattle.std.proofs.Crossing as crossing
use Rattle.std.proofs.MapsCrossing as maps
use Rattle.tick_model.proofs.plan.Expr.TheLaws.TheKnot as expr
use Rattle.tick_model.proofs.plan.Pred.TheLaws.TheKnot as pred
use Rattle.tick_model.specs.contracts.feed.Run as run
use Rattle.tick_table.specs.contracts.table.TickTable as table

pub table_send : IsSend table.the_row
table_send = search (sendable, crossing.crosses, maps.crosses) depth 60 fits 20000

pub table_sync : IsSync table.the_row
table_sync = search (sendable, crossing.crosses, maps.crosses) depth 60 fits 20000

pub run_sync : IsSync run.the_row
run_sync = search (expr.crosses, pred.crosses, maps.crosses, crossing.crosses, sendable) depth 60 fits 20000

pub ruleset sent = (operator_send, table_send, table_sync, crossing.crosses, sendable)
