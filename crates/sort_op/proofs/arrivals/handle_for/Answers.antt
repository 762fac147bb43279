use Rattle.std.proofs.Common.{sym}
use Rattle.row_handles.proofs.Laws.{key_under_handle}
use Rattle.sort_op.proofs.Entering.{among_same, came_keys, came_others, came_own, came_rising}
use Rattle.sort_op.proofs.arrivals.handle_for.Goals as goal

pub returns-in-Some-clause-own : goal.returns-in-Some-clause-own
returns-in-Some-clause-own c = key_under_handle c.args.key c.in-Some.handle c.args.handles.now c.in-Some.ensures.rows (sym c.in-Some.ensures.handle)

pub returns-in-Some-clause-keys : goal.returns-in-Some-clause-keys
returns-in-Some-clause-keys c = λ other. among_same c.args.key c.in-Some.handle other c.args.handles.now (sym c.in-Some.ensures.handle)

pub returns-in-None-clause-own : goal.returns-in-None-clause-own
returns-in-None-clause-own c = came_own c.add.result c.args.key c.args.handles.now c.add.new.self c.add.ensures.rows c.add.ensures.fresh

pub returns-in-None-clause-others : goal.returns-in-None-clause-others
returns-in-None-clause-others c = came_others c.add.result c.args.key c.args.handles.now c.add.new.self c.add.ensures.rows c.add.ensures.fresh c.add.ensures.refused

pub returns-in-None-clause-keys : goal.returns-in-None-clause-keys
returns-in-None-clause-keys c = came_keys c.add.result c.args.key c.args.handles.now c.add.new.self (sym c.in-None.ensures.handle) c.add.ensures.rows

pub returns-in-None-clause-rising : goal.returns-in-None-clause-rising
returns-in-None-clause-rising c = came_rising c.add.result c.args.key c.args.handles.now c.add.new.self (sym c.in-None.ensures.handle) c.add.ensures.rows c.add.ensures.refused c.in-None.ensures.rows.keys.rising
