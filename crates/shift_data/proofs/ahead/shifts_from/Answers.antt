use Rattle.shift_data.proofs.Onward.{shifts_left, same_left}
use Rattle.shift_data.proofs.ahead.shifts_from.Goals as goal

pub returns-clause-list : goal.returns-clause-list
returns-clause-list c = shifts_left c.args.shifts.now c.ended_before.result c.requires

pub returns-clause-same : goal.returns-clause-same
returns-clause-same c = λ other le. same_left c.args.shifts.now c.ended_before.result c.args.key other c.ended_before.ensures.ended le
