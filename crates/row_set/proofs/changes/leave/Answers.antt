use Rattle.std.proofs.Common.{◌+◌, ◌-◌, arith}
use Rattle.row_set.proofs.Lying.{room_weaker}
use Rattle.row_set.proofs.changes.leave.Goals as goal

pub returns-in-None-None-clause-room : goal.returns-in-None-None-clause-room
returns-in-None-None-clause-room c = λ more h. c.replace.ensures.room more (room_weaker (more + (0 - (c.args.to - c.args.from))) (more + 1) c.args.runs.now (omega arith) h)

pub returns-in-Some-Some-clause-room : goal.returns-in-Some-Some-clause-room
returns-in-Some-Some-clause-room c = λ more h. c.replace-in-Some-Some.ensures.room more (room_weaker (more + (2 - (c.args.to - c.args.from))) (more + 1) c.args.runs.now (omega (arith, c.requires.some)) h)

pub returns-in-Some-None-clause-room : goal.returns-in-Some-None-clause-room
returns-in-Some-None-clause-room c = λ more h. c.replace-in-Some-None.ensures.room more (room_weaker (more + (1 - (c.args.to - c.args.from))) (more + 1) c.args.runs.now (omega arith) h)
