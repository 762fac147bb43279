use Rattle.std.proofs.Common.{◌/◌, arith}
use Rattle.logical_clock.proofs.ClockValue.state.Goals as goal

pub returns-else-self-eq1 : goal.returns-else-self-eq1
returns-else-self-eq1 c = (c.args.self.now.0 / 2, (let odd = c.if-self-eq1.false in omega arith))
