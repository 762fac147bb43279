use Rattle.shift_data.proofs.ByRange.{last_up_held, none_held}
use Rattle.shift_data.proofs.in_place.last_held.Goals as goal

pub returns-in_err-last-clause-none : goal.returns-in_err-last-clause-none
returns-in_err-last-clause-none c = rw c.from_residual.ensures (none_held c.args.range c.args.keys.now c.in_err-last.ensures.none)

pub returns-clause-none : goal.returns-clause-none
returns-clause-none c = rw c.then_some.ensures ((last_up_held c.args.range c.args.keys.now c.in_ok-last.last c.in_ok-last.ensures.last).none)

pub returns-clause-begin : goal.returns-clause-begin
returns-clause-begin c = rw c.then_some.ensures ((last_up_held c.args.range c.args.keys.now c.in_ok-last.last c.in_ok-last.ensures.last).begin)

pub returns-clause-last : goal.returns-clause-last
returns-clause-last c = rw c.then_some.ensures ((last_up_held c.args.range c.args.keys.now c.in_ok-last.last c.in_ok-last.ensures.last).last)
