use Rattle.std.proofs.Common.{◌-◌, sym, ◌∙◌, arith}
use Rattle.tick_model.proofs.RisingNumbers.{rises_at_last}
use Rattle.tick_model.proofs.lawful.rises.Goals as goal

pub returns : goal.returns
returns c = sym (rises_at_last c.args.numbers.now (c.loop-i.i - 1) (omega arith)) ∙ c.loop-i.invariant
