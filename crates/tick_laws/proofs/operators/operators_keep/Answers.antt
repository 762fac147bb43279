use Rattle.tick_laws.proofs.OperatorTicks.{operator_keeps}
use Rattle.tick_laws.proofs.operators.operators_keep.Goals as goal

pub returns : goal.returns
returns c = operator_keeps
