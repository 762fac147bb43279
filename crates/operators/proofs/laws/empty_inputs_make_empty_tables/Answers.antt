use Rattle.operators.proofs.Each.{empty_result}
use Rattle.operators.proofs.laws.empty_inputs_make_empty_tables.Goals as goal

pub returns : goal.returns
returns c = empty_result
