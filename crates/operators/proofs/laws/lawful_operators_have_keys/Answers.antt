use Rattle.operators.proofs.Roomy.{roomy_node}
use Rattle.operators.proofs.laws.lawful_operators_have_keys.Goals as goal

pub returns : goal.returns
returns c = λ plan lawful node default less table h. roomy_node plan node default lawful less table h
