use Rattle.operators.proofs.Planning.{planned_node}
use Rattle.operators.proofs.laws.lawful_operators_can_be_made.Goals as goal

pub returns-clause-made : goal.returns-clause-made
returns-clause-made c = λ plan lawful node default less is. (planned_node plan node default lawful less is).made

pub returns-clause-width : goal.returns-clause-width
returns-clause-width c = λ plan lawful node default less is. (planned_node plan node default lawful less is).width
