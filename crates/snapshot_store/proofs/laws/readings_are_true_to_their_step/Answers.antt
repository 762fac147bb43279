use Rattle.snapshot_store.proofs.RuleSays.{within_rows, true_to_steps}
use Rattle.snapshot_store.proofs.laws.readings_are_true_to_their_step.Goals as goal

pub returns-clause-rows : goal.returns-clause-rows
returns-clause-rows c = λ key. within_rows key.value

pub returns-clause-words : goal.returns-clause-words
returns-clause-words c = λ key. true_to_steps key.value
