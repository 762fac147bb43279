use Rattle.snapshot_store.proofs.RuleSays.{one_turn, turn_of_writer, still}
use Rattle.snapshot_store.proofs.laws.the_turn_is_had_once.Goals as goal

pub returns-clause-once : goal.returns-clause-once
returns-clause-once c = λ key. one_turn key.value

pub returns-clause-writer : goal.returns-clause-writer
returns-clause-writer c = λ key. turn_of_writer key.value

pub returns-clause-still : goal.returns-clause-still
returns-clause-still c = λ key. still key.value
