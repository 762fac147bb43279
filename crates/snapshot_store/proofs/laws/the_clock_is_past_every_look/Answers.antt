use Rattle.snapshot_store.proofs.RuleSays.{past_looks, floor_of_writer, clock_of_writer}
use Rattle.snapshot_store.proofs.laws.the_clock_is_past_every_look.Goals as goal

pub returns-clause-looks : goal.returns-clause-looks
returns-clause-looks c = λ key. past_looks key.value

pub returns-clause-writer : goal.returns-clause-writer
returns-clause-writer c = λ key. floor_of_writer key.value

pub returns-clause-rises : goal.returns-clause-rises
returns-clause-rises c = λ key. clock_of_writer key.value
