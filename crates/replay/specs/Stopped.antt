-- What it is for a run that its graph stops, or that a text is not written.
use Rattle.update_graph.{specs.declared.stop.Stop.Stop, specs.declared.stop.Stop.TheVariants.{Memory as NoMemory, Feed as BadFeed, Node as BadNode}}
use Rattle.update_text.{specs.declared.fault.WriteFault.WriteFault, specs.declared.fault.WriteFault.TheVariants.{Memory as OutOfMemory, Failed}}
use Rattle.replay.{specs.declared.outcome.Outcome.Outcome, specs.declared.outcome.Outcome.TheVariants.{Memory, Feed, Node, Write}}

abbrev pub outcome_of_stop : Stop → Outcome
outcome_of_stop NoMemory = Memory
outcome_of_stop (BadFeed step number fault) = Feed step number fault
outcome_of_stop (BadNode step node kind) = Node step node kind

abbrev pub outcome_of_write : WriteFault → Outcome
outcome_of_write OutOfMemory = Memory
outcome_of_write Failed = Write
