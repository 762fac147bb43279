use Rattle.tick_laws.proofs.RunTicks.{count_ticks, tick_of_inputs}
use Rattle.tick_laws.proofs.nodes.nodes_make_their_ticks.Goals as goal

pub returns-clause-count : goal.returns-clause-count
returns-clause-count c = count_ticks

pub returns-clause-each : goal.returns-clause-each
returns-clause-each c = tick_of_inputs
