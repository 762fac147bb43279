use Rattle.tick_laws.proofs.RunTicks.{run_ticks}
use Rattle.tick_laws.proofs.runs.nodes_are_ticks.Goals as goal

pub returns : goal.returns
returns c = run_ticks
