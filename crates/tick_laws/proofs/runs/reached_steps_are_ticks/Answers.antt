use Rattle.tick_laws.proofs.RunTicks.{lawful_ticks}
use Rattle.tick_laws.proofs.runs.reached_steps_are_ticks.Goals as goal

pub returns : goal.returns
returns c = lawful_ticks
