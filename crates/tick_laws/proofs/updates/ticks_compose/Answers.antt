use Rattle.tick_laws.proofs.Composed.{composed_tick}
use Rattle.tick_laws.proofs.updates.ticks_compose.Goals as goal

pub returns : goal.returns
returns c = composed_tick
