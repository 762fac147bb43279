use Rattle.tick_laws.proofs.SourceTicks.{source_tick}
use Rattle.tick_laws.proofs.sources.sources_are_ticks.Goals as goal

pub returns : goal.returns
returns c = source_tick
