use Rattle.tick_model.specs.Sources.{source_ticks}
use Rattle.tick_laws.proofs.SourceTicks.{source_new, source_old}
use Rattle.tick_laws.proofs.sources.sources_go_from_step_to_step.Goals as goal

pub returns-clause-old : goal.returns-clause-old
returns-clause-old c = source_old

pub returns-clause-new : goal.returns-clause-new
returns-clause-new c run step = source_new (source_ticks run step)
