use Rattle.tick_laws.proofs.CheckedUpdates.{tick-carry}
use Rattle.tick_laws.proofs.checks.checked_updates_are_ticks.Goals as goal

pub returns : goal.returns
returns c = tick-carry
