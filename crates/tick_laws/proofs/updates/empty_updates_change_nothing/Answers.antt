use Rattle.tick_laws.proofs.EmptyUpdates.{unchanged_by_empty}
use Rattle.tick_laws.proofs.updates.empty_updates_change_nothing.Goals as goal

pub returns : goal.returns
returns c = unchanged_by_empty
