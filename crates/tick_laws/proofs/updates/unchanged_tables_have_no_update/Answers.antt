use Rattle.tick_laws.proofs.WholeUpdates.{between-unchanged}
use Rattle.tick_laws.proofs.updates.unchanged_tables_have_no_update.Goals as goal

pub returns : goal.returns
returns c = between-unchanged
