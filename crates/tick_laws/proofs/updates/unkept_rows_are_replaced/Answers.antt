use Rattle.tick_laws.proofs.WholeUpdates.{between-replaced}
use Rattle.tick_laws.proofs.updates.unkept_rows_are_replaced.Goals as goal

pub returns : goal.returns
returns c = between-replaced
