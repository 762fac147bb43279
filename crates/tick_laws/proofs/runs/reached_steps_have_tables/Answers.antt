use Rattle.tick_laws.proofs.ReachedTables.{reached_tables}
use Rattle.tick_laws.proofs.runs.reached_steps_have_tables.Goals as goal

pub returns : goal.returns
returns c = reached_tables
