use Rattle.tick_laws.proofs.Carried.{carry-between, pairs-between}
use Rattle.tick_laws.proofs.updates.update_carries.Goals as goal

pub returns-clause-table : goal.returns-clause-table
returns-clause-table c = carry-between

pub returns-clause-kept : goal.returns-clause-kept
returns-clause-kept c = pairs-between
