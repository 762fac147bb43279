use Rattle.row_set.proofs.Apart.{stored_set}
use Rattle.row_set.proofs.rows.RowSet.get.Goals as goal

pub returns-clause-keys : goal.returns-clause-keys
returns-clause-keys c = stored_set c.args.self.now c.self.inside.runs c.self.view_is c.self.invariant
