use Rattle.tick_laws.proofs.ResultTables.{result_table}
use Rattle.tick_laws.proofs.operators.operators_make_tables.Goals as goal

pub returns : goal.returns
returns c = result_table
