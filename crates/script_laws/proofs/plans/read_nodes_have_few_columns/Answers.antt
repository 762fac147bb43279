use Rattle.script_laws.proofs.Lawful.{script_written}
use Rattle.script_laws.proofs.plans.read_nodes_have_few_columns.Goals as goal

pub returns : goal.returns
returns c bytes script read = (script_written bytes script read).columns
