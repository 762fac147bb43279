use Rattle.std.proofs.Common.{[]}
use Rattle.script_laws.proofs.Lawful.{script_lawful}
use Rattle.script_laws.proofs.plans.read_nodes_are_few.Goals as goal

pub returns : goal.returns
returns c bytes script read = (script_lawful [] bytes script read).few
