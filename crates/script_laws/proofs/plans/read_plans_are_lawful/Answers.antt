use Rattle.script_laws.proofs.Lawful.{bound_lawful}
use Rattle.script_laws.proofs.plans.read_plans_are_lawful.Goals as goal

pub returns : goal.returns
returns c = bound_lawful
