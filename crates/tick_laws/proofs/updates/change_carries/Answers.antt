use Rattle.tick_laws.proofs.ToldRows.{change-carries}
use Rattle.tick_laws.proofs.updates.change_carries.Goals as goal

pub returns : goal.returns
returns c = change-carries
