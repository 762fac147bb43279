use Rattle.tick_laws.proofs.ToldRows.{change-carries}
use Rattle.viewport.proofs.Mirroring.{tick_taken}
use Rattle.viewport.proofs.laws.mirrors_take_ticks.Goals as goal

pub returns-clause-taken : goal.returns-clause-taken
returns-clause-taken c = tick_taken

pub returns-clause-rows : goal.returns-clause-rows
returns-clause-rows c = change-carries
