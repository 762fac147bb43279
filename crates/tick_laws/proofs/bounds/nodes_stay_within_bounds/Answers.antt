use Rattle.tick_laws.proofs.PlanTables.{plan_tables}
use Rattle.tick_laws.proofs.bounds.nodes_stay_within_bounds.Goals as goal

pub returns : goal.returns
returns c = plan_tables
