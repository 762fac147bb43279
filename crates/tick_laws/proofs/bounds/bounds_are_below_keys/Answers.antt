use Rattle.tick_laws.{proofs.LawfulPlans.{bounds_room, lawful_plan}, proofs.Paired.no_node}
use Rattle.tick_laws.proofs.bounds.bounds_are_below_keys.Goals as goal

pub returns : goal.returns
returns c plan h = bounds_room plan no_node (lawful_plan plan no_node h)
