use Rattle.tick_laws.{proofs.GoodSteps.{good_reached, good_within}, proofs.RunTicks.reached_before}
use Rattle.tick_laws.proofs.runs.good_steps_are_reached.Goals as goal

pub returns-clause-within : goal.returns-clause-within
returns-clause-within c = good_within

pub returns-clause-reached : goal.returns-clause-reached
returns-clause-reached c = good_reached

pub returns-clause-before : goal.returns-clause-before
returns-clause-before c = reached_before
