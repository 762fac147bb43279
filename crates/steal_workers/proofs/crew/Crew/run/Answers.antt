use Rattle.steal_workers.proofs.Marking.{rested_empty}
use Rattle.steal_workers.proofs.crew.Crew.run.Goals as goal

pub returns-in_err-seat-clause-empty : goal.returns-in_err-seat-clause-empty
returns-in_err-seat-clause-empty g c = rested_empty c.rest.new.hands.items c.rest.ensures.rested

pub returns-in_err-work_rest-clause-empty : goal.returns-in_err-work_rest-clause-empty
returns-in_err-work_rest-clause-empty g c = rested_empty c.rest.new.hands.items c.rest.ensures.rested

pub returns-clause-empty : goal.returns-clause-empty
returns-clause-empty g c = rested_empty c.rest.new.hands.items c.rest.ensures.rested
