use Rattle.steal_workers.proofs.Tallies.{balanced, taken_once}
use Rattle.steal_workers.proofs.deques.numbers_are_taken_once.Goals as goal

pub returns-clause-balance : goal.returns-clause-balance
returns-clause-balance c = balanced

pub returns-clause-once : goal.returns-clause-once
returns-clause-once c = taken_once
