use Rattle.steal_workers.proofs.Tallies.{nothing_before}
use Rattle.steal_workers.proofs.deques.runs_begin_with_nothing.Goals as goal

pub returns : goal.returns
returns c = nothing_before
