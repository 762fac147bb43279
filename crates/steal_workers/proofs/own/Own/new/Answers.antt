use Rattle.steal_workers.proofs.Tallies.{begins}
use Rattle.steal_workers.proofs.own.Own.new.Goals as goal

pub fifo_as-requires : goal.fifo_as-requires
fifo_as-requires c = begins
