use Rattle.steal_workers.proofs.Tallies.{cuts}
use Rattle.steal_workers.proofs.own.Own.cut.Goals as goal

pub another-requires : goal.another-requires
another-requires c = cuts _ _ c.requires
