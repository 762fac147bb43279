use Rattle.std.proofs.Common.{rules}
use Rattle.steal_workers.proofs.Tallies.{renews}
use Rattle.steal_workers.proofs.own.Own.empty.Goals as goal

pub another-requires : goal.another-requires
another-requires c = renews _ _ (search rules) c.drain.ensures.even
