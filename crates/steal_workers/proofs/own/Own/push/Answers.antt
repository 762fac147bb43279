use Rattle.std.proofs.Common.{rules}
use Rattle.steal_workers.proofs.Tallies.{pushes}
use Rattle.steal_workers.proofs.own.Own.push.Goals as goal

pub push_as-requires-clause-pushes : goal.push_as-requires-clause-pushes
push_as-requires-clause-pushes c = pushes _ _ _ (search rules)
