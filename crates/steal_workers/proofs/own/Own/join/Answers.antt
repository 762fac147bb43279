use Rattle.std.proofs.Common.{rules}
use Rattle.steal_workers.proofs.Tallies.{joins}
use Rattle.steal_workers.proofs.own.Own.join.Goals as goal

pub absorb-requires-clause-rule : goal.absorb-requires-clause-rule
absorb-requires-clause-rule c = joins _ _ _ _ (search rules)
