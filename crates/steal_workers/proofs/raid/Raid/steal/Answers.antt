use Rattle.std.proofs.Common.{rules, ◌≡◌, arith}
use Rattle.crossbeam_deque.specs.Handles.{view}
use Rattle.steal_workers.proofs.Tallies.{takes}
use Rattle.steal_workers.proofs.raid.Raid.steal.Goals as goal

pub steal_as-requires-clause-takes : goal.steal_as-requires-clause-takes
steal_as-requires-clause-takes c =
    let one : (view c.in-Some.pass).parts ≡ 1 = search rules in
    takes _ _ (omega (arith, one))
