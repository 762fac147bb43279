use Rattle.std.proofs.Common.{◌≡◌, map, take}
use Rattle.replay.specs.Printed.{published_of}
use Rattle.replay.proofs.printed.published_nodes.Given as goal

abbrev pub invariant-loop-table : goal.invariant-loop-table
invariant-loop-table l = l.published ≡ map (published_of l.run) (take l.table-index l.run.plan.published)
