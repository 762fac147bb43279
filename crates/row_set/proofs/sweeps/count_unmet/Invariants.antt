use Rattle.std.proofs.Common.{◌≡◌, take}
use Rattle.key_lists.specs.Keys.{without}
use Rattle.row_set.specs.Ranges.{keys_of}
use Rattle.row_set.proofs.sweeps.count_unmet.Given as goal

abbrev pub invariant-loop-index : goal.invariant-loop-index
invariant-loop-index l = keys_of l.ranges ≡ without (keys_of (take l.index l.others)) (keys_of l.ranges)
