use Rattle.std.proofs.Common.{◌≡◌, ◌-◌, length, take}
use Rattle.key_lists.specs.Keys.{without}
use Rattle.row_set.{specs.Ranges.keys_of, specs.Runs.{IsRoom, IsStored, lying}}
use Rattle.row_set.proofs.changes.take_ranges.Given as goal

abbrev pub invariant-loop-range : goal.invariant-loop-range
invariant-loop-range l =
    IsStored l.runs
    × (keys_of (lying l.runs) ≡ without (keys_of (take l.range-index l.others)) (keys_of (lying l.fn.runs)))
    × IsRoom (length l.others - l.range-index) l.runs
