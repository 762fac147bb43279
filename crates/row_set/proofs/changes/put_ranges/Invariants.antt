use Rattle.std.proofs.Common.{◌≡◌, ◌-◌, length, take}
use Rattle.row_set.{specs.Sets.united, specs.Ranges.keys_of, specs.Runs.{IsRoom, IsStored, lying}}
use Rattle.row_set.proofs.changes.put_ranges.Given as goal

abbrev pub invariant-loop-range : goal.invariant-loop-range
invariant-loop-range l =
    IsStored l.runs
    × (keys_of (lying l.runs) ≡ united (keys_of (take l.range-index l.others)) (keys_of (lying l.fn.runs)))
    × IsRoom (length l.others - l.range-index) l.runs
