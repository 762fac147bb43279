use Rattle.std.proofs.Common.{◌^◌, ◌<◌, ◌≤◌, length}
use Rattle.std.specs.List.{AllByRecursion}
use Rattle.sort_op.{specs.Entries.keys_in, specs.Places.AreUnder, specs.Ranks.listed}
use Rattle.sort_op.proofs.positions.positions_of.Given as goal

abbrev pub invariant-loop-key : goal.invariant-loop-key
invariant-loop-key l = record {
  places : AreUnder (keys_in (listed l.order)) l.yielded l.found.items;
  small : AllByRecursion (λ position. position < 2 ^ 62) l.found.items;
  count : length l.found.items ≤ length l.yielded;
}
