use Rattle.std.proofs.Common.{◌≡◌, take}
use Rattle.std.specs.Prelude.{flat_map}
use Rattle.tick_model.specs.Sources.{keys_within}
use Rattle.source_changes.proofs.blocks.keys_in.Given as goal

abbrev pub invariant-loop-range : goal.invariant-loop-range
invariant-loop-range l = l.keys ≡ flat_map keys_within (take l.range-index l.ranges)
