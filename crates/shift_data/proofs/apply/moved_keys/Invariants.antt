use Rattle.std.proofs.Common.{◌≡◌, take}
use Rattle.row_set.specs.Ranges.{keys_of}
use Rattle.tick_model.specs.Rules.{landed}
use Rattle.shift_data.proofs.Followed.{AreLeft}
use Rattle.shift_data.proofs.apply.moved_keys.Given as goal

abbrev pub invariant-loop-run : goal.invariant-loop-run
invariant-loop-run l = (l.places ≡ landed l.shifts (keys_of (take l.run-index l.runs))) × AreLeft l.shifts l.runs l.run-index l.ranges
