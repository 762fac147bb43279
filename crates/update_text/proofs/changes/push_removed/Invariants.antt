use Rattle.std.proofs.Common.{◌≡◌, ◌++◌, take, map}
use Rattle.tick_model.specs.Texts.{records_text}
use Rattle.update_text.specs.Told.{range_record}
use Rattle.update_text.proofs.changes.push_removed.Given as goal

abbrev pub invariant-loop-range : goal.invariant-loop-range
invariant-loop-range l = l.text.items ≡ l.fn.text.items ++ records_text (map range_record (take l.range-index l.ranges))
