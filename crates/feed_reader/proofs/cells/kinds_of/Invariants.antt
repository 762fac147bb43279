use Rattle.std.proofs.Common.{◌≡◌, take}
use Rattle.feed_reader.specs.Cells.{kinds_in}
use Rattle.feed_reader.proofs.cells.kinds_of.Given as goal

abbrev pub invariant-loop-column : goal.invariant-loop-column
invariant-loop-column l = l.kinds.items ≡ kinds_in (take l.column-index l.columns)
