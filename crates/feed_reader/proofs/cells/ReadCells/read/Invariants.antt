use Rattle.feed_reader.{specs.Records.at_hand, proofs.CellLemmas.ReadSoFar}
use Rattle.feed_reader.proofs.cells.ReadCells.read.Given as goal

abbrev pub invariant-loop-place : goal.invariant-loop-place
invariant-loop-place l = ReadSoFar l.columns (at_hand l.fields) l.first l.place l.fn.self l.self
