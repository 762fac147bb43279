use Rattle.std.proofs.Common.{◌≡◌, map, take}
use Rattle.script_reader.specs.Checks.{column_at}
use Rattle.script_reader.proofs.columns.chosen.Given as goal

abbrev pub invariant-loop-column : goal.invariant-loop-column
invariant-loop-column l = l.copies ≡ map (column_at l.columns) (take l.column-index l.by)
