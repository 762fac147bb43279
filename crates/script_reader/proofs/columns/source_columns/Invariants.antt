use Rattle.std.proofs.Common.{◌≡◌, map, take}
use Rattle.script_reader.specs.Checks.{source_column}
use Rattle.script_reader.proofs.columns.source_columns.Given as goal

abbrev pub invariant-loop-column : goal.invariant-loop-column
invariant-loop-column l = l.columns ≡ map source_column (take l.column-index l.declared)
