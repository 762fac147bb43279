use Rattle.std.proofs.Common.{◌≡◌, take, Ok}
use Rattle.script_reader.specs.Checks.{each, gathered_of}
use Rattle.script_reader.proofs.members.aggregates_of.Given as goal

abbrev pub invariant-loop-column : goal.invariant-loop-column
invariant-loop-column l = each (gathered_of l.columns) (take l.column-index l.gathered) ≡ Ok l.aggs
