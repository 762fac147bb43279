use Rattle.std.proofs.Common.{◌≡◌, map}
use Rattle.std.specs.List.{range_with_len}
use Rattle.made_run.specs.Tables.{ref_row as row_of}
use Rattle.made_run.proofs.opening.ref_table.Given as goal

abbrev pub invariant-loop-symbol : goal.invariant-loop-symbol
invariant-loop-symbol l = l.rows ≡ map row_of (range_with_len 0 l.symbol)
