use Rattle.std.proofs.Common.{◌≡◌, ◌++◌, map, take, length}
use Rattle.script_reader.specs.Checks.{named_columns}
use Rattle.script_reader.proofs.columns.push_new.Given as goal

abbrev pub invariant-loop-column : goal.invariant-loop-column
invariant-loop-column g l = l.columns ≡ l.initial.columns ++ named_columns (map g.T.NewColumn.new_name (take (length l.yielded) l.named)) (take (length l.yielded) l.kinds)
