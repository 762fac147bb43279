use Rattle.std.proofs.Common.{◌≡◌, ◌++◌, map, take}
use Rattle.tick_model.specs.Merge.{row_from}
use Rattle.plain_evaluator.proofs.merges.push_rows.Given as goal

abbrev pub invariant-loop-row : goal.invariant-loop-row
invariant-loop-row l = l.merged.items ≡ l.initial.merged.items ++ map (row_from l.offset) (take l.row-index l.rows)
