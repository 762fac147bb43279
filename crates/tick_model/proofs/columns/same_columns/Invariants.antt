use Rattle.std.proofs.Common.{◌≡◌, ◌≤◌, length, drop}
use Rattle.tick_model.specs.Columns.{same_columns}
use Rattle.tick_model.proofs.columns.same_columns.Given as goal

abbrev pub invariant-loop-i : goal.invariant-loop-i
invariant-loop-i l = (l.i ≤ length l.others) × (same_columns (drop l.i l.columns) (drop l.i l.others) ≡ same_columns l.columns l.others)
