use Rattle.std.proofs.Common.{◌≡◌, ◌-◌, suc, vec_len, ℕ}
use Rattle.sort_op.specs.Ranks.{cell_in, lists_of}
use Rattle.sort_op.proofs.sort_cells.make_column.Given as goal

abbrev pub invariant-loop-columns : goal.invariant-loop-columns
invariant-loop-columns l = (at handle : ℕ) → cell_in (lists_of l.columns.items) at handle ≡ cell_in (lists_of l.initial.columns.items) at handle

abbrev pub decreases-loop-columns : goal.decreases-loop-columns
decreases-loop-columns l = suc l.place - vec_len l.columns
